-- Versions as pages keep them: slots, whose keys and values lie in an arena, the bytes of operations one behind another.
--     seen bytes slot      the version that a slot stands for
--     bytes_of bytes slots      the bytes of their operations, one behind another
use Rattle.std.specs.Prelude.{ℕ, List, flat_map}
use Rattle.xc_record.specs.Packed.{encode_op}
use Rattle.xc_arena.specs.Arena.{key_at, value_at, op_at}
use Rattle.xc_versions.specs.declared.stored.StoredVersion.{StoredVersion}
use Rattle.xc_versions.specs.declared.stored.Slot.{Slot}

abbrev pub seen : List ℕ → Slot → StoredVersion
seen bytes s =
    record { commit = s.commit; place = s.place; txn = s.txn; value = value_at bytes s.at; key = key_at bytes s.at }

abbrev pub bytes_of : List ℕ → List Slot → List ℕ
bytes_of bytes slots = flat_map (λ s. encode_op (op_at bytes s.at)) slots
