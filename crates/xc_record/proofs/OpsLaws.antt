-- Laws of the operations of a record within the rules.
use Rattle.std.proofs.Common.{◌≡◌, true, ◌&&◌, List, [], ◌∷◌, refl}
use Rattle.std.proofs.lemmas.Bool.{and_parts, and_from}
use Rattle.std.specs.List.{list_all}
use Rattle.std.specs.Option.{option_map_or}
use Rattle.xc_base.specs.Names.{is_key, is_value}
use Rattle.xc_record.specs.declared.record.Header.{Header}
use Rattle.xc_record.specs.declared.record.Op.{Op}
use Rattle.xc_record.specs.Hash.{hash_of, holds}
use Rattle.xc_record.specs.Valid.{op_fits}

-- their keys are in the tablet's range
pub ops-hold : (header : Header) (ops : List Op) → list_all (op_fits header) ops ≡ true
    → list_all (λ op. holds header (hash_of op.key)) ops ≡ true
ops-hold header [] e = refl
ops-hold header (op ∷ ops) e =
    let parts = and_parts (op_fits header op) (list_all (op_fits header) ops) e in
    let key = and_parts (is_key op.key) (option_map_or is_value op.value true && holds header (hash_of op.key)) parts.0 in
    let value = and_parts (option_map_or is_value op.value true) (holds header (hash_of op.key)) key.1 in
    and_from _ _ value.1 (ops-hold header ops parts.1)
