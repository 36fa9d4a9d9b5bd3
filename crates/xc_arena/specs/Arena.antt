-- An arena, the bytes of operations one behind another.
--     key_at bytes at, value_at bytes at      the key and the value, or None, of the operation that begins at the place
--     op_at bytes at      both
--     Lies bytes at      a well-formed operation lies at the place
--     room_of v      how many operations can be put behind the bytes of v for certain, so that a u32 says where each begins
use Rattle.std.specs.Prelude.{◌≡◌, ℕ, ◌-◌, ◌/◌, true, List, ◌++◌, length, drop, min, Vec, vec_len, vec_capacity}
use Rattle.std.specs.declared.alloc.Global.{Global}
use Rattle.xc_record.specs.Path.{Written}
use Rattle.xc_record.specs.declared.record.Op.{Op}
use Rattle.xc_record.specs.Packed.{encode_op, is_op, text_of, after_text, value_of}
use Rattle.xc_record.specs.declared.packed.TheConstants.{OP_BYTES}
use Rattle.xc_arena.specs.declared.limits.TheConstants.{ARENA_BYTES}

unfoldable pub key_at : List ℕ → ℕ → List ℕ
key_at bytes at = text_of (drop at bytes)

unfoldable pub value_at : List ℕ → ℕ → Written
value_at bytes at = value_of (after_text (drop at bytes))

abbrev pub op_at : List ℕ → ℕ → Op
op_at bytes at = record { key = key_at bytes at; value = value_at bytes at }

pub record Lies (bytes : List ℕ) (at : ℕ) : Type 0 where
  pub before : List ℕ
  pub op : Op
  pub behind : List ℕ
  pub is : bytes ≡ before ++ (encode_op op ++ behind)
  pub place : length before ≡ at
  pub well : is_op op ≡ true

abbrev pub room_of : Vec ℕ Global → ℕ
room_of v = (min (vec_capacity v) ARENA_BYTES - vec_len v) / OP_BYTES
