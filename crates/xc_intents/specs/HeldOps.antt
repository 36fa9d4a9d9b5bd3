-- The operations that are held, and which of them a call takes.
--     HeldOps      the operations in the order held, for how many more there is room, what a walk looks for, and what was taken
--         out last, as far as it is still known
--     held_op txn sub op      an operation as it is held
--     is_part txn lo hi w      w is of the transaction, and its key's hash is from lo to hi
--     is_rest txn lo hi w      it is not
--     is_sought o w      there is a walk, and it looks for w
--     without_first p xs      the list without its first element that passes
--     given w      what is taken out of a held operation
use Rattle.std.specs.Prelude.{ℕ, Bool, ◌==◌, ◌&&◌, false, not, nat_le, List, [], ◌∷◌, Option, None, Some, if◌then◌else◌}
use Rattle.xc_record.specs.Hash.{hash_of}
use Rattle.xc_record.specs.Kept.{KeyWaiting}
use Rattle.xc_record.specs.declared.record.Op.{Op}
use Rattle.xc_intents.specs.declared.held.Held.{Held}

-- a transaction's operations whose keys' hashes are from lo to hi
pub record Sought : Type 0 where
  pub txn : ℕ
  pub lo : ℕ
  pub hi : ℕ

pub record HeldOps : Type 0 where
  pub held : List KeyWaiting
  pub spare : ℕ
  pub sought : Option Sought
  pub taken : Option Held

abbrev pub held_op : ℕ → ℕ → Op → KeyWaiting
held_op txn sub op = record { key = op.key; txn = txn; sub = sub; value = op.value }

abbrev pub in_range : ℕ → ℕ → ℕ → Bool
in_range lo hi hash = nat_le lo hash && nat_le hash hi

abbrev pub is_part : ℕ → ℕ → ℕ → KeyWaiting → Bool
is_part txn lo hi w = txn == w.txn && in_range lo hi (hash_of w.key)

abbrev pub is_sought : Option Sought → KeyWaiting → Bool
is_sought None w = false
is_sought (Some s) w = is_part s.txn s.lo s.hi w

abbrev pub is_rest : ℕ → ℕ → ℕ → KeyWaiting → Bool
is_rest txn lo hi w = not (is_part txn lo hi w)

abbrev pub without_first : {X : Type 0} → (X → Bool) → List X → List X
without_first p [] = []
without_first p (x ∷ xs) = if p x then xs else (x ∷ without_first p xs)

abbrev pub given : KeyWaiting → Held
given w = record { sub = w.sub; op = record { key = w.key; value = w.value } }
