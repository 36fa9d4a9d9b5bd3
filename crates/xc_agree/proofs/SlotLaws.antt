-- Laws of what is in its slot.
use Rattle.std.proofs.Common.{◌≡◌, ℕ, ◌<◌, Bool, true, false, List, get_or, length, refl, ap, sym, ◌∙◌}
use Rattle.std.proofs.lemmas.Bool.{eqb-true, eq-eqb}
use Rattle.std.proofs.lemmas.List.Folds.{list_all_at}
use Rattle.std.specs.Prelude.{Option, Some, None, ◌==◌}
use Rattle.std.specs.List.{list_all}
use Rattle.std.specs.Option.{option_map_or}
use Rattle.xc_agree.specs.declared.commits.Commit.{Commit}
use Rattle.xc_agree.specs.Slots.{slot_of}
use Rattle.xc_agree.specs.Seen.{is_in_slot}

pub in-slot : (commits : List Commit) (txn slot : ℕ) → slot_of commits txn ≡ Some slot → is_in_slot commits txn slot ≡ true
in-slot commits txn slot e = rw e (eq-eqb slot slot refl)

pub slot-in : (commits : List Commit) (txn slot : ℕ) → is_in_slot commits txn slot ≡ true → slot_of commits txn ≡ Some slot
slot-in commits txn slot h = go (slot_of commits txn) refl h
  where
    go : (o : Option ℕ) → slot_of commits txn ≡ o → option_map_or (λ i. i == slot) o false ≡ true → o ≡ Some slot
    go None e f = cc
    go (Some i) e f = ap (λ k. Some k) (eqb-true i slot f)

-- of a list in its slots, the item at i
pub slot-at-item : {X : Type 0} (txn slot : X → ℕ) (commits : List Commit) (xs : List X) (i : ℕ) (d : X)
    → list_all (λ x. is_in_slot commits (txn x) (slot x)) xs ≡ true → i < length xs
    → slot_of commits (txn (get_or xs i d)) ≡ Some (slot (get_or xs i d))
slot-at-item txn slot commits xs i d h below =
    slot-in commits (txn (get_or xs i d)) (slot (get_or xs i d)) (go (is_in_slot commits (txn (get_or xs i d)) (slot (get_or xs i d))) refl)
  where
    go : (b : Bool) → is_in_slot commits (txn (get_or xs i d)) (slot (get_or xs i d)) ≡ b → b ≡ true
    go true e = refl
    go false e = sym (list_all_at (λ x. is_in_slot commits (txn x) (slot x)) xs i d below e) ∙ h
