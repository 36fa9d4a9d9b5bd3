-- How a call's contract is met.
use Rattle.std.proofs.Common.{◌≡◌, ℕ, ◌-◌, ◌<◌, length, Bool, true, false, not, List, [], ◌∷◌, Option, Some, None, get_or, ap, arith, refl}
use Rattle.std.proofs.Common.{sym, subst, ◌∙◌}
use Rattle.std.specs.Option.{option_map_or}
use Rattle.std.proofs.lemmas.Grind.{common_steps}
use Rattle.std.proofs.lemmas.Option.{slice_get-get_or, slice_get_past, none-some}
use Rattle.xc_source.specs.declared.fail.SourceFail.{SourceFail}
use Rattle.xc_source.specs.declared.fail.SourceFail.TheVariants.{Ended, Conflict}
use Rattle.std.specs.Option.{option_map}
use Rattle.xc_source.specs.Waiting.{holder}
use Rattle.xc_source.specs.Machine.{Machine, Transaction, transaction, is_live}
use Rattle.xc_source.specs.Calls.{unknown, ended, conflict, full, clock_end, first_of, when, write_refusal, commit_refusal}
use Rattle.xc_record.specs.declared.record.Op.{Op}

pub first-none : (r : Option SourceFail) (rs : List (Option SourceFail)) → first_of (r ∷ rs) ≡ None → (r ≡ None) × (first_of rs ≡ None)
first-none None rs h = (refl, h)
first-none (Some f) rs h = absurd (none-some f (sym h))

pub when-none : (b : Bool) (f : SourceFail) → when b f ≡ None → b ≡ false
when-none false f h = refl
when-none true f h = absurd (none-some f (sym h))

not-false : (b : Bool) → not b ≡ false → b ≡ true
not-false true h = refl
not-false false h = sym h

pub live-at : (m : Machine) (n : ℕ) (t : Transaction) → transaction m n ≡ Some t → ended m n ≡ None → is_live t.stage ≡ true
live-at m n t f h =
    let g = when-none (not (option_map_or (λ x. is_live x.stage) (transaction m n) false)) (Ended n) h in
    subst (λ (o : Option Transaction). option_map_or (λ x. is_live x.stage) o false ≡ true) f (not-false _ g)

pub found : (m : Machine) (n : ℕ) (d : Transaction) → unknown m n ≡ None → transaction m n ≡ Some (get_or m.txns (n - 1) d)
found m n d h = grind (arith, common_steps, slice_get-get_or, slice_get_past)

pub found-at : (m : Machine) (n : ℕ) (t : Transaction) → unknown m n ≡ None → t ≡ get_or m.txns (n - 1) t → transaction m n ≡ Some t
found-at m n t h e = found m n t h ∙ ap (λ x. Some x) (sym e)

-- the transaction of a call that isn't refused
pub write-free : (n : ℕ) (op : Op) (m : Machine) → write_refusal n op m ≡ None → (unknown m n ≡ None) × (ended m n ≡ None)
write-free n op m h =
    let a = first-none (unknown m n) (ended m n ∷ conflict m n op ∷ full m 1 ∷ clock_end m 1 ∷ []) h in
    (a.0, (first-none (ended m n) (conflict m n op ∷ full m 1 ∷ clock_end m 1 ∷ []) (a.1)).0)

pub write-unheld : (n : ℕ) (op : Op) (m : Machine) → write_refusal n op m ≡ None → holder m n op.key ≡ None
write-unheld n op m h =
    let a = first-none (unknown m n) (ended m n ∷ conflict m n op ∷ full m 1 ∷ clock_end m 1 ∷ []) h in
    let b = first-none (ended m n) (conflict m n op ∷ full m 1 ∷ clock_end m 1 ∷ []) (a.1) in
    none-held (holder m n op.key) (first-none (conflict m n op) (full m 1 ∷ clock_end m 1 ∷ []) (b.1)).0
  where
    none-held : (o : Option ℕ) → option_map (λ other. Conflict other) o ≡ None → o ≡ None
    none-held None e = refl
    none-held (Some k) e = absurd (none-some (Conflict k) (sym e))

pub commit-free : (n : ℕ) (m : Machine) → commit_refusal n m ≡ None → (unknown m n ≡ None) × (ended m n ≡ None)
commit-free n m h =
    let a = first-none (unknown m n) (ended m n ∷ clock_end m 1 ∷ []) h in (a.0, (first-none (ended m n) (clock_end m 1 ∷ []) (a.1)).0)

pub found-within : (m : Machine) (n : ℕ) → unknown m n ≡ None → n - 1 < length m.txns
found-within m n h = grind (arith, common_steps, slice_get-get_or, slice_get_past)
