-- Laws of the operations of a transaction: those of its accepted intents.
use Rattle.std.proofs.Common.{◌≡◌, ℕ, suc, Bool, true, List, [], ◌∷◌, refl, ◌∙◌}
use Rattle.std.proofs.lemmas.Map.Keys.{any_passes_from_place}
use Rattle.std.specs.Prelude.{Some, flat_map, slice_get}
use Rattle.std.specs.List.{list_any}
use Rattle.xc_record.specs.declared.record.Op.{Op}
use Rattle.xc_record.specs.declared.record.Record.{Record}
use Rattle.xc_record.specs.declared.record.Logs.{Logs}
use Rattle.xc_record.specs.Accepted.{AcceptedTablet, accepted_tablets}
use Rattle.xc_record.specs.Commits.{provisional_ops}
use Rattle.xc_record.proofs.AcceptedLaws.{Each}
use Rattle.xc_record.proofs.IntentLaws.{any_intent, any-provisional}
use Rattle.xc_record.proofs.ListLaws.{Each-append}

-- the operations of the record, where it is an intent of n, are among those of n
pub record OpsIn (logs : Logs) (n : ℕ) (r : Record) : Type 0 where
  pub all : (q : Op → Bool) → any_intent n q r ≡ true → list_any q (provisional_ops logs n) ≡ true

each-from-index : {X : Type 0} (P : X → Type 0) (xs : List X) → ((i : ℕ) (x : X) → slice_get xs i ≡ Some x → P x) → Each P xs
each-from-index P [] f = tt
each-from-index P (x ∷ xs) f = (f 0 x refl, each-from-index P xs (λ i y e. f (suc i) y e))

pub ops-in : (logs : Logs) (n : ℕ) → Each (λ b. Each (OpsIn logs n) b.records) (accepted_tablets logs)
ops-in logs n = each-from-index _ (accepted_tablets logs) (λ i b at. each-from-index _ b.records (λ j r here. record {
  all = λ q e. any-provisional logs n q
      ∙ any_passes_from_place (λ (b : AcceptedTablet). list_any (any_intent n q) b.records) (accepted_tablets logs) i b at
      (any_passes_from_place (any_intent n q) b.records j r here e);
}))

pub each-flat : {X Y : Type 0} (P : Y → Type 0) (f : X → List Y) (xs : List X) → Each (λ x. Each P (f x)) xs → Each P (flat_map f xs)
each-flat P f [] e = tt
each-flat P f (x ∷ xs) e = Each-append P (f x) (flat_map f xs) e.0 (each-flat P f xs e.1)
