-- One step of a loop over a list.
use Rattle.std.proofs.Common.{◌≡◌, ℕ, ◌+◌, ◌<◌, List, [], ◌∷◌, ◌++◌, length, take, get_or, zero, suc, refl, arith, ap, sym, ◌∙◌}
use Rattle.std.proofs.Common.{append_assoc}
use Rattle.std.proofs.lemmas.List.{take_more}
use Rattle.std.specs.Prelude.{slice_get, Option, Some, None}
use Rattle.xc_record.specs.Lists.{or_else}

-- the items up to i after xs, with the item at i
pub add_item : {X : Type 0} (xs ys : List X) (i : ℕ) (y : X) → i < length ys → y ≡ get_or ys i y
    → (xs ++ take i ys) ++ y ∷ [] ≡ xs ++ take (i + 1) ys
add_item xs ys i y below is =
    append_assoc xs (take i ys) (y ∷ []) ∙ ap (λ zs. xs ++ zs) (ap (λ z. take i ys ++ z ∷ []) is ∙ sym (take_more ys i y below))

pub get-before : {X : Type 0} (xs ys : List X) (i : ℕ) → i < length xs → slice_get (xs ++ ys) i ≡ slice_get xs i
get-before [] ys i h = absurd (omega arith)
get-before (x ∷ xs) ys zero h = refl
get-before (x ∷ xs) ys (suc i) h = get-before xs ys i (omega arith)

-- which of two places comes first
pub data Where (i k : ℕ) : Type 0 where
  Low : i < k → Where i k
  Same : i ≡ k → Where i k
  High : k < i → Where i k

pub place_of : (i k : ℕ) → Where i k
place_of zero zero = Same refl
place_of zero (suc k) = Low (omega arith)
place_of (suc i) zero = High (omega arith)
place_of (suc i) (suc k) = later (place_of i k)
  where
    later : Where i k → Where (suc i) (suc k)
    later (Low h) = Low (omega arith)
    later (Same h) = Same (omega arith)
    later (High h) = High (omega arith)

pub or-none : {X : Type 0} (o : Option X) → or_else o None ≡ o
or-none None = refl
or-none (Some x) = refl
