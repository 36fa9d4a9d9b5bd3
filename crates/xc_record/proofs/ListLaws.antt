-- Laws of lists and options.
use Rattle.std.proofs.Common.{◌≡◌, ℕ, zero, suc, Bool, true, false, cond, List, [], ◌∷◌, ◌++◌, Option, Some, None, refl, ap, sym, ◌∙◌}
use Rattle.std.proofs.Common.{subst}
use Rattle.std.specs.Prelude.{filter, slice_get, if◌then◌else◌}
use Rattle.std.specs.List.{list_all}
pub use Rattle.std.specs.List.{AllByRecursion as Each}
use Rattle.std.proofs.lemmas.Bool.{and_parts}

pub Each-append : {X : Type 0} (P : X → Type 0) (xs ys : List X) → Each P xs → Each P ys → Each P (xs ++ ys)
Each-append P [] ys h k = k
Each-append P (x ∷ xs) ys h k = (h.0, Each-append P xs ys h.1 k)

pub Each-filter : {X : Type 0} (P : X → Type 0) (p : X → Bool) (xs : List X) → Each P xs → Each P (filter p xs)
Each-filter P p [] e = tt
Each-filter P p (x ∷ xs) e =
    elim (p x) as (λ c. Each P (cond c (x ∷ filter p xs) (filter p xs)))
    [ true ↦ (e.0, Each-filter P p xs e.1) | false ↦ Each-filter P p xs e.1 ]

pub Each-weaker : {X : Type 0} (P Q : X → Type 0) → ((x : X) → P x → Q x) → (xs : List X) → Each P xs → Each Q xs
Each-weaker P Q f [] h = tt
Each-weaker P Q f (x ∷ xs) h = (f x h.0, Each-weaker P Q f xs h.1)

pub all-at : {X : Type 0} (p : X → Bool) (xs : List X) (i : ℕ) (x : X) → list_all p xs ≡ true → slice_get xs i ≡ Some x → p x ≡ true
all-at p [] i x e there = cc
all-at p (y ∷ xs) zero x e there = let same : y ≡ x = cc in ap p (sym same) ∙ (and_parts (p y) (list_all p xs) e).0
all-at p (y ∷ xs) (suc i) x e there = all-at p xs i x (and_parts (p y) (list_all p xs) e).1 there

-- elements by their index

pub each-get : {X : Type 0} (P : X → Type 0) (xs : List X) (i : ℕ) (x : X) → Each P xs → slice_get xs i ≡ Some x → P x
each-get P [] i x h e = cc
each-get P (y ∷ ys) zero x h e = let same : y ≡ x = cc in subst P same h.0
each-get P (y ∷ ys) (suc i) x h e = each-get P ys i x h.1 e

pub each-from : {X : Type 0} (P : X → Type 0) (xs : List X) → ((i : ℕ) (x : X) → slice_get xs i ≡ Some x → P x) → Each P xs
each-from P [] h = tt
each-from P (y ∷ ys) h = (h 0 y refl, each-from P ys (λ i x e. h (suc i) x e))

pub slice_get-append : {X : Type 0} (xs ys : List X) (i : ℕ) (x : X) → slice_get xs i ≡ Some x → slice_get (xs ++ ys) i ≡ Some x
slice_get-append [] ys i x e = cc
slice_get-append (y ∷ xs) ys zero x e = e
slice_get-append (y ∷ xs) ys (suc i) x e = slice_get-append xs ys i x e

-- what a filter keeps stands in the list, and passes
pub filtered-get : {X : Type 0} (p : X → Bool) (xs : List X) (j : ℕ) (x : X) → slice_get (filter p xs) j ≡ Some x
    → (i : ℕ) × ((slice_get xs i ≡ Some x) × (p x ≡ true))
filtered-get p [] j x e = cc
filtered-get p (y ∷ ys) j x e = go (p y) refl (λ j e. filtered-get p ys j x e) j e
  where
    go : (b : Bool) → p y ≡ b
        → ((j : ℕ) → slice_get (filter p ys) j ≡ Some x → (i : ℕ) × ((slice_get ys i ≡ Some x) × (p x ≡ true))) → (j : ℕ)
        → slice_get (cond b (y ∷ filter p ys) (filter p ys)) j ≡ Some x → (i : ℕ) × ((slice_get (y ∷ ys) i ≡ Some x) × (p x ≡ true))
    go true q more zero e = let same : y ≡ x = cc in (0, (e, ap p (sym same) ∙ q))
    go true q more (suc j) e = let deep = more j e in (suc deep.0, deep.1)
    go false q more j e = let deep = more j e in (suc deep.0, deep.1)

-- and what passes is kept
pub get-filtered : {X : Type 0} (p : X → Bool) (xs : List X) (i : ℕ) (x : X) → slice_get xs i ≡ Some x → p x ≡ true
    → (j : ℕ) × (slice_get (filter p xs) j ≡ Some x)
get-filtered p [] i x e t = cc
get-filtered p (y ∷ ys) zero x e t =
    let same : y ≡ x = cc in (0, ap (λ b. slice_get (cond b (y ∷ filter p ys) (filter p ys)) 0) (ap p same ∙ t) ∙ e)
get-filtered p (y ∷ ys) (suc i) x e t =
    let deep = get-filtered p ys i x e t in
    elim (p y) as (λ b. (j : ℕ) × (slice_get (cond b (y ∷ filter p ys) (filter p ys)) j ≡ Some x))
    [ true ↦ (suc deep.0, deep.1) | false ↦ deep ]

pub none-cases : {X : Type 0} (b : Bool) (x : X) (rest : Option X) → (if b then Some x else rest) ≡ None → (b ≡ false) × (rest ≡ None)
none-cases true x rest e = cc
none-cases false x rest e = (refl, e)
