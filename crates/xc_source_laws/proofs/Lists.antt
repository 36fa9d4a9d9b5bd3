-- Lists in which one element is put in the place of another.
use Rattle.std.proofs.Common.{◌≡◌, ℕ, zero, suc, List, [], ◌∷◌, ◌++◌, length, map, Option, Some, refl, ap}
use Rattle.std.proofs.Common.{subst, arith, inl, inr, ⊎_elim}
use Rattle.std.specs.Prelude.{slice_get, slice_set}
use Rattle.std.specs.List.{last_or}
use Rattle.xc_record.proofs.ListLaws.{Each}
use Rattle.xc_model.proofs.StableSort.{Exists}

pub each-replaced : {A : Type 0} (P : A → Type 0) (xs : List A) (b c : A) (ys : List A) → P c → Each P (xs ++ b ∷ ys)
    → Each P (xs ++ c ∷ ys)
each-replaced P [] b c ys p h = (p, h.1)
each-replaced P (x ∷ xs) b c ys p h = (h.0, each-replaced P xs b c ys p h.1)

pub exists-replaced : {A : Type 0} (P : A → Type 0) (xs : List A) (b c : A) (ys : List A) → (P b → P c) → Exists P (xs ++ b ∷ ys)
    → Exists P (xs ++ c ∷ ys)
exists-replaced P [] b c ys f i = ⊎_elim (λ p. inl (f p)) (λ r. inr r) i
exists-replaced P (x ∷ xs) b c ys f i = ⊎_elim (λ p. inl p) (λ r. inr (exists-replaced P xs b c ys f r)) i

pub each-here : {A : Type 0} (P : A → Type 0) (xs : List A) (b : A) (ys : List A) → Each P (xs ++ b ∷ ys) → P b
each-here P [] b ys h = h.0
each-here P (x ∷ xs) b ys h = each-here P xs b ys h.1

pub map-replaced : {A B : Type 0} (f : A → B) (xs : List A) (b c : A) (ys : List A) → f b ≡ f c
    → map f (xs ++ b ∷ ys) ≡ map f (xs ++ c ∷ ys)
map-replaced f [] b c ys e = ap (λ x. x ∷ map f ys) e
map-replaced f (x ∷ xs) b c ys e = ap (λ w. f x ∷ w) (map-replaced f xs b c ys e)

pub last-push : {A : Type 0} (o : Option A) (xs : List A) (x : A) → last_or o (xs ++ x ∷ []) ≡ Some x
last-push o [] x = refl
last-push o (y ∷ ys) x = last-push (Some y) ys x

pub get-seam : {A : Type 0} (xs : List A) (b : A) (ys : List A) (i : ℕ) → length xs ≡ i → slice_get (xs ++ b ∷ ys) i ≡ Some b
get-seam [] b ys i e = subst (λ w. slice_get (b ∷ ys) w ≡ Some b) e refl
get-seam (x ∷ xs) b ys zero e = absurd (omega arith)
get-seam (x ∷ xs) b ys (suc i) e = get-seam xs b ys i (omega arith)

pub set-seam : {A : Type 0} (xs : List A) (b c : A) (ys : List A) (i : ℕ) → length xs ≡ i → slice_set (xs ++ b ∷ ys) i c ≡ xs ++ c ∷ ys
set-seam [] b c ys i e = subst (λ w. slice_set (b ∷ ys) w c ≡ c ∷ ys) e refl
set-seam (x ∷ xs) b c ys zero e = absurd (omega arith)
set-seam (x ∷ xs) b c ys (suc i) e = ap (λ w. x ∷ w) (set-seam xs b c ys i (omega arith))

-- an element and what stands before and after it
pub record Seam {A : Type 0} (xs : List A) (i : ℕ) (x : A) : Type 0 where
  pub before : List A
  pub after : List A
  pub whole : xs ≡ before ++ x ∷ after
  pub number : length before ≡ i

pub seam : {A : Type 0} (xs : List A) (i : ℕ) (x : A) → slice_get xs i ≡ Some x → Seam xs i x
seam [] i x e = cc
seam (y ∷ ys) zero x e = record { before = []; after = ys; whole = let q : y ≡ x = cc in ap (λ w. w ∷ ys) q; number = refl }
seam (y ∷ ys) (suc i) x e =
    let s = seam ys i x e in
    record { before = y ∷ s.before; after = s.after; whole = ap (λ w. y ∷ w) s.whole; number = ap suc s.number }
