-- Laws of `flat_map`, and of what operations put at a key.
use Rattle.xc_model.proofs.Common.{◌≡◌, ℕ, Bool, true, false, cond, List, [], ◌∷◌, ◌++◌, map, refl, ap, ◌∙◌, bytes_eq, filter, flat_map}
use Rattle.xc_model.proofs.Common.{map-append, filter-append, flat_map-append, Op, puts, Each-append}
use Rattle.xc_model.proofs.StableSort.{Each}

pub flat-flat : {A B C : Type 0} (f : A → List B) (g : B → List C) (xs : List A)
    → flat_map g (flat_map f xs) ≡ flat_map (λ x. flat_map g (f x)) xs
flat-flat f g [] = refl
flat-flat f g (x ∷ xs) = flat_map-append g (f x) (flat_map f xs) ∙ ap (λ w. flat_map g (f x) ++ w) (flat-flat f g xs)

pub flat-same : {A B : Type 0} (f g : A → List B) (P : A → Type 0) → ((x : A) → P x → f x ≡ g x) → (xs : List A) → Each P xs
    → flat_map f xs ≡ flat_map g xs
flat-same f g P h [] e = refl
flat-same f g P h (x ∷ xs) e = ap (λ w. w ++ flat_map f xs) (h x e.0) ∙ ap (λ w. g x ++ w) (flat-same f g P h xs e.1)

-- the same at each element
pub flat-all : {A B : Type 0} (f g : A → List B) → ((x : A) → f x ≡ g x) → (xs : List A) → flat_map f xs ≡ flat_map g xs
flat-all f g h [] = refl
flat-all f g h (x ∷ xs) = ap (λ w. w ++ flat_map f xs) (h x) ∙ ap (λ w. g x ++ w) (flat-all f g h xs)

pub filter-flat : {A B : Type 0} (p : B → Bool) (f : A → List B) (xs : List A)
    → filter p (flat_map f xs) ≡ flat_map (λ x. filter p (f x)) xs
filter-flat p f [] = refl
filter-flat p f (x ∷ xs) = filter-append p (f x) (flat_map f xs) ∙ ap (λ w. filter p (f x) ++ w) (filter-flat p f xs)

pub flat-filter : {A B : Type 0} (f : A → List B) (p : A → Bool) (xs : List A)
    → flat_map f (filter p xs) ≡ flat_map (λ x. cond (p x) (f x) []) xs
flat-filter f p [] = refl
flat-filter f p (x ∷ xs) =
    elim (p x) as (λ b. flat_map f (cond b (x ∷ filter p xs) (filter p xs)) ≡ cond b (f x) [] ++ flat_map (λ x. cond (p x) (f x) []) xs)
    [ true ↦ ap (λ w. f x ++ w) (flat-filter f p xs) | false ↦ flat-filter f p xs ]

pub map-flat : {A B C : Type 0} (m : B → C) (f : A → List B) (xs : List A) → map m (flat_map f xs) ≡ flat_map (λ x. map m (f x)) xs
map-flat m f [] = refl
map-flat m f (x ∷ xs) = map-append m (f x) (flat_map f xs) ∙ ap (λ w. map m (f x) ++ w) (map-flat m f xs)

pub flat-none : {A B : Type 0} (f : A → List B) (P : A → Type 0) → ((x : A) → P x → f x ≡ []) → (xs : List A) → Each P xs
    → flat_map f xs ≡ []
flat-none f P h [] e = refl
flat-none f P h (x ∷ xs) e = ap (λ w. w ++ flat_map f xs) (h x e.0) ∙ flat-none f P h xs e.1

pub each-flat : {A B : Type 0} (P : B → Type 0) (f : A → List B) (Q : A → Type 0) → ((x : A) → Q x → Each P (f x)) → (xs : List A)
    → Each Q xs → Each P (flat_map f xs)
each-flat P f Q h [] e = tt
each-flat P f Q h (x ∷ xs) e = Each-append P (f x) (flat_map f xs) (h x e.0) (each-flat P f Q h xs e.1)

pub each-all : {A : Type 0} (P : A → Type 0) → ((x : A) → P x) → (xs : List A) → Each P xs
each-all P f [] = tt
each-all P f (x ∷ xs) = (f x, each-all P f xs)

puts-append : (k : List ℕ) (xs ys : List Op) → puts k (xs ++ ys) ≡ puts k xs ++ puts k ys
puts-append k [] ys = refl
puts-append k (x ∷ xs) ys = elim (bytes_eq k x.key) as
    (λ b. cond b (x.value ∷ puts k (xs ++ ys)) (puts k (xs ++ ys)) ≡ cond b (x.value ∷ puts k xs) (puts k xs) ++ puts k ys)
    [ true ↦ ap (λ w. x.value ∷ w) (puts-append k xs ys) | false ↦ puts-append k xs ys ]

pub puts-flat : {A : Type 0} (k : List ℕ) (f : A → List Op) (xs : List A) → puts k (flat_map f xs) ≡ flat_map (λ x. puts k (f x)) xs
puts-flat k f [] = refl
puts-flat k f (x ∷ xs) = puts-append k (f x) (flat_map f xs) ∙ ap (λ w. puts k (f x) ++ w) (puts-flat k f xs)
