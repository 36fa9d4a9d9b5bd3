-- Laws of what holds of each element of a list, and of some element.
use Rattle.xc_model.proofs.Common.{◌≡◌, Bool, true, false, cond, List, [], ◌∷◌, ◌++◌, refl, sym, subst, inl, inr, ⊎_elim, filter, map, ap}
use Rattle.xc_model.proofs.Common.{Option, Some, None, is_some, list_any, list_all, and_parts, slice_get, ℕ, zero, suc}
use Rattle.std.proofs.lemmas.Bool.{or_from}
use Rattle.xc_model.proofs.StableSort.{Each, Exists}

pub exists-filter : {A : Type 0} (P Q : A → Type 0) (p : A → Bool) → ((x : A) → P x → (p x ≡ true) × Q x) → (xs : List A) → Exists P xs
    → Exists Q (filter p xs)
exists-filter P Q p f [] i = i
exists-filter P Q p f (x ∷ xs) i = ⊎_elim
    (λ h. let k = f x h in subst (λ b. Exists Q (cond b (x ∷ filter p xs) (filter p xs))) (sym k.0) (inl k.1))
    (λ r. elim (p x) as (λ b. Exists Q (cond b (x ∷ filter p xs) (filter p xs)))
    [ true ↦ inr (exists-filter P Q p f xs r) | false ↦ exists-filter P Q p f xs r ])
    i

pub each-filtered : {A : Type 0} (P : A → Type 0) (p : A → Bool) (xs : List A) → ((x : A) → p x ≡ true → P x) → Each P (filter p xs)
each-filtered P p [] f = tt
each-filtered P p (x ∷ xs) f = go (each-filtered P p xs f) (p x) refl
  where
    go : Each P (filter p xs) → (b : Bool) → p x ≡ b → Each P (cond b (x ∷ filter p xs) (filter p xs))
    go ih true e = (f x e, ih)
    go ih false e = ih

pub each-both : {A : Type 0} (P Q : A → Type 0) (xs : List A) → Each P xs → Each Q xs → Each (λ x. P x × Q x) xs
each-both P Q [] h k = tt
each-both P Q (x ∷ xs) h k = ((h.0, k.0), each-both P Q xs h.1 k.1)

pub each-map : {A B : Type 0} (P : B → Type 0) (f : A → B) (xs : List A) → ((x : A) → P (f x)) → Each P (map f xs)
each-map P f [] h = tt
each-map P f (x ∷ xs) h = (h x, each-map P f xs h)

pub exists-map : {A B : Type 0} (f : A → B) (xs : List A) (x : A) → Exists (λ y. y ≡ x) xs → Exists (λ y. y ≡ f x) (map f xs)
exists-map f [] x i = absurd i
exists-map f (y ∷ xs) x i = ⊎_elim (λ e. inl (ap f e)) (λ r. inr (exists-map f xs x r)) i

pub each-at : {A : Type 0} (P : A → Type 0) (xs : List A) (x : A) → Each P xs → Exists (λ y. y ≡ x) xs → P x
each-at P [] x h i = absurd i
each-at P (y ∷ ys) x h i = ⊎_elim (λ e. subst P e h.0) (λ r. each-at P ys x h.1 r) i

pub exists-each : {A : Type 0} (P : A → Type 0) (xs : List A) → Exists P xs → Each (λ x. P x → ⊥) xs → ⊥
exists-each P [] i h = i
exists-each P (x ∷ xs) i h = ⊎_elim (λ a. h.0 a) (λ r. exists-each P xs r h.1) i

pub exists-left : {A : Type 0} (P : A → Type 0) (xs ys : List A) → Exists P xs → Exists P (xs ++ ys)
exists-left P [] ys i = absurd i
exists-left P (x ∷ xs) ys i = ⊎_elim (λ a. inl a) (λ r. inr (exists-left P xs ys r)) i

pub exists-right : {A : Type 0} (P : A → Type 0) (xs ys : List A) → Exists P ys → Exists P (xs ++ ys)
exists-right P [] ys i = i
exists-right P (x ∷ xs) ys i = inr (exists-right P xs ys i)

pub each-front : {A : Type 0} (P : A → Type 0) (xs ys : List A) → Each P (xs ++ ys) → Each P xs
each-front P [] ys h = tt
each-front P (x ∷ xs) ys h = (h.0, each-front P xs ys h.1)

pub each-back : {A : Type 0} (P : A → Type 0) (xs ys : List A) → Each P (xs ++ ys) → Each P ys
each-back P [] ys h = h
each-back P (x ∷ xs) ys h = each-back P xs ys h.1

pub all-each : {A : Type 0} (p : A → Bool) (xs : List A) → list_all p xs ≡ true → Each (λ x. p x ≡ true) xs
all-each p [] e = tt
all-each p (x ∷ xs) e = let parts = and_parts (p x) (list_all p xs) e in (parts.0, all-each p xs parts.1)

pub none-any : {A : Type 0} (p : A → Bool) (xs : List A) → Each (λ x. p x ≡ false) xs → list_any p xs ≡ false
none-any p [] h = refl
none-any p (x ∷ xs) h = or_from (p x) (list_any p xs) h.0 (none-any p xs h.1)

-- what a test of an option finds
pub some-of : {A : Type 0} (o : Option A) → is_some o ≡ true → (x : A) × (o ≡ Some x)
some-of None e = cc
some-of (Some x) e = (x, refl)

pub exists-get : {A : Type 0} (P : A → Type 0) (xs : List A) (i : ℕ) (x : A) → slice_get xs i ≡ Some x → P x → Exists P xs
exists-get P [] i x e h = cc
exists-get P (y ∷ ys) zero x e h = let same : y ≡ x = cc in inl (subst P (sym same) h)
exists-get P (y ∷ ys) (suc i) x e h = inr (exists-get P ys i x e h)
