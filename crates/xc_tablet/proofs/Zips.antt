-- Lists that are related place by place.
use Rattle.std.proofs.Common.{◌≡◌, ℕ, zero, suc, ◌+◌, ◌-◌, ◌<◌, List, [], ◌∷◌, length, get_or, set, take, drop, refl, ap, sym, ◌∙◌, subst}
use Rattle.std.proofs.Common.{arith, length-drop, ◌⊎◌, inl, inr}
use Rattle.std.specs.List.{All, AllZip, AllByRecursion}
use Rattle.std.proofs.lemmas.List.{drop_more, take_more, take_more_set, drop-set-lt}
use Rattle.std.proofs.lemmas.List.Elements.{AllZip-push}

-- where two lists agree from i on, the element there is that of the first list
pub rest_here : {A : Type 0} (i : ℕ) (old new : List A) (x : A) → i < length old → drop i new ≡ drop i old
    → (i < length new) × (get_or old i x ≡ get_or new i x) × (drop (i + 1) new ≡ drop (i + 1) old)
rest_here i old new x h rest =
    let lens : length new - i ≡ length old - i = sym (length-drop i new) ∙ ap length rest ∙ length-drop i old in
    let h' : i < length new = omega arith in
    let a = drop_more new i x h' in
    let b = drop_more old i x h in
    let e : get_or old i x ≡ get_or new i x = cc in
    let f : drop (i + 1) new ≡ drop (i + 1) old = cc in
    (h', e, f)

-- the relation holds one place further after the write
pub zip_more : {A : Type 0} (R : A → A → Type 0) (i : ℕ) (old new : List A) (x y : A) → i < length old → AllZip R (take i old) (take i new)
    → drop i new ≡ drop i old → x ≡ get_or new i x → R x y
    → AllZip R (take (i + 1) old) (take (i + 1) (set new i y)) × (drop (i + 1) (set new i y) ≡ drop (i + 1) old)
zip_more R i old new x y h first rest is r =
    let p = rest_here i old new x h rest in
    let lt : i < i + 1 = omega arith in
    let e : get_or old i x ≡ x = p.1 ∙ sym is in (
      rw (take_more old i x h, take_more_set new i y p.0, e) (AllZip-push R (take i old) (take i new) x y first r),
      drop-set-lt (i + 1) new i
          y lt ∙ p.2,
    )

pub zip-refl : {A : Type 0} (R : A → A → Type 0) (xs : List A) → ((x : A) → R x x) → AllZip R xs xs
zip-refl R [] h = tt
zip-refl R (x ∷ xs) h = (h x, zip-refl R xs h)

pub zip-with : {A : Type 0} (P : A → Type 0) (R S : A → A → Type 0) (xs ys : List A) → ((x y : A) → P x → R x y → S x y)
    → AllByRecursion P xs → AllZip R xs ys → AllZip S xs ys
zip-with P R S [] [] h p r = tt
zip-with P R S (x ∷ xs) (y ∷ ys) h p r = (h x y p.0 r.0, zip-with P R S xs ys h p.1 r.1)
zip-with P R S [] (y ∷ ys) h p r = absurd r
zip-with P R S (x ∷ xs) [] h p r = absurd r

pub zip-to : {A : Type 0} (P : A → Type 0) (R : A → A → Type 0) (Q : A → Type 0) (xs ys : List A) → ((x y : A) → P x → R x y → Q y)
    → AllByRecursion P xs → AllZip R xs ys → AllByRecursion Q ys
zip-to P R Q [] [] h p r = tt
zip-to P R Q (x ∷ xs) (y ∷ ys) h p r = (h x y p.0 r.0, zip-to P R Q xs ys h p.1 r.1)
zip-to P R Q [] (y ∷ ys) h p r = absurd r
zip-to P R Q (x ∷ xs) [] h p r = absurd r

-- the first ones are related, and the others are the same
pub zip-first : {A : Type 0} (R : A → A → Type 0) (k : ℕ) (xs ys : List A) → AllZip R (take k xs) (take k ys) → drop k ys ≡ drop k xs
    → AllZip (λ x y. R x y ⊎ (y ≡ x)) xs ys
zip-first R zero xs ys first rest =
    subst (AllZip (λ x y. R x y ⊎ (y ≡ x)) xs) (sym rest) (zip-refl (λ x y. R x y ⊎ (y ≡ x)) xs (λ x. inr refl))
zip-first R (suc k) [] [] first rest = tt
zip-first R (suc k) (x ∷ xs) (y ∷ ys) first rest = (inl first.0, zip-first R k xs ys first.1 rest)
zip-first R (suc k) [] (y ∷ ys) first rest = absurd first
zip-first R (suc k) (x ∷ xs) [] first rest = absurd first

-- what holds of each element of the first list holds of the element at i, where the lists agree from there on
pub all-here : {A : Type 0} (P : A → Type 0) (i : ℕ) (old new : List A) (x : A) → i < length old → drop i new ≡ drop i old → All P old
    → P (get_or new i x)
all-here P i old new x l rest all = subst P (rest_here i old new x l rest).1 (all i x l)

-- all of them are related
pub zip-all : {A : Type 0} (R : A → A → Type 0) (xs ys : List A) → AllZip R (take (length xs) xs) (take (length xs) ys)
    → drop (length xs) ys ≡ drop (length xs) xs → AllZip R xs ys
zip-all R [] [] first rest = tt
zip-all R [] (y ∷ ys) first rest = cc
zip-all R (x ∷ xs) (y ∷ ys) first rest = (first.0, zip-all R xs ys first.1 rest)
zip-all R (x ∷ xs) [] first rest = absurd first

pub zip-map : {A : Type 0} (R S : A → A → Type 0) → ((x y : A) → R x y → S x y) → (xs ys : List A) → AllZip R xs ys → AllZip S xs ys
zip-map R S f [] [] z = tt
zip-map R S f [] (y ∷ ys) z = absurd z
zip-map R S f (x ∷ xs) [] z = absurd z
zip-map R S f (x ∷ xs) (y ∷ ys) z = (f x y z.0, zip-map R S f xs ys z.1)
