-- How many elements pass a test, and sums over lists of which one element is replaced.
use Rattle.std.proofs.Common.{◌≡◌, ℕ, zero, suc, ◌+◌, ◌≤◌, true, false, Bool, cond, List, [], ◌∷◌, length, map, Some, None}
use Rattle.std.proofs.Common.{refl, ap, ◌∙◌, arith, ⊎_elim, ◌⊎◌}
use Rattle.std.specs.Prelude.{slice_get, slice_set, filter, find, count_by, sum_by}
use Rattle.std.specs.List.{enumerate_from}
use Rattle.std.proofs.lemmas.List.Sums.{sum_by-cons}
use Rattle.xc_record.proofs.ListLaws.{Each}

pub sum-set : {X : Type 0} (f : X → ℕ) (xs : List X) (i : ℕ) (x y : X) → slice_get xs i ≡ Some x
    → sum_by f (slice_set xs i y) + f x ≡ sum_by f xs + f y
sum-set f [] i x y e = cc
sum-set f (z ∷ xs) zero x y e =
    let same : f z ≡ f x = let q : z ≡ x = cc in ap f q in
    let a = sum_by-cons f y xs in
    let b = sum_by-cons f z xs in omega arith
sum-set f (z ∷ xs) (suc i) x y e =
    let a = sum_by-cons f z (slice_set xs i y) in
    let b = sum_by-cons f z xs in
    let c = sum-set f xs i x y e in omega arith

pub bit : Bool → ℕ
bit b = cond b 1 0

pub bit-true : (b : Bool) → b ≡ true → bit b ≡ 1
unfolding bit
bit-true b e = ap (λ c. cond c 1 0) e

pub bit-false : (b : Bool) → b ≡ false → bit b ≡ 0
unfolding bit
bit-false b e = ap (λ c. cond c 1 0) e

pub count-cons : {X : Type 0} (p : X → Bool) (x : X) (xs : List X) → count_by p (x ∷ xs) ≡ bit (p x) + count_by p xs
unfolding bit
count-cons p x xs = sum_by-cons (λ x. cond (p x) 1 0) x xs

pub count-none : {X : Type 0} (p : X → Bool) (xs : List X) → Each (λ x. p x ≡ false) xs → count_by p xs ≡ 0
count-none p [] h = refl
count-none p (x ∷ xs) h =
    let a = count-cons p x xs in
    let b = bit-false (p x) h.0 in
    let c = count-none p xs h.1 in omega arith

bit-two : (a b c : Bool) → (a ≡ true → (b ≡ true) ⊎ (c ≡ true)) → bit a ≤ bit b + bit c
unfolding bit
bit-two false b c f = omega arith
bit-two true true c f = omega arith
bit-two true false true f = omega arith
bit-two true false false f = ⊎_elim (λ e. absurd (let z : ⊥ = cc in z)) (λ e. absurd (let z : ⊥ = cc in z)) (f refl)

-- what passes one of two tests
pub count-two : {X : Type 0} (p q r : X → Bool) → ((x : X) → p x ≡ true → (q x ≡ true) ⊎ (r x ≡ true)) → (xs : List X)
    → count_by p xs ≤ count_by q xs + count_by r xs
count-two p q r f [] = let z : count_by p [] ≡ 0 = refl in omega arith
count-two p q r f (x ∷ xs) =
    let a = count-cons p x xs in
    let b = count-cons q x xs in
    let c = count-cons r x xs in
    let d = bit-two (p x) (q x) (r x) (f x) in
    let e = count-two p q r f xs in omega arith

-- two places at which the test passes
pub count-places : {X : Type 0} (p : X → Bool) (xs : List X) (i : ℕ) (x : X) → slice_get xs i ≡ Some x → p x ≡ true
    → 1 ≤ count_by p xs
count-places p [] i x e h = cc
count-places p (z ∷ xs) zero x e h =
    let q : z ≡ x = cc in
    let a = count-cons p z xs in
    let b = bit-true (p z) (ap p q ∙ h) in omega arith
count-places p (z ∷ xs) (suc i) x e h =
    let a = count-cons p z xs in
    let b = count-places p xs i x e h in omega arith

pub one-place : {X : Type 0} (p : X → Bool) (xs : List X) (i j : ℕ) (x y : X) → count_by p xs ≤ 1 → slice_get xs i ≡ Some x
    → slice_get xs j ≡ Some y → p x ≡ true → p y ≡ true → i ≡ j
one-place p [] i j x y l e f g h = cc
one-place p (z ∷ xs) zero zero x y l e f g h = refl
one-place p (z ∷ xs) zero (suc j) x y l e f g h =
    let q : z ≡ x = cc in
    let a = count-cons p z xs in
    let b = bit-true (p z) (ap p q ∙ g) in
    let c = count-places p xs j y f h in absurd (omega arith)
one-place p (z ∷ xs) (suc i) zero x y l e f g h =
    let q : z ≡ y = cc in
    let a = count-cons p z xs in
    let b = bit-true (p z) (ap p q ∙ h) in
    let c = count-places p xs i x e g in absurd (omega arith)
one-place p (z ∷ xs) (suc i) (suc j) x y l e f g h =
    let a = count-cons p z xs in
    ap suc (one-place p xs i j x y (omega arith) e f g h)

pub find-none : {X : Type 0} (p : X → Bool) (xs : List X) → Each (λ x. p x ≡ false) xs → find p xs ≡ None
find-none p [] h = refl
find-none p (x ∷ xs) h = ap (λ b. cond b (Some x) (find p xs)) h.0 ∙ find-none p xs h.1

-- as many as pass, numbered or not
pub count-numbered : {X : Type 0} (p : X → Bool) (n : ℕ) (xs : List X)
    → length (map (λ (q : ℕ × X). q.0) (filter (λ (q : ℕ × X). p q.1) (enumerate_from n xs))) ≡ count_by p xs
count-numbered p n [] = refl
count-numbered {X} p n (x ∷ xs) =
    let rest = count-numbered p (n + 1) xs in
    let a = count-cons p x xs in
    elim (p x) as (λ b. p x ≡ b
    → length (map (λ (q : ℕ × X). q.0) (cond b ((n, x) ∷ filter (λ (q : ℕ × X). p q.1) (enumerate_from (n + 1) xs))
    (filter (λ (q : ℕ × X). p q.1) (enumerate_from (n + 1) xs)))) ≡ count_by p (x ∷ xs)) [
      | true ↦ λ e. let b = bit-true (p x) e in omega arith
      | false ↦ λ e. let b = bit-false (p x) e in omega arith
    ] refl
