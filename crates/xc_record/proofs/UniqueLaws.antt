-- Of the orders of a list's elements, one at most ascends.
use Rattle.std.proofs.Common.{◌≡◌, ℕ, ◌+◌, ◌<◌, ◌≤◌, Bool, true, false, not, cond, List, [], ◌∷◌, suc, zero, length, get_or, refl, ap, sym}
use Rattle.std.proofs.Common.{subst, arith, ◌⊎◌, inl, inr, sum_by}
use Rattle.std.specs.List.{Contains}
use Rattle.std.specs.List.Sorted.{IsPermutation, IsSortedBy}
use Rattle.std.specs.Cmp.{IsStrictWeakOrder}
use Rattle.std.proofs.lemmas.List.Sorted.{IsPermutation-sym, IsPermutation-trans, sum_by-IsPermutation, Contains-permutation, sorted_far}
use Rattle.std.proofs.lemmas.List.Elements.{recursion_from_All}
use Rattle.std.proofs.lemmas.List.Sums.{sum_by-cons}
use Rattle.xc_record.specs.Sharing.{Ascends}
use Rattle.xc_record.proofs.ListLaws.{Each, Each-weaker}

-- no element is below an earlier one
abbrev Rises : {X : Type 0} → (X → X → Bool) → List X → Type 0
Rises lt [] = Unit {0}
Rises lt (x ∷ xs) = Each (λ z. lt z x ≡ false) xs × Rises lt xs

abbrev In : {X : Type 0} → X → List X → Type 0
In z [] = ⊥
In z (x ∷ xs) = (z ≡ x) ⊎ In z xs

-- how many pass a test
abbrev passes : {X : Type 0} → (X → Bool) → X → ℕ
passes p z = cond (p z) 1 0

none-pass : {X : Type 0} (p : X → Bool) (xs : List X) → Each (λ z. p z ≡ false) xs → sum_by (passes p) xs ≡ 0
none-pass p [] a = refl
none-pass p (x ∷ xs) a = rw a.0 (omega (arith, none-pass p xs a.1))

one-passes : {X : Type 0} (p : X → Bool) (z : X) (xs : List X) → In z xs → p z ≡ true → 1 ≤ sum_by (passes p) xs
one-passes p z [] i e = absurd i
one-passes p z (x ∷ xs) (inl s) e = let t : p x ≡ true = rw s at e in rw (sum_by-cons (passes p) x xs, t) (omega arith)
one-passes p z (x ∷ xs) (inr i) e = omega (arith, one-passes p z xs i e, sum_by-cons (passes p) x xs)

at-in : {X : Type 0} (P : X → Type 0) (z : X) (xs : List X) → In z xs → Each P xs → P z
at-in P z [] i a = absurd i
at-in P z (x ∷ xs) (inl s) a = subst P (sym s) a.0
at-in P z (x ∷ xs) (inr i) a = at-in P z xs i a.1

not-itself : (b : Bool) → (b ≡ true → b ≡ false) → b ≡ false
not-itself true h = h refl
not-itself false h = refl

true-unless : (b : Bool) → (b ≡ false → ⊥) → b ≡ true
true-unless true h = refl
true-unless false h = absurd (h refl)

irreflexive : {X : Type 0} (lt : X → X → Bool) → IsStrictWeakOrder lt → (x : X) → lt x x ≡ false
irreflexive lt o x = not-itself (lt x x) (o.one_way x x)

-- of what is not above y only y itself is in an ascending list that begins with y
first-alone : {X : Type 0} (lt : X → X → Bool) → IsStrictWeakOrder lt → (y : X) (ys : List X) → Ascends lt (y ∷ ys)
    → sum_by (passes (λ z. not (lt y z))) (y ∷ ys) ≡ 1
first-alone lt o y ys a =
    let i = irreflexive lt o y in
    let n = none-pass (λ z. not (lt y z)) ys (Each-weaker (λ z. lt y z ≡ true) (λ z. not (lt y z) ≡ false) (λ z e. rw e refl) ys a.0) in
    rw (sum_by-cons (passes (λ z. not (lt y z))) y ys, i, n) refl

unique : {X : Type 0} (lt : X → X → Bool) → IsStrictWeakOrder lt → (a b : List X) → ((f : X → ℕ) → sum_by f b ≡ sum_by f a)
    → ((z : X) → In z a → In z b) → Rises lt a → Ascends lt b → a ≡ b
unique lt o [] [] same mem r s = refl
unique lt o [] (y ∷ ys) same mem r s = absurd (omega (arith, same (λ _. 1), sum_by-cons (λ _. 1) y ys))
unique lt o (x ∷ xs) [] same mem r s = absurd (mem x (inl refl))
unique {X} lt o (x ∷ xs) (y ∷ ys) same mem r s =
    let one = first-alone lt o y ys s in
    let all = same (passes (λ z. not (lt y z))) in
    let head : x ≡ y = elim (mem x (inl refl)) [
      | inl e ↦ e
      | inr i ↦
          let above : lt y x ≡ true = at-in (λ z. lt y z ≡ true) x ys i s.0 in
          let far : Each (λ z. not (lt y z) ≡ false) xs =
          Each-weaker (λ z. lt z x ≡ false) (λ z. not (lt y z) ≡ false)
          (λ z e. let t : lt y z ≡ true = true-unless (lt y z) (λ f. let g = o.chain y z x f e in cc) in rw t refl) xs r.0 in
          let n = none-pass (λ z. not (lt y z)) xs far in
          let nx : passes (λ z. not (lt y z)) x ≡ 0 = rw above refl in
          absurd (omega (arith, n, nx, one, all, sum_by-cons (passes (λ z. not (lt y z))) x xs))
    ] in
    let tails : (f : X → ℕ)
    → sum_by f ys ≡ sum_by f xs = λ f. let e = same f in let g : f x ≡ f y = ap f head in omega
    (arith, e, g, sum_by-cons f x xs, sum_by-cons f y ys) in
    let i = irreflexive lt o y in
    let members : (z : X) → In z xs → In z ys = λ z iz. elim (mem z (inr iz)) [
      | inl e ↦
          let p : not (lt y z) ≡ true = rw (e, i) refl in
          let many = one-passes (λ w. not (lt y w)) z xs iz p in
          let rest = tails (passes (λ w. not (lt y w))) in
          let none = none-pass (λ w. not (lt y w)) ys
          (Each-weaker (λ w. lt y w ≡ true) (λ w. not (lt y w) ≡ false) (λ w e. rw e refl) ys s.0) in
          absurd (omega (arith, many, rest, none))
      | inr j ↦ j
    ] in
    let tail = unique lt o xs ys tails members r.1 s.1 in
    cc

-- between this form and std's
rises-from-sorted : {X : Type 0} (lt : X → X → Bool) → IsStrictWeakOrder lt → (xs : List X) → IsSortedBy lt xs → Rises lt xs
rises-from-sorted lt o [] s = tt
rises-from-sorted lt o (x ∷ xs) s = (
  recursion_from_All (λ z. lt z x ≡ false) xs (λ k d h. sorted_far lt o (x ∷ xs) s 0 (suc k) d (omega arith) (omega arith)),
  rises-from-sorted lt o xs (λ k d l h. let e : suc k + 1 ≡ suc (k + 1) = omega arith in rw e at (s (suc k) d (omega arith) (omega arith))),
)

in-from-index : {X : Type 0} (xs : List X) (k : ℕ) (z : X) → k < length xs → get_or xs k z ≡ z → In z xs
in-from-index [] k z h e = absurd (omega arith)
in-from-index (x ∷ xs) zero z h e = inl (sym e)
in-from-index (x ∷ xs) (suc k) z h e = inr (in-from-index xs k z (omega arith) e)

contains-from-in : {X : Type 0} (xs : List X) (z : X) → In z xs → Contains xs z
contains-from-in [] z i = absurd i
contains-from-in (x ∷ xs) z (inl e) = (0, omega arith, sym e)
contains-from-in (x ∷ xs) z (inr i) = let c = contains-from-in xs z i in (suc c.0, omega (arith, c.1), c.2)

-- a sorted list is the one ascending list of its elements
pub sorted-unique : {X : Type 0} (lt : X → X → Bool) → IsStrictWeakOrder lt → (xs ys whole : List X) → IsPermutation xs ys
    → IsSortedBy lt ys → IsPermutation xs whole → Ascends lt whole → ys ≡ whole
sorted-unique lt o xs ys whole p s q a =
    let back = IsPermutation-sym xs ys p in
    let there = IsPermutation-trans ys xs whole back q in
    unique lt o ys whole (λ f. sum_by-IsPermutation f ys whole there)
    (λ z i. let c = Contains-permutation ys whole z there (contains-from-in ys z i) in in-from-index whole c.0 z c.1 c.2)
    (rises-from-sorted lt o ys s) a
