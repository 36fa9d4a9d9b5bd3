-- The search by halves for the place where a list falls into what passes a test and what doesn't.
use Rattle.std.proofs.Common.{◌≡◌, ℕ, zero, suc, ◌+◌, ◌<◌, ◌≤◌, Bool, true, false, cond, List, [], ◌∷◌, ◌++◌, length, get_or, take, drop}
use Rattle.std.proofs.Common.{refl, ap, sym, ◌∙◌, subst, arith, add-one, ⊎_elim}
use Rattle.std.proofs.lemmas.Bool.{cases_Bool, both_ways}
use Rattle.std.specs.Prelude.{insert}
use Rattle.std.proofs.lemmas.List.{drop_all}
use Rattle.std.specs.Ordering.{is_gt}
use Rattle.std.specs.VecDeque.{deque_len}
use Rattle.std.specs.declared.collections.VecDeque.{VecDeque}
use Rattle.std.specs.declared.alloc.Global.{Global}
use Rattle.std.proofs.lemmas.Grind.{common_steps}
use Rattle.xc_record.proofs.ListLaws.{Each}
use Rattle.xc_versions.specs.Splits.{Splits, Falls}
use Rattle.xc_versions.specs.declared.stored.StoredVersion.{StoredVersion}
use Rattle.xc_versions.specs.Stored.{stored_cmp, InOrder, with_version}
use Rattle.xc_versions.proofs.VersionLaws.{not-above}

-- the length that a queue tells is that of its items
pub deque-long : {X : Type 0} (d : VecDeque X Global) → deque_len d ≡ length d.items
deque-long d = grind (arith, common_steps)

pub each-at : {X : Type 0} (P : X → Type 0) (xs : List X) (i : ℕ) (d : X) → Each P xs → i < length xs → P (get_or xs i d)
each-at P [] i d e h = absurd (omega arith)
each-at P (x ∷ xs) zero d e h = e.0
each-at P (x ∷ xs) (suc i) d e h = each-at P xs i d e.1 (omega arith)

front-suc : {X : Type 0} (p : X → Bool) (xs : List X) (i : ℕ) (d : X) → Falls p xs → i < length xs → p (get_or xs i d) ≡ true
    → Each (λ x. p x ≡ true) (take (suc i) xs)
front-suc p [] i d f h e = absurd (omega arith)
front-suc p (x ∷ xs) zero d f h e = (e, tt)
front-suc p (x ∷ xs) (suc i) d f h e = (
  ⊎_elim (λ g. g) (λ g. absurd (both_ways (p (get_or xs i d)) (each-at (λ y. p y ≡ false) xs i d (f.0 g) (omega arith)) e))
      (cases_Bool (p x)),
  front-suc p xs i d f.1 (omega arith) e,
)

pub front-more : {X : Type 0} (p : X → Bool) (xs : List X) (i : ℕ) (d : X) → Falls p xs → i < length xs → p (get_or xs i d) ≡ true
    → Each (λ x. p x ≡ true) (take (i + 1) xs)
front-more p xs i d f h e = rw add-one (front-suc p xs i d f h e)

pub back-from : {X : Type 0} (p : X → Bool) (xs : List X) (i : ℕ) (d : X) → Falls p xs → i < length xs → p (get_or xs i d) ≡ false
    → Each (λ x. p x ≡ false) (drop i xs)
back-from p [] i d f h e = absurd (omega arith)
back-from p (x ∷ xs) zero d f h e = (e, f.0 e)
back-from p (x ∷ xs) (suc i) d f h e = back-from p xs i d f.1 (omega arith) e

-- ---- the place of a version

pub above-falls : (v : StoredVersion) (xs : List StoredVersion) → InOrder xs → Falls (λ x. is_gt (stored_cmp v x)) xs
above-falls v [] o = tt
above-falls v (x ∷ xs) o = ((λ e. not-above v x xs e o.0), above-falls v xs o.1)

pub insert-with : (v : StoredVersion) (n : ℕ) (xs : List StoredVersion) → Splits (λ x. is_gt (stored_cmp v x)) n xs
    → insert xs n v ≡ with_version v xs
insert-with v n xs s = put n xs s.within s.front s.back
  where
    put : (n : ℕ) (xs : List StoredVersion) → n ≤ length xs → Each (λ x. is_gt (stored_cmp v x) ≡ true) (take n xs)
        → Each (λ x. is_gt (stored_cmp v x) ≡ false) (drop n xs) → take n xs ++ v ∷ drop n xs ≡ with_version v xs
    put zero [] h f b = refl
    put (suc n) [] h f b = absurd (omega arith)
    put zero (y ∷ ys) h f b = sym (ap (λ c. cond c (y ∷ with_version v ys) (v ∷ y ∷ ys)) b.0)
    put (suc n) (y ∷ ys) h f b =
        ap (λ w. y ∷ w) (put n ys (omega arith) f.1 b) ∙ sym (ap (λ c. cond c (y ∷ with_version v ys) (v ∷ y ∷ ys)) f.0)

-- what the search knows while it goes on
pub record Narrows {X : Type 0} (p : X → Bool) (low high : ℕ) (xs : List X) : Type 0 where
  pub rises : low ≤ high
  pub within : high ≤ length xs
  pub front : Each (λ x. p x ≡ true) (take low xs)
  pub back : Each (λ x. p x ≡ false) (drop high xs)

pub narrows-whole : {X : Type 0} (p : X → Bool) (xs : List X) → Narrows p 0 (length xs) xs
narrows-whole p xs = record { rises = omega arith; within = omega arith; front = tt; back = rw (drop_all (length xs) xs (omega arith)) tt }

pub narrows-done : {X : Type 0} (p : X → Bool) (low high : ℕ) (xs : List X) → Narrows p low high xs → high ≤ low → Splits p low xs
narrows-done p low high xs n h =
    let same : high ≡ low = let r = n.rises in omega arith in
    let w = n.within in
    record { within = omega arith; front = n.front; back = subst (λ (k : ℕ). Each (λ x. p x ≡ false) (drop k xs)) same n.back }

pub narrows-front : {X : Type 0} (p : X → Bool) (low high : ℕ) (xs : List X) → Narrows p low high xs → Falls p xs → (i : ℕ) (d : X)
    → i < high → p (get_or xs i d) ≡ true → Narrows p (i + 1) high xs
narrows-front p low high xs n f i d h e =
    let w = n.within in
    let lt : i < length xs = omega arith in
    record { rises = omega arith; within = w; front = front-more p xs i d f lt e; back = n.back }

pub narrows-back : {X : Type 0} (p : X → Bool) (low high : ℕ) (xs : List X) → Narrows p low high xs → Falls p xs → (i : ℕ) (d : X)
    → low ≤ i → i < high → p (get_or xs i d) ≡ false → Narrows p low i xs
narrows-back p low high xs n f i d l h e =
    let w = n.within in
    let lt : i < length xs = omega arith in
    record { rises = l; within = omega arith; front = n.front; back = back-from p xs i d f lt e }

-- where the last passes, all do
pub splits-whole : {X : Type 0} (p : X → Bool) (xs : List X) (i : ℕ) (d : X) → Falls p xs → i + 1 ≡ length xs → p (get_or xs i d) ≡ true
    → Splits p (length xs) xs
splits-whole {X} p xs i d f e t =
    let whole = narrows-front p 0 (length xs) xs (narrows-whole p xs) f i d (omega arith) t in
    narrows-done p (length xs) (length xs) xs (subst (λ (k : ℕ). Narrows p k (length xs) xs) e whole) (omega arith)
