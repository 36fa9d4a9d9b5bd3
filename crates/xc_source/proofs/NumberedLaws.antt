-- Transactions by their numbers, and what is done to one of them.
use Rattle.std.proofs.Common.{◌≡◌, ◌≢◌, ℕ, zero, suc, ◌+◌, ◌-◌, ◌<◌, ◌≤◌, Bool, true, false, List, [], ◌∷◌, length}
use Rattle.std.proofs.Common.{Option, Some, None, refl, ap, sym, ◌∙◌, subst, arith, ⊎_elim, get_or}
use Rattle.std.specs.Prelude.{slice_get, slice_set, if◌then◌else◌, ◌==◌}
use Rattle.std.specs.Option.{option_map_or}
use Rattle.std.proofs.lemmas.Bool.{cases_eq, ne_eqb, true≢false}
use Rattle.std.proofs.lemmas.Bool.Decides.{nat_tests}
use Rattle.std.proofs.lemmas.Option.{none-some, slice_get_within, slice_get-get_or}
use Rattle.xc_source.specs.Machine.{Transaction}
use Rattle.xc_source.specs.Holders.{numbered, changed}

-- ---- a transaction of a list

get-set-same : {A : Type 0} (xs : List A) (i : ℕ) (x y : A) → slice_get xs i ≡ Some x → slice_get (slice_set xs i y) i ≡ Some y
get-set-same [] i x y e = cc
get-set-same (z ∷ xs) zero x y e = refl
get-set-same (z ∷ xs) (suc i) x y e = get-set-same xs i x y e

get-set-other : {A : Type 0} (xs : List A) (i j : ℕ) (y : A) → i ≢ j → slice_get (slice_set xs i y) j ≡ slice_get xs j
get-set-other [] i j y n = refl
get-set-other (z ∷ xs) zero zero y n = absurd (n refl)
get-set-other (z ∷ xs) zero (suc j) y n = refl
get-set-other (z ∷ xs) (suc i) zero y n = refl
get-set-other (z ∷ xs) (suc i) (suc j) y n = get-set-other xs i j y (λ e. n (ap suc e))

unless-none : {A : Type 0} (b : Bool) (o : Option A) (x : A) → (if b then None else o) ≡ Some x → (b ≡ false) × (o ≡ Some x)
unless-none true o x e = absurd (none-some x e)
unless-none false o x e = (refl, e)

pub numbered-at : (ts : List Transaction) (n : ℕ) (t : Transaction) → numbered ts n ≡ Some t → (1 ≤ n) × (slice_get ts (n - 1) ≡ Some t)
numbered-at ts n t e =
    let p = unless-none (n == 0) (slice_get ts (n - 1)) t e in
    let z : (n == 0) ≡ false = p.0 in
    (grind (arith, nat_tests, z), p.1)

pub numbered-pos : (ts : List Transaction) (n : ℕ) → 1 ≤ n → numbered ts n ≡ slice_get ts (n - 1)
numbered-pos ts n one =
    let z : (n == 0) ≡ false = ne_eqb n 0 (λ q. let w : ⊥ = omega arith in w) in
    ap (λ b. if b then None else slice_get ts (n - 1)) z

pub numbered-from : (ts : List Transaction) (n : ℕ) (t : Transaction) → 1 ≤ n → slice_get ts (n - 1) ≡ Some t → numbered ts n ≡ Some t
numbered-from ts n t one e = numbered-pos ts n one ∙ e

pub numbered-next : (ts : List Transaction) (i : ℕ) (t : Transaction) → slice_get ts i ≡ Some t → numbered ts (1 + i) ≡ Some t
numbered-next ts i t e =
    let z : i ≡ 1 + i - 1 = omega arith in
    numbered-from ts (1 + i) t (omega arith) (subst (λ j. slice_get ts j ≡ Some t) z e)

pub changed-is : (f : Transaction → Transaction) (n : ℕ) (ts : List Transaction) (t : Transaction) → numbered ts n ≡ Some t
    → changed f n ts ≡ slice_set ts (n - 1) (f t)
changed-is f n ts t e = ap (λ o. option_map_or (λ t. slice_set ts (n - 1) (f t)) o ts) e

pub numbered-same : (f : Transaction → Transaction) (n : ℕ) (ts : List Transaction) (t : Transaction) → numbered ts n ≡ Some t
    → numbered (changed f n ts) n ≡ Some (f t)
numbered-same f n ts t e =
    let p = numbered-at ts n t e in
    ap (λ us. numbered us n) (changed-is f n ts t e)
    ∙ numbered-from (slice_set ts (n - 1) (f t)) n (f t) p.0 (get-set-same ts (n - 1) t (f t) p.1)

pub numbered-other : (f : Transaction → Transaction) (n k : ℕ) (ts : List Transaction) (t : Transaction) → numbered ts n ≡ Some t
    → k ≢ n → numbered (changed f n ts) k ≡ numbered ts k
numbered-other f n k ts t e d =
    let p = numbered-at ts n t e in
    ap (λ us. numbered us k) (changed-is f n ts t e) ∙ go p.0
  where
    go : 1 ≤ n → numbered (slice_set ts (n - 1) (f t)) k ≡ numbered ts k
    go first = ⊎_elim
        (λ z. subst (λ j. numbered (slice_set ts (n - 1) (f t)) j ≡ numbered ts j) (sym z) refl)
        (λ nz.
        let one : 1 ≤ k = omega arith in
        let apart : n - 1 ≢ k - 1 = λ q. d (let w : k ≡ n = omega arith in w) in
        numbered-pos (slice_set ts (n - 1) (f t)) k one ∙ get-set-other ts (n - 1) (k - 1) (f t) apart ∙ sym (numbered-pos ts k one))
        (cases_eq k 0)

-- ---- as the code has it

pub numbered-get : (ts : List Transaction) (n : ℕ) (t : Transaction) → 1 ≤ n → n - 1 < length ts → t ≡ get_or ts (n - 1) t
    → numbered ts n ≡ Some t
numbered-get ts n t one in_range e =
    numbered-from ts n t one (slice_get-get_or ts (n - 1) t in_range ∙ ap (λ x. Some x) (sym e))

pub some-within : (ts : List Transaction) (n : ℕ) (t : Transaction) → numbered ts n ≡ Some t → (1 ≤ n) × (n - 1 < length ts)
some-within ts n t e = let p = numbered-at ts n t e in (p.0, slice_get_within ts (n - 1) t p.1)

pub test-within : (p : Transaction → Bool) (ts : List Transaction) (n : ℕ) → option_map_or p (numbered ts n) false ≡ true
    → (1 ≤ n) × (n - 1 < length ts)
test-within p ts n e = go (numbered ts n) refl e
  where
    go : (o : Option Transaction) → numbered ts n ≡ o → option_map_or p o false ≡ true → (1 ≤ n) × (n - 1 < length ts)
    go None q e = absurd (true≢false (sym e))
    go (Some t) q e = some-within ts n t q

pub test-at : (p : Transaction → Bool) (ts : List Transaction) (n : ℕ) (t : Transaction) → option_map_or p (numbered ts n) false ≡ true
    → numbered ts n ≡ Some t → p t ≡ true
test-at p ts n t e f = subst (λ (o : Option Transaction). option_map_or p o false ≡ true) f e

pub set-back : {A : Type 0} (xs : List A) (i : ℕ) (x y : A) → i < length xs → x ≡ get_or xs i x → slice_set (slice_set xs i y) i x ≡ xs
set-back [] i x y h e = absurd (omega arith)
set-back (z ∷ xs) zero x y h e = ap (λ w. w ∷ xs) e
set-back (z ∷ xs) (suc i) x y h e = ap (λ ws. z ∷ ws) (set-back xs i x y (omega arith) e)

pub set-changed : (f : Transaction → Transaction) (n : ℕ) (ts us : List Transaction) (t u : Transaction) → us ≡ ts → numbered us n ≡ Some t
    → u ≡ f t → slice_set us (n - 1) u ≡ changed f n ts
set-changed f n ts us t u same e is = ap (λ x. slice_set us (n - 1) x) is ∙ sym (changed-is f n us t e) ∙ ap (changed f n) same

-- the transaction that is found at its place
pub begun-at : (ts us : List Transaction) (n : ℕ) (t : Transaction) → us ≡ ts → 1 ≤ n → n ≤ length ts → t ≡ get_or us (n - 1) t
    → numbered us n ≡ Some t
begun-at ts us n t same one within e =
    let l : length us ≡ length ts = ap length same in
    numbered-get us n t one (omega (arith, l)) e

-- the same of a transaction that meets a test, by its number
pub tested-at : (p : Transaction → Bool) (ts us : List Transaction) (n : ℕ) (t : Transaction) → us ≡ ts
    → option_map_or p (numbered ts n) false ≡ true → t ≡ get_or us (n - 1) t → (numbered us n ≡ Some t) × (p t ≡ true)
tested-at p ts us n t same e at =
    let w = test-within p ts n e in
    let l : length us ≡ length ts = ap length same in
    let num : numbered us n ≡ Some t = numbered-get us n t w.0 (let i = w.1 in omega (arith, l, i)) at in
    (num, test-at p us n t (subst (λ (xs : List Transaction). option_map_or p (numbered xs n) false ≡ true) (sym same) e) num)
