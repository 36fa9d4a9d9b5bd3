-- How the index of keys follows what is done to a transaction, and what it finds.
use Rattle.std.proofs.Common.{◌≡◌, ◌≢◌, ℕ, zero, suc, ◌+◌, ◌-◌, ◌<◌, ◌≤◌, Bool, true, false, not, ◌&&◌, ◌||◌, List, [], ◌∷◌, ◌++◌, length}
use Rattle.std.proofs.Common.{Option, Some, None, refl, ap, sym, ◌∙◌, subst, arith, ⊎_elim, get_or, take}
use Rattle.std.proofs.Common.{is_some}
use Rattle.std.specs.Prelude.{slice_get, if◌then◌else◌, ◌==◌, bytes_eq, find, option_map}
use Rattle.std.specs.List.{list_any, enumerate_from}
use Rattle.std.specs.Option.{option_map_or}
use Rattle.std.proofs.lemmas.Bool.{cases_eq, cases_Bool, eq-eqb, ne_eqb, true≢false, or_left, or_right, and_parts, and_from, and_left}
use Rattle.std.proofs.lemmas.Bool.{and_right, not_from_true, not_from_false}
use Rattle.std.proofs.lemmas.Option.{none-some, same_Some}
use Rattle.std.proofs.lemmas.List.Folds.{list_any-append, list_any_more}
use Rattle.std.proofs.lemmas.Map.Lookups.{exact_bytes}
use Rattle.std.specs.Cmp.Lexicographic.{slice_cmp, texts_ties, nat_list_eq_equiv}
use Rattle.std.specs.Ordering.{nat_cmp, is_eq}
use Rattle.std.specs.declared.cmp.Ordering.{Ordering}
use Rattle.std.specs.declared.cmp.Ordering.TheVariants.{Less, Equal, Greater}
use Rattle.xc_source.specs.declared.transaction.Provisional.{Provisional}
use Rattle.xc_record.specs.declared.record.Op.{Op}
use Rattle.xc_source.specs.Machine.{Machine, Transaction, begun, is_live, commit_of}
use Rattle.xc_source.specs.declared.transaction.Stage.{Stage}
use Rattle.xc_source.specs.declared.transaction.Stage.TheVariants.{Live, Committed, Aborted}
use Rattle.xc_source.specs.Waiting.{has_write, holder}
use Rattle.xc_source.specs.Calls.{written}
use Rattle.xc_source.specs.Holders.{numbered, changed, awaits, is_holder, AreHolders, other_than}
use Rattle.xc_source.proofs.NumberedLaws.{numbered-at, numbered-from, numbered-same, numbered-other}

-- ---- holders

holder-same : (f : Transaction → Transaction) (n : ℕ) (ts : List Transaction) (t : Transaction) (key : List ℕ) → numbered ts n ≡ Some t
    → is_holder (changed f n ts) key n ≡ has_write key (f t)
holder-same f n ts t key e = ap (λ o. option_map_or (has_write key) o false) (numbered-same f n ts t e)

holder-other : (f : Transaction → Transaction) (n k : ℕ) (ts : List Transaction) (t : Transaction) (key : List ℕ) → numbered ts n ≡ Some t
    → k ≢ n → is_holder (changed f n ts) key k ≡ is_holder ts key k
holder-other f n k ts t key e d = ap (λ o. option_map_or (has_write key) o false) (numbered-other f n k ts t e d)

holder-at : (n : ℕ) (ts : List Transaction) (t : Transaction) (key : List ℕ) → numbered ts n ≡ Some t
    → is_holder ts key n ≡ has_write key t
holder-at n ts t key e = ap (λ o. option_map_or (has_write key) o false) e

-- a change that leaves what is held as it was
pub holders-kept : (g : List ℕ → Option ℕ) (f : Transaction → Transaction) (n : ℕ) (ts : List Transaction) (t : Transaction)
    → numbered ts n ≡ Some t → ((key : List ℕ) → has_write key (f t) ≡ has_write key t) → AreHolders g ts → AreHolders g (changed f n ts)
holders-kept g f n ts t e s h = record {
  sound = λ key k q. is key k ∙ h.sound key k q;
  full = λ key k q. h.full key k (sym (is key k) ∙ q);
}
  where
    is : (key : List ℕ) (k : ℕ) → is_holder (changed f n ts) key k ≡ is_holder ts key k
    is key k = ⊎_elim
        (λ q. subst (λ j. is_holder (changed f n ts) key j ≡ is_holder ts key j) (sym q)
        (holder-same f n ts t key e ∙ s key ∙ sym (holder-at n ts t key e)))
        (λ d. holder-other f n k ts t key e d) (cases_eq k n)

-- the transaction wrote the key, which no other one holds
pub holders-more : (g g' : List ℕ → Option ℕ) (f : Transaction → Transaction) (n : ℕ) (ts : List Transaction) (t : Transaction)
    (key : List ℕ) → numbered ts n ≡ Some t → ((k : ℕ) → g key ≡ Some k → k ≡ n)
    → ((q : List ℕ) → has_write q (f t) ≡ (has_write q t || bytes_eq q key))
    → ((q : List ℕ) → bytes_eq q key ≡ true → q ≡ key)
    → ((q : List ℕ) → g' q ≡ (if bytes_eq q key then Some n else g q)) → AreHolders g ts → AreHolders g' (changed f n ts)
holders-more g g' f n ts t key e free s same is h = record {
  sound = λ q k p. sound q k p;
  full = λ q k p. full q k p;
}
  where
    sound-if : (q : List ℕ) (k : ℕ) (b : Bool) → bytes_eq q key ≡ b → (if b then Some n else g q) ≡ Some k
        → is_holder (changed f n ts) q k ≡ true
    sound-if q k true c p =
        subst (λ j. is_holder (changed f n ts) q j ≡ true) (same_Some n k p)
        (holder-same f n ts t q e ∙ s q ∙ or_right (has_write q t) (bytes_eq q key) c)
    sound-if q k false c p = ⊎_elim
        (λ w. subst (λ j. is_holder (changed f n ts) q j ≡ true) (sym w)
        (holder-same f n ts t q e ∙ s q ∙ or_left (has_write q t) (bytes_eq q key)
        (sym (holder-at n ts t q e) ∙ h.sound q n (p ∙ ap (λ j. Some j) w))))
        (λ d. holder-other f n k ts t q e d ∙ h.sound q k p) (cases_eq k n)

    sound : (q : List ℕ) (k : ℕ) → g' q ≡ Some k → is_holder (changed f n ts) q k ≡ true
    sound q k p = sound-if q k (bytes_eq q key) refl (sym (is q) ∙ p)

    full-if : (q : List ℕ) (k : ℕ) (b : Bool) → bytes_eq q key ≡ b → is_holder (changed f n ts) q k ≡ true
        → (if b then Some n else g q) ≡ Some k
    full-if q k true c p = ⊎_elim
        (λ w. ap (λ j. Some j) (sym w))
        (λ d. ap (λ j. Some j) (sym (free k (subst (λ x. g x ≡ Some k) (same q c)
        (h.full q k (sym (holder-other f n k ts t q e d) ∙ p)))))) (cases_eq k n)
    full-if q k false c p = ⊎_elim
        (λ w. h.full q k (subst (λ j. is_holder ts q j ≡ true) (sym w) (holder-at n ts t q e
        ∙ only (has_write q t) (bytes_eq q key) c
        (sym (s q) ∙ sym (holder-same f n ts t q e) ∙ subst (λ j. is_holder (changed f n ts) q j ≡ true) w p))))
        (λ d. h.full q k (sym (holder-other f n k ts t q e d) ∙ p)) (cases_eq k n)
      where
        only : (x y : Bool) → y ≡ false → (x || y) ≡ true → x ≡ true
        only true y c p = refl
        only false y c p = sym c ∙ p

    full : (q : List ℕ) (k : ℕ) → is_holder (changed f n ts) q k ≡ true → g' q ≡ Some k
    full q k p = is q ∙ full-if q k (bytes_eq q key) refl p

-- the transaction ended, and its keys are free
pub holders-less : (g g' : List ℕ → Option ℕ) (f : Transaction → Transaction) (n : ℕ) (ts : List Transaction) (t : Transaction)
    → numbered ts n ≡ Some t → ((q : List ℕ) → has_write q (f t) ≡ false)
    → ((q : List ℕ) → g' q ≡ (if has_write q t then None else g q)) → AreHolders g ts → AreHolders g' (changed f n ts)
holders-less g g' f n ts t e s is h = record {
  sound = λ q k p. sound-if q k (has_write q t) refl (sym (is q) ∙ p);
  full = λ q k p. is q ∙ full-if q k (has_write q t) refl p;
}
  where
    sound-if : (q : List ℕ) (k : ℕ) (b : Bool) → has_write q t ≡ b → (if b then None else g q) ≡ Some k
        → is_holder (changed f n ts) q k ≡ true
    sound-if q k true c p = absurd (none-some k p)
    sound-if q k false c p = ⊎_elim
        (λ w. absurd (true≢false (sym (h.sound q n (p ∙ ap (λ j. Some j) w)) ∙ holder-at n ts t q e ∙ c)))
        (λ d. holder-other f n k ts t q e d ∙ h.sound q k p) (cases_eq k n)

    full-if : (q : List ℕ) (k : ℕ) (b : Bool) → has_write q t ≡ b → is_holder (changed f n ts) q k ≡ true
        → (if b then None else g q) ≡ Some k
    full-if q k b c p = ⊎_elim
        (λ w. absurd (true≢false (sym p ∙ ap (is_holder (changed f n ts) q) w ∙ holder-same f n ts t q e ∙ s q)))
        (λ d. apart b c d) (cases_eq k n)
      where
        apart : (b : Bool) → has_write q t ≡ b → k ≢ n → (if b then None else g q) ≡ Some k
        apart true c d =
            let mine : g q ≡ Some n = h.full q n (holder-at n ts t q e ∙ c) in
            let its : g q ≡ Some k = h.full q k (sym (holder-other f n k ts t q e d) ∙ p) in
            absurd (d (same_Some k n (sym its ∙ mine)))
        apart false c d = h.full q k (sym (holder-other f n k ts t q e d) ∙ p)

-- a transaction that has just begun holds nothing
pub holders-begun : (g : List ℕ → Option ℕ) (ts : List Transaction) → AreHolders g ts → AreHolders g (ts ++ begun ∷ [])
holders-begun g ts h = record {
  sound = λ key n e. is key n ∙ h.sound key n e;
  full = λ key n e. h.full key n (sym (is key n) ∙ e);
}
  where
    at : (key : List ℕ) (ts : List Transaction) (i : ℕ)
        → option_map_or (has_write key) (slice_get (ts ++ begun ∷ []) i) false ≡ option_map_or (has_write key) (slice_get ts i) false
    at key [] zero = refl
    at key [] (suc i) = refl
    at key (t ∷ ts) zero = refl
    at key (t ∷ ts) (suc i) = at key ts i

    is : (key : List ℕ) (n : ℕ) → is_holder (ts ++ begun ∷ []) key n ≡ is_holder ts key n
    is key n = either (n == 0)
      where
        either : (b : Bool) → option_map_or (has_write key) (if b then None else slice_get (ts ++ begun ∷ []) (n - 1)) false
            ≡ option_map_or (has_write key) (if b then None else slice_get ts (n - 1)) false
        either true = refl
        either false = at key ts (n - 1)

-- ---- what the index finds

find-none : {A : Type 0} (p : ℕ × A → Bool) (i : ℕ) (xs : List A) → ((j : ℕ) (x : A) → slice_get xs j ≡ Some x → p (i + j, x) ≡ false)
    → find p (enumerate_from i xs) ≡ None
find-none p i [] h = refl
find-none {A} p i (x ∷ xs) h =
    let z : i + 0 ≡ i = omega arith in
    let first : p (i, x) ≡ false = subst (λ w. p (w, x) ≡ false) z (h 0 x refl) in
    rw first (find-none p (i + 1) xs
    (λ j y e. subst (λ w. p (w, y) ≡ false) (let w : i + suc j ≡ i + 1 + j = omega arith in w) (h (suc j) y e)))

find-some : {A : Type 0} (p : ℕ × A → Bool) (i : ℕ) (xs : List A) (k : ℕ) (x : A) → slice_get xs k ≡ Some x → p (i + k, x) ≡ true
    → ((j : ℕ) (y : A) → slice_get xs j ≡ Some y → p (i + j, y) ≡ true → j ≡ k)
    → option_map (λ (e : ℕ × A). e.0) (find p (enumerate_from i xs)) ≡ Some (i + k)
find-some p i [] k x e t h = absurd (none-some x e)
find-some {A} p i (y ∷ ys) zero x e t h =
    let z : i + 0 ≡ i = omega arith in
    let first : p (i, y) ≡ true = subst (λ w. p (w, y) ≡ true) z (subst (λ w. p (i + 0, w) ≡ true) (sym (same_Some y x e)) t) in
    rw first (ap (λ w. Some w) (sym z))
find-some {A} p i (y ∷ ys) (suc k) x e t h =
    let z : i + 0 ≡ i = omega arith in
    let first : p (i, y) ≡ false = ⊎_elim
    (λ w. absurd (apart k (h 0 y refl (subst (λ v. p (v, y) ≡ true) (sym z) w)))) (λ w. w) (cases_Bool (p (i, y))) in
    let more : i + suc k ≡ i + 1 + k = omega arith in
    rw first (find-some p (i + 1) ys k x e (subst (λ w. p (w, x) ≡ true) more t)
    (λ j v q r. let s : suc j ≡ suc k = h (suc j) v q (subst (λ w. p (w, v) ≡ true) (let w : i + 1 + j ≡ i + suc j = omega arith in w) r) in
    let w : j ≡ k = omega arith in w)
    ∙ ap (λ w. Some w) (sym more))
  where
    apart : (k : ℕ) → 0 ≡ suc k → ⊥
    apart k e = omega arith

holder-of : (ts : List Transaction) (key : List ℕ) (n : ℕ) → is_holder ts key n ≡ true
    → (t : Transaction) × (numbered ts n ≡ Some t) × (has_write key t ≡ true)
holder-of ts key n e = go (numbered ts n) refl e
  where
    go : (o : Option Transaction) → numbered ts n ≡ o → option_map_or (has_write key) o false ≡ true
        → (t : Transaction) × (numbered ts n ≡ Some t) × (has_write key t ≡ true)
    go None q e = absurd (true≢false (sym e))
    go (Some t) q e = (t, q, e)

abbrev asks : ℕ → List ℕ → ℕ × Transaction → Bool
asks n key p = not (p.0 == n) && has_write key p.1

asks-no : (n : ℕ) (key : List ℕ) (p : ℕ × Transaction) → (has_write key p.1 ≡ true → p.0 ≡ n) → asks n key p ≡ false
asks-no n key p h = go (has_write key p.1) refl
  where
    go : (b : Bool) → has_write key p.1 ≡ b → (not (p.0 == n) && b) ≡ false
    go true e = and_left (not (p.0 == n)) true (not_from_true (p.0 == n) (eq-eqb p.0 n (h e)))
    go false e = and_right (not (p.0 == n)) false refl

writer-held : (g : List ℕ → Option ℕ) (ts : List Transaction) (key : List ℕ) (j : ℕ) (t : Transaction) → AreHolders g ts
    → slice_get ts j ≡ Some t → has_write key t ≡ true → g key ≡ Some (1 + j)
writer-held g ts key j t h e w =
    let z : j ≡ 1 + j - 1 = omega arith in
    h.full key (1 + j)
    (holder-at (1 + j) ts t key (numbered-from ts (1 + j) t (omega arith) (subst (λ i. slice_get ts i ≡ Some t) z e)) ∙ w)

pub holder-is : (g : List ℕ → Option ℕ) (m : Machine) (n : ℕ) (key : List ℕ) → AreHolders g m.txns → other_than n (g key) ≡ holder m n key
unfolding holder
holder-is g m n key h = go (g key) refl
  where
    first : ℕ × Transaction → ℕ
    first p = p.0

    none : ((j : ℕ) (t : Transaction) → slice_get m.txns j ≡ Some t → has_write key t ≡ true → 1 + j ≡ n)
        → None ≡ option_map (λ (p : ℕ × Transaction). p.0) (find (asks n key) (enumerate_from 1 m.txns))
    none f = ap (λ o. option_map (λ (p : ℕ × Transaction). p.0) o)
        (sym (find-none (asks n key) 1 m.txns (λ j t e. asks-no n key (1 + j, t) (λ w. f j t e w))))

    go : (o : Option ℕ) → g key ≡ o → other_than n o
        ≡ option_map (λ (p : ℕ × Transaction). p.0) (find (asks n key) (enumerate_from 1 m.txns))
    go None e = none (λ j t q w. absurd (none-some (1 + j) (sym e ∙ writer-held g m.txns key j t h q w)))
    go (Some k) e = ⊎_elim (λ q. mine q) (λ d. other d) (cases_eq k n)
      where
        same : (j : ℕ) (t : Transaction) → slice_get m.txns j ≡ Some t → has_write key t ≡ true → 1 + j ≡ k
        same j t q w = same_Some (1 + j) k (sym (writer-held g m.txns key j t h q w) ∙ e)

        mine : k ≡ n → other_than n (Some k)
            ≡ option_map (λ (p : ℕ × Transaction). p.0) (find (asks n key) (enumerate_from 1 m.txns))
        mine q = ap (λ b. if b then None else Some k) (eq-eqb k n q) ∙ none (λ j t r w. same j t r w ∙ q)

        other : k ≢ n → other_than n (Some k)
            ≡ option_map (λ (p : ℕ × Transaction). p.0) (find (asks n key) (enumerate_from 1 m.txns))
        other d =
            let o = holder-of m.txns key k (h.sound key k e) in
            let p = numbered-at m.txns k o.0 o.1 in
            let one : 1 ≤ k = p.0 in
            let z : 1 + (k - 1) ≡ k = omega arith in
            let yes : asks n key (1 + (k - 1), o.0) ≡ true =
            subst (λ i. asks n key (i, o.0) ≡ true) (sym z)
            (and_from (not (k == n)) (has_write key o.0) (not_from_false (k == n) (ne_eqb k n d)) o.2) in
            ap (λ b. if b then None else Some k) (ne_eqb k n d) ∙ ap (λ i. Some i) (sym z)
            ∙ sym (find-some (asks n key) 1 m.txns (k - 1) o.0 p.1 yes
            (λ j t r w. let s : 1 + j ≡ k = same j t r (and_parts (not (1 + j == n)) (has_write key t) w).1 in
            let v : j ≡ k - 1 = omega arith in v))

-- ---- as the code has it

-- whom a write of a live transaction makes a holder
pub write-held : (op : Op) (t : Transaction) (q : List ℕ) → is_live t.stage ≡ true
    → has_write q (written op t) ≡ (has_write q t || bytes_eq q op.key)
write-held op t q live =
    let more = list_any-append (λ w. w.waits && bytes_eq q w.op.key) t.writes
    (record { sub = t.current; op = op; waits = true } ∷ []) in
    let one : (bytes_eq q op.key || false) ≡ bytes_eq q op.key = or-false (bytes_eq q op.key) in
    ap (λ b. b && awaits q (written op t)) live ∙ more ∙ ap (λ b. awaits q t || b) one
    ∙ ap (λ b. (b && awaits q t) || bytes_eq q op.key) (sym live)
  where
    or-false : (b : Bool) → (b || false) ≡ b
    or-false true = refl
    or-false false = refl

pub live-held : (t : Transaction) (q : List ℕ) → is_live t.stage ≡ true → has_write q t ≡ awaits q t
live-held t q live = ap (λ b. b && awaits q t) live

-- the keys of one write more are free
if-or : (x y : Bool) (a : Option ℕ) → (if y then None else (if x then None else a)) ≡ (if x || y then None else a)
if-or true true a = refl
if-or true false a = refl
if-or false true a = refl
if-or false false a = refl

pub freed-next : (ws : List Provisional) (i : ℕ) (w : Provisional) (key : List ℕ) (a b c : Option ℕ) → i < length ws → w ≡ get_or ws i w
    → b ≡ (if list_any (λ v. v.waits && bytes_eq key v.op.key) (take i ws) then None else a)
    → c ≡ (if (w.waits && bytes_eq key w.op.key) then None else b)
    → c ≡ (if list_any (λ v. v.waits && bytes_eq key v.op.key) (take (i + 1) ws) then None else a)
freed-next ws i w key a b c h e p q =
    let asked : Provisional → Bool = λ v. v.waits && bytes_eq key v.op.key in
    let more = list_any_more asked ws i w h in
    q ∙ ap (λ (x : Option ℕ). if asked w then None else x) p
    ∙ if-or (list_any asked (take i ws)) (asked w) a
    ∙ ap (λ (x : Bool). if x then None else a) (ap (λ v. list_any asked (take i ws) || asked v) e ∙ sym more)

-- the order and the equality of keys are of one mind
pub same-key : (a b : List ℕ) → is_eq (slice_cmp nat_cmp a b) ≡ bytes_eq b a
same-key a b = sym (texts_ties a b) ∙ nat_list_eq_equiv.symm a b

pub bytes-same : (a b : List ℕ) → bytes_eq a b ≡ true → a ≡ b
bytes-same a b e = exact_bytes a b (eq-from (slice_cmp nat_cmp a b) (sym (texts_ties a b) ∙ e))
  where
    eq-from : (o : Ordering) → is_eq o ≡ true → o ≡ Equal
    eq-from Less e = absurd (true≢false (sym e))
    eq-from Equal e = refl
    eq-from Greater e = absurd (true≢false (sym e))

pub ended-holds-none : (t : Transaction) (q : List ℕ) → is_some (commit_of t.stage) ≡ true → has_write q t ≡ false
ended-holds-none t q e = ap (λ b. b && awaits q t) (ended t.stage e)
  where
    ended : (s : Stage) → is_some (commit_of s) ≡ true → is_live s ≡ false
    ended Live e = absurd (true≢false (sym e))
    ended (Committed c) e = refl
    ended Aborted e = refl

-- ---- what isn't held

first-none : {A : Type 0} (b : Bool) (y : A) (o : Option A) → (if b then Some y else o) ≡ None → (b ≡ false) × (o ≡ None)
first-none true y o e = absurd (none-some y (sym e))
first-none false y o e = (refl, e)

find-none-at : {A : Type 0} (p : ℕ × A → Bool) (i : ℕ) (xs : List A) (j : ℕ) (x : A) → find p (enumerate_from i xs) ≡ None
    → slice_get xs j ≡ Some x → p (i + j, x) ≡ false
find-none-at p i [] j x e q = absurd (none-some x q)
find-none-at {A} p i (y ∷ ys) zero x e q =
    let f = first-none (p (i, y)) (i, y) (find p (enumerate_from (i + 1) ys)) e in
    let z : i + 0 ≡ i = omega arith in
    subst (λ w. p (w, x) ≡ false) (sym z) (subst (λ w. p (i, w) ≡ false) (same_Some y x q) f.0)
find-none-at {A} p i (y ∷ ys) (suc j) x e q =
    let f = first-none (p (i, y)) (i, y) (find p (enumerate_from (i + 1) ys)) e in
    let z : i + suc j ≡ i + 1 + j = omega arith in
    subst (λ w. p (w, x) ≡ false) (sym z) (find-none-at p (i + 1) ys j x f.1 q)

-- where no other transaction is the holder of the key, the only holder is this one
pub no-other : (m : Machine) (n : ℕ) (key : List ℕ) (k : ℕ) → holder m n key ≡ None → is_holder m.txns key k ≡ true → k ≡ n
unfolding holder
no-other m n key k e h =
    let o = holder-of m.txns key k h in
    let p = numbered-at m.txns k o.0 o.1 in
    let one : 1 ≤ k = p.0 in
    let z : 1 + (k - 1) ≡ k = omega arith in
    let no : asks n key (k, o.0) ≡ false = subst (λ i. asks n key (i, o.0) ≡ false) z
    (find-none-at (asks n key) 1 m.txns (k - 1) o.0 (unmapped (find (asks n key) (enumerate_from 1 m.txns)) e) p.1) in
    ⊎_elim (λ q. q) (λ d. absurd (true≢false (sym (and_from (not (k == n)) (has_write key o.0) (not_from_false (k == n) (ne_eqb k n d)) o.2)
    ∙ no))) (cases_eq k n)
  where
    unmapped : (o : Option (ℕ × Transaction)) → option_map (λ (p : ℕ × Transaction). p.0) o ≡ None → o ≡ None
    unmapped None e = refl
    unmapped (Some x) e = absurd (none-some x.0 (sym e))
