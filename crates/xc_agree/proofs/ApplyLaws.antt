-- Laws of the list that is made of applies: sorted by transaction, and of each transaction the first kept.
use Rattle.std.proofs.Common.{◌≡◌, ℕ, suc, ◌+◌, ◌<◌, Bool, true, false, ◌||◌, List, [], ◌∷◌, length, map, refl, ap, sym, ◌∙◌, subst, arith}
use Rattle.std.proofs.lemmas.Bool.{eqb-true, eq-eqb}
use Rattle.std.proofs.lemmas.Bool.Decides.{nat_tests}
use Rattle.std.proofs.lemmas.Fn.{always_returns_same}
use Rattle.std.proofs.lemmas.List.{get_or-map, length-map}
use Rattle.std.proofs.lemmas.Map.Keys.{IsStrictlyIncreasing-dedup}
use Rattle.std.specs.Prelude.{Some, None, ◌==◌, is_some, slice_index, if◌then◌else◌}
use Rattle.std.specs.Fn.{Called, ComputesKey}
use Rattle.std.specs.List.{filter, dedup, dedup_from}
use Rattle.std.specs.List.Sorted.{IsSorted, IsSortedByKey, IsStableByKey, IsStrictlyIncreasing, ties}
use Rattle.std.specs.Ordering.{nat_cmp, is_lt}
use Rattle.xc_record.specs.Lists.{has, distinct}
use Rattle.xc_agree.specs.declared.commits.Commit.{Commit}
use Rattle.xc_record.specs.Lists.{first_some, or_else}
use Rattle.xc_agree.specs.Slots.{field_at, field_of, time_of, Rises}
use Rattle.xc_record.proofs.NumberLaws.{has-distinct, Rising, distinct-rising}
use denote.Ref.{Bor}
use denote.Param.Members.{Mut}

-- ---- the sort

abbrev below : Commit → Commit → Bool
below x y = is_lt (nat_cmp x.txn y.txn)

abbrev none : ℕ → Commit
none n = record { txn = n; time = 0; without = [] }

ties-same : (n : ℕ) (c : Commit) → ties below (none n) c ≡ (c.txn == n)
ties-same n c = grind (arith, nat_tests)

field-filter : {X : Type 0} (field : Commit → X) (cs : List Commit) (n : ℕ)
    → field_of field (filter (ties below (none n)) cs) n ≡ field_of field cs n
field-filter field [] n = refl
field-filter {X = X} field (c ∷ cs) n = go (field-filter field cs n) (c.txn == n) (ties below (none n) c) refl (ties-same n c)
  where
    go : field_of field (filter (ties below (none n)) cs) n ≡ field_of field cs n → (b t : Bool) → c.txn == n ≡ b → t ≡ b
        → first_some (field_at field n) (if t then (c ∷ filter (ties below (none n)) cs) else filter (ties below (none n)) cs) ≡ or_else
        (if b then Some (field c) else None) (field_of field cs n)
    go ih true true at e = rw at refl
    go ih false false at e = ih
    go ih true false at e = cc
    go ih false true at e = cc

-- a sort keeps what the first commit of each transaction says
pub field-sorted : {X F : Type 0} (field : Commit → X) {g : Mut F (Bor Commit × Unit {0}) ℕ} {f : F} (xs ys : List Commit)
    → ((key : Commit → ℕ) → ComputesKey g key f → IsStableByKey key nat_cmp xs ys)
    → ((a : Bor Commit × Unit {0}) (r : ℕ) (f' : F) → Called g f a r f' → (r ≡ a.0.now.txn) × (f' ≡ f)) → (n : ℕ)
    → field_of field ys n ≡ field_of field xs n
field-sorted field {g = g} {f = f} xs ys stable calls n =
    let same = stable (λ c. c.txn) (always_returns_same g (λ a r. r ≡ a.0.now.txn) f calls) (none n) in
    sym (field-filter field ys n) ∙ ap (λ zs. field_of field zs n) same ∙ field-filter field xs n

pub sorted-by-txn : {F : Type 0} {g : Mut F (Bor Commit × Unit {0}) ℕ} {f : F} (ys : List Commit)
    → ((key : Commit → ℕ) → ComputesKey g key f → IsSortedByKey key nat_cmp ys)
    → ((a : Bor Commit × Unit {0}) (r : ℕ) (f' : F) → Called g f a r f' → (r ≡ a.0.now.txn) × (f' ≡ f))
    → IsSortedByKey (λ c. c.txn) nat_cmp ys
sorted-by-txn {g = g} {f = f} ys sorted calls = sorted (λ c. c.txn) (always_returns_same g (λ a r. r ≡ a.0.now.txn) f calls)

-- ---- of each transaction the first

abbrev pub same_txn : Commit → Commit → Bool
same_txn x y = x.txn == y.txn

field-dedup_from : {X : Type 0} (field : Commit → X) (k : Commit) (cs : List Commit) (n : ℕ)
    → field_of field (dedup_from same_txn k cs) n ≡ field_of field (k ∷ cs) n
field-dedup_from field k [] n = refl
field-dedup_from field k (c ∷ cs) n = grind (arith, nat_tests, field-dedup_from field k cs n, field-dedup_from field c cs n)

pub field-dedup : {X : Type 0} (field : Commit → X) (cs : List Commit) (n : ℕ) → field_of field (dedup same_txn cs) n ≡ field_of field cs n
field-dedup field [] n = refl
field-dedup field (c ∷ cs) n = field-dedup_from field c cs n

txns-dedup_from : (k : Commit) (cs : List Commit)
    → map (λ c. c.txn) (dedup_from same_txn k cs) ≡ dedup_from ◌==◌ k.txn (map (λ c. c.txn) cs)
txns-dedup_from k [] = refl
txns-dedup_from k (c ∷ cs) = grind (arith, txns-dedup_from k cs, txns-dedup_from c cs)

txns-dedup : (cs : List Commit) → map (λ c. c.txn) (dedup same_txn cs) ≡ dedup ◌==◌ (map (λ c. c.txn) cs)
txns-dedup [] = refl
txns-dedup (c ∷ cs) = txns-dedup_from c cs

txns-sorted : (cs : List Commit) → IsSortedByKey (λ c. c.txn) nat_cmp cs → IsSorted nat_cmp (map (λ c. c.txn) cs)
txns-sorted cs sorted k d low high =
    let within : k + 1 < length cs = omega (arith, length-map cs (λ (c : Commit). c.txn)) in
    rw (get_or-map (λ (c : Commit). c.txn) cs (k + 1) (none 0) d within, get_or-map (λ (c : Commit). c.txn) cs k (none 0) d (omega arith))
    (sorted k (none 0) low within)

pub rises-dedup : (cs : List Commit) → IsSortedByKey (λ c. c.txn) nat_cmp cs → Rises (dedup same_txn cs)
rises-dedup cs sorted =
    subst IsStrictlyIncreasing (sym (txns-dedup cs)) (IsStrictlyIncreasing-dedup (map (λ c. c.txn) cs) (txns-sorted cs sorted))

-- ---- how many

increasing-tail : (n : ℕ) (ns : List ℕ) → IsStrictlyIncreasing (n ∷ ns) → IsStrictlyIncreasing ns
increasing-tail n ns h k low =
    let e : suc k + 1 ≡ suc (k + 1) = omega arith in
    subst (λ j. slice_index ns k < slice_index (n ∷ ns) j) e (h (suc k) (omega arith))

increasing-head : (n : ℕ) (ns : List ℕ) → IsStrictlyIncreasing (n ∷ ns) → (m : ℕ) → has m ns ≡ true → n < m
increasing-head n [] h m e = cc
increasing-head n (x ∷ xs) h m e = go (x == m) refl e (increasing-head x xs (increasing-tail n (x ∷ xs) h) m)
  where
    first : n < x
    first = h 0 (omega arith)

    go : (b : Bool) → x == m ≡ b → (b || has m xs) ≡ true → (has m xs ≡ true → x < m) → n < m
    go true same e ih = omega (arith, eqb-true x m same, first)
    go false apart e ih = omega (arith, ih e, first)

rising-from : (ns : List ℕ) → IsStrictlyIncreasing ns → Rising ns
rising-from [] h = tt
rising-from (n ∷ ns) h = (increasing-head n ns h, rising-from ns (increasing-tail n ns h))

has-head : (n : ℕ) (ns : List ℕ) → has n (n ∷ ns) ≡ true
has-head n ns = rw (eq-eqb n n refl) refl

head-same : (x y : ℕ) (xs ys : List ℕ) → ((m : ℕ) → has m xs ≡ true → x < m) → ((m : ℕ) → has m ys ≡ true → y < m) → has x (y ∷ ys) ≡ true
    → has y (x ∷ xs) ≡ true → x ≡ y
head-same x y xs ys r s hx hy = grind (arith, nat_tests, r y, s x)

tail-same : (x : ℕ) (xs ys : List ℕ) → ((m : ℕ) → has m xs ≡ true → x < m) → ((m : ℕ) → has m ys ≡ true → x < m) → (n : ℕ)
    → has n (x ∷ xs) ≡ has n (x ∷ ys) → has n xs ≡ has n ys
tail-same x xs ys r s n h = grind (arith, nat_tests, r n, s n)

-- rising lists with the same numbers are one
rising-same : (xs ys : List ℕ) → Rising xs → Rising ys → ((n : ℕ) → has n xs ≡ has n ys) → xs ≡ ys
rising-same [] [] r s h = refl
rising-same [] (y ∷ ys) r s h = let e : false ≡ true = h y ∙ has-head y ys in cc
rising-same (x ∷ xs) [] r s h = let e : true ≡ false = sym (has-head x xs) ∙ h x in cc
rising-same (x ∷ xs) (y ∷ ys) r s h =
    let same : x ≡ y = head-same x y xs ys r.0 s.0 (sym (h x) ∙ has-head x xs) (h y ∙ has-head y ys) in
    let first : (m : ℕ) → has m ys ≡ true → x < m = subst (λ z. (m : ℕ) → has m ys ≡ true → z < m) (sym same) s.0 in
    let rest = rising-same xs ys r.1 s.1 (λ n. tail-same x xs ys r.0 first n (h n ∙ ap (λ z. has n (z ∷ ys)) (sym same))) in
    cc

has-time : (cs : List Commit) (n : ℕ) → has n (map (λ c. c.txn) cs) ≡ is_some (time_of cs n)
has-time [] n = refl
has-time (c ∷ cs) n = grind (arith, nat_tests, has-time cs n)

pub count-distinct : (xs ys : List Commit) → Rises ys → ((n : ℕ) → time_of ys n ≡ time_of xs n)
    → length ys ≡ length (distinct (map (λ c. c.txn) xs))
count-distinct xs ys rises times =
    let same = λ (n : ℕ). has-time ys n ∙ ap (λ o. is_some o) (times n) ∙ sym (has-time xs n)
    ∙ sym (has-distinct n (map (λ c. c.txn) xs)) in
    sym (length-map ys (λ c. c.txn))
    ∙ ap length (rising-same (map (λ c. c.txn) ys) (distinct (map (λ c. c.txn) xs)) (rising-from (map (λ c. c.txn) ys) rises)
    (distinct-rising (map (λ c. c.txn) xs)) same)
