-- Laws of the slots of a list of commits.
use Rattle.std.proofs.Common.{◌≡◌, ◌≢◌, ℕ, zero, suc, ◌+◌, ◌<◌, ◌≤◌, Bool, true, false, List, [], ◌∷◌, length, map, get_or, refl, ap, sym}
use Rattle.std.proofs.Common.{◌∙◌, subst, arith}
use Rattle.std.proofs.lemmas.Bool.{eqb-true, eq-eqb, ltb-true, ltb-false, lt-ltb, le-ltb}
use Rattle.std.proofs.lemmas.Bool.Decides.{nat_tests}
use Rattle.std.proofs.lemmas.List.{get_or-map, length-map}
use Rattle.std.proofs.lemmas.List.Kept.{AllPairs-from_increasing}
use Rattle.std.proofs.lemmas.List.Quantifiers.{position-Some}
use Rattle.std.proofs.lemmas.List.Sums.{position_or_len_is}
use Rattle.std.proofs.lemmas.Option.{get_or_from_slice_get, slice_get_within, slice_get_read, slice_get-get_or, none-some}
use Rattle.std.specs.Prelude.{Option, Some, None, Result, Ok, Err, IsTrue, ◌↔◌, if◌then◌else◌, ◌==◌, nat_lt, slice_get, option_map}
use Rattle.std.specs.List.Sorted.{IsNonDecreasingBy, IsPartitionPoint, IsBinarySearchResult, IsSearchInRange}
use Rattle.std.specs.Ordering.{nat_cmp, ordering_index}
use Rattle.std.specs.Result.{result_ok}
use Rattle.std.specs.declared.cmp.Ordering.TheVariants.{Less, Equal, Greater}
use Rattle.xc_record.specs.Lists.{or_else}
use Rattle.xc_agree.specs.declared.commits.Commit.{Commit}
use Rattle.xc_agree.specs.Slots.{slot_of, field_of, time_of, Rises}

pub slot-below : (cs : List Commit) (n i : ℕ) → slot_of cs n ≡ Some i → i < length cs
slot-below cs n i e = (position-Some (λ c. c.txn == n) cs i (record { txn = 0; time = 0; without = [] }) e).0

pub slot-at : (cs : List Commit) (n i : ℕ) (c : Commit) → slot_of cs n ≡ Some i → slice_get cs i ≡ Some c → c.txn ≡ n
slot-at cs n i c e f =
    eqb-true c.txn n (ap (λ (c : Commit). c.txn == n) (sym (get_or_from_slice_get cs i c c f))
    ∙ (position-Some (λ c. c.txn == n) cs i c e).1)

-- the slots after the first commit
abbrev shifted : Option ℕ → Option ℕ
shifted o = option_map (λ i. i + 1) o

slot-cons : (c : Commit) (cs : List Commit) (n : ℕ) → slot_of (c ∷ cs) n ≡ (if c.txn == n then Some 0 else shifted (slot_of cs n))
slot-cons c cs n = grind (arith, nat_tests)

shifted-some : (o : Option ℕ) (i : ℕ) → shifted o ≡ Some i → (j : ℕ) × (i ≡ suc j) × (o ≡ Some j)
shifted-some None i e = absurd (none-some i e)
shifted-some (Some j) i e = let same : j + 1 ≡ i = cc in (j, (omega arith), refl)

shifted-none : (o : Option ℕ) → shifted o ≡ None → o ≡ None
shifted-none None e = refl
shifted-none (Some j) e = cc

pub field-at-slot : {X : Type 0} (field : Commit → X) (cs : List Commit) (n i : ℕ) (c : Commit) → slot_of cs n ≡ Some i
    → slice_get cs i ≡ Some c → field_of field cs n ≡ Some (field c)
field-at-slot field [] n i c e f = cc
field-at-slot {X = X} field (d ∷ cs) n i c e f =
    go (λ j g h. field-at-slot field cs n j c g h) (d.txn == n) i (sym (slot-cons d cs n) ∙ e) f
  where
    go : ((j : ℕ) → slot_of cs n ≡ Some j → slice_get cs j ≡ Some c → field_of field cs n ≡ Some (field c)) → (b : Bool) (i : ℕ)
        → (if b then Some 0 else shifted (slot_of cs n)) ≡ Some i
        → slice_get (d ∷ cs) i ≡ Some c → or_else (if b then Some (field d) else None) (field_of field cs n) ≡ Some (field c)
    go ih true zero e f = cc
    go ih true (suc i) e f = let no : 0 ≡ suc i = cc in absurd (omega arith)
    go ih false i e f =
        let at = shifted-some (slot_of cs n) i e in
        ih at.0 at.2 (subst (λ k. slice_get (d ∷ cs) k ≡ Some c) at.1 f)

pub time-at-slot : (cs : List Commit) (n i : ℕ) (c : Commit) → slot_of cs n ≡ Some i → slice_get cs i ≡ Some c → time_of cs n ≡ Some c.time
time-at-slot cs n i c e f = field-at-slot (λ c. c.time) cs n i c e f

pub no-slot : {X : Type 0} (field : Commit → X) (cs : List Commit) (n : ℕ) → slot_of cs n ≡ None → field_of field cs n ≡ None
no-slot field [] n e = refl
no-slot {X = X} field (c ∷ cs) n e = go (no-slot field cs n) (c.txn == n) (sym (slot-cons c cs n) ∙ e)
  where
    go : (slot_of cs n ≡ None → field_of field cs n ≡ None) → (b : Bool) → (if b then Some 0 else shifted (slot_of cs n)) ≡ None
        → or_else (if b then Some (field c) else None) (field_of field cs n) ≡ None
    go ih true e = cc
    go ih false e = ih (shifted-none (slot_of cs n) e)

pub no-time : (cs : List Commit) (n : ℕ) → time_of cs n ≡ None → slot_of cs n ≡ None
no-time [] n e = refl
no-time (c ∷ cs) n e = slot-cons c cs n ∙ go (no-time cs n) (c.txn == n) e
  where
    go : (time_of cs n ≡ None → slot_of cs n ≡ None) → (b : Bool) → or_else (if b then Some c.time else None) (time_of cs n) ≡ None
        → (if b then Some 0 else shifted (slot_of cs n)) ≡ None
    go ih true e = cc
    go ih false e = ap shifted (ih e)

pub slots-differ : (cs : List Commit) (n m i : ℕ) → slot_of cs n ≡ Some i → slot_of cs m ≡ Some i → n ≡ m
slots-differ cs n m i e f = sym (at n e) ∙ at m f
  where
    none : Commit
    none = record { txn = 0; time = 0; without = [] }

    at : (k : ℕ) → slot_of cs k ≡ Some i → (get_or cs i none).txn ≡ k
    at k e = eqb-true (get_or cs i none).txn k (position-Some (λ c. c.txn == k) cs i none e).1

-- ---- where the transactions rise

txn-at : (cs : List Commit) (i : ℕ) (d : Commit) → i < length cs → get_or (map (λ c. c.txn) cs) i 0 ≡ (get_or cs i d).txn
txn-at cs i d h = get_or-map (λ (c : Commit). c.txn) cs i d 0 h

txn-below : (cs : List Commit) → Rises cs → (i j : ℕ) (d : Commit) → i < j → j < length cs → (get_or cs i d).txn < (get_or cs j d).txn
txn-below cs rises i j d h below =
    let pairs = AllPairs-from_increasing (map (λ c. c.txn) cs) rises i j 0 h (rw length-map below) in
    omega (arith, pairs, txn-at cs i d (omega arith), txn-at cs j d below)

pub slot-here : (cs : List Commit) (n i : ℕ) (c : Commit) → Rises cs → slice_get cs i ≡ Some c → c.txn ≡ n → slot_of cs n ≡ Some i
slot-here cs n i c rises e f =
    rw (
      position_or_len_is (λ c. c.txn == n) cs i c (omega (arith, slice_get_within cs i c e)) before
          (λ _. rw (get_or_from_slice_get cs i c c e) (eq-eqb c.txn n f)),
      lt-ltb i (length cs) within,
    ) refl
  where
    within : i < length cs
    within = slice_get_within cs i c e

    before : (k : ℕ) → k < i → ((get_or cs k c).txn == n) ≡ false
    before k h = grind (arith, nat_tests, txn-below cs rises k i c h within, get_or_from_slice_get cs i c c e)

-- what a read of a slot says
pub slot-read : (cs : List Commit) (n i : ℕ) (c : Commit) → Rises cs → i < length cs → c ≡ get_or cs i c
    → IsTrue (c.txn == n) ↔ (slot_of cs n ≡ Some i)
slot-read cs n i c rises below is =
    let e : slice_get cs i ≡ Some c = slice_get_read cs (length cs) i c refl below is in
    (λ same. slot-here cs n i c rises e (eqb-true c.txn n same), λ f. eq-eqb c.txn n (slot-at cs n i c f e))

slot-absent : (cs : List Commit) (n : ℕ) → ((k : ℕ) (d : Commit) → k < length cs → (get_or cs k d).txn ≢ n) → slot_of cs n ≡ None
slot-absent cs n absent =
    rw (
      position_or_len_is (λ c. c.txn == n) cs (length cs) none (omega arith) (λ k h. apart k h) (λ h. absurd (omega arith)),
      le-ltb
          (length cs) (length cs) (omega arith),
    ) refl
  where
    none : Commit
    none = record { txn = 0; time = 0; without = [] }

    apart : (k : ℕ) → k < length cs → ((get_or cs k none).txn == n) ≡ false
    apart k h = grind (arith, nat_tests, absent k none h)

txn-rank : (a b n : ℕ) → a ≤ b → ordering_index (nat_cmp a n) ≤ ordering_index (nat_cmp b n)
txn-rank a b n h = grind (arith, nat_tests)

txn-ordered : (cs : List Commit) → Rises cs → (n : ℕ) → IsNonDecreasingBy (λ c. ordering_index (nat_cmp c.txn n)) cs
txn-ordered cs rises n i j d h below = txn-rank (get_or cs i d).txn (get_or cs j d).txn n (go (nat_lt i j) refl)
  where
    go : (b : Bool) → nat_lt i j ≡ b → (get_or cs i d).txn ≤ (get_or cs j d).txn
    go true e = let lt = txn-below cs rises i j d (ltb-true i j e) below in omega arith
    go false e = let same : i ≡ j = omega (arith, ltb-false i j e) in rw same (omega arith)

cmp-equal : (a b : ℕ) → nat_cmp a b ≡ Equal → a ≡ b
cmp-equal a b e = grind (arith, nat_tests)

cmp-apart : (a b : ℕ) → (nat_cmp a b ≡ Equal → ⊥) → a ≢ b
cmp-apart a b e = grind (arith, nat_tests)

-- what a binary search answers
pub slot-searched : (cs : List Commit) (n : ℕ) (r : Result ℕ ℕ) → Rises cs → IsSearchInRange r (length cs)
    → IsBinarySearchResult (λ c. nat_cmp c.txn n) cs r → result_ok r ≡ slot_of cs n
slot-searched cs n (Ok i) rises below h =
    let none : Commit = record { txn = 0; time = 0; without = [] } in
    sym (slot-here cs n i (get_or cs i none) rises (slice_get-get_or cs i none below) (cmp-equal (get_or cs i none).txn n (h none)))
slot-searched cs n (Err i) rises below h = sym (slot-absent cs n absent)
  where
    parted : IsPartitionPoint (λ c. nat_cmp c.txn n ≡ Less) (λ c. nat_cmp c.txn n ≡ Greater) cs i
    parted = h (txn-ordered cs rises n)

    absent : (k : ℕ) (d : Commit) → k < length cs → (get_or cs k d).txn ≢ n
    absent k d below = go (nat_lt k i) refl
      where
        go : (b : Bool) → nat_lt k i ≡ b → (get_or cs k d).txn ≢ n
        go true e = let less : nat_cmp (get_or cs k d).txn n ≡ Less = parted.0 k d (omega arith) (ltb-true k i e) in cmp-apart
            (get_or cs k d).txn n (λ f. cc)
        go false e = let more : nat_cmp (get_or cs k d).txn n ≡ Greater = parted.1 k d (ltb-false k i e) below in cmp-apart
            (get_or cs k d).txn n (λ f. cc)
