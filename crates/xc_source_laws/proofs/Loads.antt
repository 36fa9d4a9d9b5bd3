-- How much a call logs, and how much waits after it.
use Rattle.std.proofs.Common.{◌≡◌, ℕ, zero, suc, ◌+◌, ◌-◌, ◌≤◌, true, false, Bool, List, [], ◌∷◌, ◌++◌, length, map, Option, Some, None}
use Rattle.std.proofs.Common.{refl, ap, sym, ◌∙◌, subst, arith, inl, inr, ⊎_elim, ◌⊎◌}
use Rattle.std.specs.Prelude.{not, slice_get, slice_set, if◌then◌else◌, ◌&&◌, ◌||◌, ◌==◌, count_by, sum_by, option_map}
use Rattle.std.specs.List.{enumerate_from, list_any}
use Rattle.std.specs.Option.{option_map_or}
use Rattle.std.proofs.lemmas.Bool.Decides.{nat_tests}
use Rattle.std.proofs.lemmas.List.{length_push}
use Rattle.std.proofs.lemmas.List.Sums.{sum_by_push}
use Rattle.xc_record.specs.declared.record.Header.{Header}
use Rattle.xc_record.specs.declared.record.Kind.{Kind}
use Rattle.xc_record.specs.declared.record.Kind.TheVariants as kind
use Rattle.xc_record.specs.declared.record.Record.{Record}
use Rattle.xc_record.specs.declared.record.Tablet.{Tablet}
use Rattle.xc_record.specs.Grown.{with_record, grown}
use Rattle.xc_record.specs.Hash.{holds, hash_of}
use Rattle.xc_record.proofs.ListLaws.{Each}
use Rattle.xc_source.specs.declared.transaction.Provisional.{Provisional}
use Rattle.xc_source.specs.Machine.{Machine, Transaction, transaction, with_transaction, begun, record_count, records_in, is_live}
use Rattle.xc_source.specs.Waiting.{is_waiting, taken_write, has_write, holder}
use Rattle.xc_source.specs.Calls.{logged, aborted, aborted_write, with_aborts}
use Rattle.xc_source_laws.proofs.Lists.{get-seam, set-seam}
use Rattle.xc_source_laws.proofs.Base.{transaction-at}
use Rattle.xc_source_laws.proofs.Opened.{enumerated}
use Rattle.xc_source_laws.proofs.Counts.{sum-set, bit, bit-true, bit-false, count-cons, find-none}

-- the writes of a transaction that wait
abbrev pub waits_in : Transaction → ℕ
waits_in t = count_by (λ w. w.waits) t.writes

-- the writes of all transactions that wait
abbrev pub waiting : Machine → ℕ
waiting m = sum_by waits_in m.txns

abbrev pub headers : List Tablet → List Header
headers ts = map (λ (t : Tablet). t.header) ts

-- what was logged and what waits grew by `a` at most, and so did what was logged and the time; the tablets are the same
pub record Little (a : ℕ) (m u : Machine) : Type 0 where
  pub load : record_count u + waiting u ≤ record_count m + waiting m + a
  pub clock : u.time + waiting u ≤ m.time + waiting m + a
  pub heads : headers u.tablets ≡ headers m.tablets

pub little-then : (a b : ℕ) (m u w : Machine) → Little a m u → Little b u w → Little (a + b) m w
little-then a b m u w g h = record {
  load = let x = g.load in let y = h.load in omega arith;
  clock = let x = g.clock in let y = h.clock in omega arith;
  heads = h.heads ∙ g.heads;
}

pub little-more : (a b : ℕ) (m u : Machine) → a ≤ b → Little a m u → Little b m u
little-more a b m u l g =
    record { load = let x = g.load in omega arith; clock = let x = g.clock in omega arith; heads = g.heads }

-- ---- a record

map-set : {X Y : Type 0} (f : X → Y) (xs : List X) (i : ℕ) (x y : X) → slice_get xs i ≡ Some x → f y ≡ f x
    → map f (slice_set xs i y) ≡ map f xs
map-set f [] i x y e h = refl
map-set f (z ∷ xs) zero x y e h = let q : z ≡ x = cc in ap (λ w. w ∷ map f xs) (h ∙ sym (ap f q))
map-set f (z ∷ xs) (suc i) x y e h = ap (λ w. f z ∷ w) (map-set f xs i x y e h)

pub size-record : (id : ℕ) (r : Record) (ts : List Tablet) → records_in (with_record id r ts) ≤ records_in ts + 1
size-record id r ts = go (slice_get ts id) refl
  where
    go : (o : Option Tablet) → slice_get ts id ≡ o
        → records_in (option_map_or (λ t. slice_set ts id (grown t r)) o ts) ≤ records_in ts + 1
    go None e = omega arith
    go (Some t) e =
        let a = sum-set (λ (t : Tablet). length t.records) ts id t (grown t r) e in
        let b = length_push t.records r in omega arith

pub heads-record : (id : ℕ) (r : Record) (ts : List Tablet) → headers (with_record id r ts) ≡ headers ts
heads-record id r ts = go (slice_get ts id) refl
  where
    go : (o : Option Tablet) → slice_get ts id ≡ o → headers (option_map_or (λ t. slice_set ts id (grown t r)) o ts) ≡ headers ts
    go None e = refl
    go (Some t) e = map-set (λ (t : Tablet). t.header) ts id t (grown t r) e refl

pub little-logged : (id : ℕ) (kind : Kind) (m : Machine) → Little 1 m (logged id kind m)
little-logged id kind m =
    let r : Record = record { time = m.time + 1; kind = kind } in record {
      load = let a = size-record id r m.tablets in omega arith;
      clock = omega arith;
      heads = heads-record id r m.tablets;
    }

-- aborts log as many records as there are tablets, and nothing else
pub record Aborts (m u : Machine) (k : ℕ) : Type 0 where
  pub records : record_count u ≤ record_count m + k
  pub time : u.time ≡ m.time + k
  pub txns : u.txns ≡ m.txns
  pub heads : headers u.tablets ≡ headers m.tablets

pub aborts-logged : (n : ℕ) (ids : List ℕ) (m : Machine) → Aborts m (with_aborts n ids m) (length ids)
aborts-logged n [] m = record { records = omega arith; time = omega arith; txns = refl; heads = refl }
aborts-logged n (id ∷ ids) m =
    let u = logged id (kind.Abort n) m in
    let r : Record = record { time = m.time + 1; kind = kind.Abort n } in
    let rest = aborts-logged n ids u in
    record {
      records = let a = size-record id r m.tablets in let b = rest.records in omega arith;
      time = let b = rest.time in omega arith;
      txns = rest.txns;
      heads = rest.heads ∙ heads-record id r m.tablets;
    }

-- ---- a transaction

pub waiting-set : (m : Machine) (n : ℕ) (t u : Transaction) → transaction m n ≡ Some t
    → waiting (with_transaction n u m) + waits_in t ≡ waiting m + waits_in u
waiting-set m n t u e = sum-set waits_in m.txns (n - 1) t u (transaction-at m n t e).1

pub little-txn : (n d : ℕ) (t u : Transaction) (m : Machine) → transaction m n ≡ Some t → waits_in u ≤ waits_in t + d
    → Little d m (with_transaction n u m)
little-txn n d t u m e l = let a = waiting-set m n t u e in record { load = omega arith; clock = omega arith; heads = refl }

pub waiting-begun : (m : Machine) → waiting (record m { txns = m.txns ++ begun ∷ [] }) ≡ waiting m
waiting-begun m = let a = sum_by_push waits_in m.txns begun in let b : waits_in begun ≡ 0 = refl in omega arith

abbrev is_waiting_write : Provisional → Bool
is_waiting_write w = w.waits

pub waits-aborted : (t : Transaction) → waits_in (aborted t) ≡ 0
waits-aborted t = go t.writes
  where
    go : (ws : List Provisional) → count_by is_waiting_write (map aborted_write ws) ≡ 0
    go [] = refl
    go (w ∷ ws) =
        let a = count-cons is_waiting_write (aborted_write w) (map aborted_write ws) in
        let b = bit-false (is_waiting_write (aborted_write w)) refl in
        let c = go ws in omega arith

-- what an apply takes waits no more
bit-taken : (h : Header) (w : Provisional) → bit (is_waiting_write (taken_write h w)) ≤ bit w.waits
bit-taken h w = go (holds h (hash_of w.op.key)) (w.waits) refl
  where
    go : (b c : Bool) → w.waits ≡ c → bit (is_waiting_write (if b then record w { waits = false } else w)) ≤ bit c
    go true true e = let a = bit-false false refl in omega arith
    go true false e = let a = bit-false false refl in omega arith
    go false c e = let a = ap bit e in omega arith

bit-took : (h : Header) (w : Provisional) → is_waiting h w ≡ true → bit (is_waiting_write (taken_write h w)) + 1 ≤ bit w.waits
bit-took h w e = go (holds h (hash_of w.op.key)) w.waits refl e
  where
    go : (b c : Bool) → w.waits ≡ c → (c && b) ≡ true → bit (is_waiting_write (if b then record w { waits = false } else w)) + 1 ≤ bit c
    go true true q z = let a = bit-false false refl in let b = bit-true true refl in omega arith
    go true false q z = cc
    go false true q z = cc
    go false false q z = cc

taken-le : (h : Header) (ws : List Provisional)
    → count_by is_waiting_write (map (taken_write h) ws) ≤ count_by is_waiting_write ws
taken-le h [] = omega arith
taken-le h (w ∷ ws) =
    let a = count-cons is_waiting_write (taken_write h w) (map (taken_write h) ws) in
    let b = count-cons is_waiting_write w ws in
    let c = bit-taken h w in
    let d = taken-le h ws in omega arith

pub taken-less : (h : Header) (ws : List Provisional) → list_any (is_waiting h) ws ≡ true
    → count_by is_waiting_write (map (taken_write h) ws) + 1 ≤ count_by is_waiting_write ws
taken-less h [] e = cc
taken-less h (w ∷ ws) e =
    let a = count-cons is_waiting_write (taken_write h w) (map (taken_write h) ws) in
    let b = count-cons is_waiting_write w ws in
    let c = bit-taken h w in
    let d = taken-le h ws in
    elim (is_waiting h w) as (λ v. is_waiting h w ≡ v → (v || list_any (is_waiting h) ws) ≡ true
    → count_by is_waiting_write (map (taken_write h) (w ∷ ws)) + 1 ≤ count_by is_waiting_write (w ∷ ws)) [
      | true ↦ λ q z. let f = bit-took h w q in omega arith
      | false ↦ λ q z. let f = taken-less h ws z in omega arith
    ] refl e

-- ---- the transaction that began last

pub record Own (m : Machine) (xs : List Transaction) (t : Transaction) : Type 0 where
  pub whole : m.txns ≡ xs ++ t ∷ []

pub own-there : (m : Machine) (xs : List Transaction) (t : Transaction) → Own m xs t → transaction m (length xs + 1) ≡ Some t
own-there m xs t o =
    let z : (length xs + 1 == 0) ≡ false = grind (arith, nat_tests) in
    ap (λ b. if b then None else slice_get m.txns (length xs + 1 - 1)) z
    ∙ ap (λ ts. slice_get ts (length xs + 1 - 1)) o.whole ∙ get-seam xs t [] (length xs + 1 - 1) (omega arith)

pub own-set : (m : Machine) (xs : List Transaction) (t u : Transaction) → Own m xs t → Own (with_transaction (length xs + 1) u m) xs u
own-set m xs t u o = record {
  whole = ap (λ ts. slice_set ts (length xs + 1 - 1) u) o.whole ∙ set-seam xs t u [] (length xs + 1 - 1) (omega arith);
}

-- ---- conflicts

abbrev pub NotLive : Transaction → Type 0
NotLive t = is_live t.stage ≡ false

abbrev is_other : ℕ → List ℕ → ℕ × Transaction → Bool
is_other n key p = not (p.0 == n) && has_write key p.1

no-holder : (m : Machine) (n : ℕ) (key : List ℕ)
    → ((i : ℕ) (x : Transaction) → slice_get m.txns i ≡ Some x → is_other n key (1 + i, x) ≡ false) → holder m n key ≡ None
unfolding holder
no-holder m n key f =
    ap (option_map (λ (p : ℕ × Transaction). p.0))
    (find-none (is_other n key) (enumerate_from 1 m.txns) (enumerated (λ p. is_other n key p ≡ false) 1 m.txns f))

not-writing : (n : ℕ) (key : List ℕ) (p : ℕ × Transaction) → NotLive p.1 → is_other n key p ≡ false
not-writing n key p h = grind (arith, h)

idle-at : (xs : List Transaction) (i : ℕ) (x : Transaction) → Each NotLive xs → slice_get xs i ≡ Some x → NotLive x
idle-at [] i x h e = cc
idle-at (y ∷ xs) zero x h e = let q : y ≡ x = cc in subst NotLive q h.0
idle-at (y ∷ xs) (suc i) x h e = idle-at xs i x h.1 e

idle-or-own : (xs : List Transaction) (t : Transaction) (i : ℕ) (x : Transaction) → Each NotLive xs → slice_get (xs ++ t ∷ []) i ≡ Some x
    → NotLive x ⊎ (i ≡ length xs)
idle-or-own [] t zero x h e = inr refl
idle-or-own [] t (suc i) x h e = cc
idle-or-own (y ∷ xs) t zero x h e = let q : y ≡ x = cc in inl (subst NotLive q h.0)
idle-or-own (y ∷ xs) t (suc i) x h e = ⊎_elim (λ l. inl l) (λ q. inr (ap suc q)) (idle-or-own xs t i x h.1 e)

-- no transaction is live
pub no-conflict : (m : Machine) (n : ℕ) (key : List ℕ) → Each NotLive m.txns → holder m n key ≡ None
no-conflict m n key h = no-holder m n key (λ i x e. not-writing n key (1 + i, x) (idle-at m.txns i x h e))

-- none but this one is
pub no-own-conflict : (m : Machine) (xs : List Transaction) (t : Transaction) (key : List ℕ) → Own m xs t → Each NotLive xs
    → holder m (length xs + 1) key ≡ None
no-own-conflict m xs t key o h =
    no-holder m (length xs + 1) key (λ i x e.
    ⊎_elim (λ l. not-writing (length xs + 1) key (1 + i, x) l)
    (λ q. let z : (1 + i == length xs + 1) ≡ true = grind (arith, nat_tests, q) in ap (λ b. not b && has_write key x) z)
    (idle-or-own xs t i x h (subst (λ ts. slice_get ts i ≡ Some x) o.whole e)))
