-- The row at a key is what the newest committed operation of its path leaves there.
use Rattle.xc_model.proofs.Common.{◌≡◌, ◌==◌, ℕ, ◌<◌, ◌≤◌, Bool, true, false, cond, not, List, [], ◌∷◌, ◌++◌, map, Option, Some, None, refl}
use Rattle.xc_model.proofs.Common.{ap, sym, ◌∙◌, arith, append-nil, filter, flat_map, option_map_or, Ordering, is_gt, nat_cmp, nat_tests}
use Rattle.xc_model.proofs.Common.{flat_map-append, Kind, Op, Record, Logs, hash_of, AcceptedTablet, accepted_tablets, has, sort_by}
use Rattle.xc_model.proofs.Common.{Provisional, provisional_cmp, intent_ops, sub_of, intents_in, intents, txn_ops, undone, Written, puts}
use Rattle.xc_model.proofs.Common.{Numbered, Each-append, Each-weaker, ◌≢◌, append_assoc, ⊎_elim, nat_le, filter_map, ordering_then}
use Rattle.xc_model.proofs.Common.{cases_eq, eq-eqb, ne_eqb, or_left, or_right, filter-append, Commit, commit_cmp, applied_txn, commit_of}
use Rattle.xc_model.proofs.Common.{applied, write_ops, writes_in, write_commits, txn_commits, commits, Event, Put, Hold, Version}
use Rattle.xc_model.proofs.Common.{version_cmp, events, record_events, kind_events, upto, newest, last_of, value_of, ops_to, row}
use Rattle.xc_model.proofs.Common.{after_puts, row-puts, commit-applied, is_valid, kind_fits, children, headers_of, Header, FitsTablet}
use Rattle.xc_model.proofs.Common.{accepted-fit, holds, puts-away, applied-commits, commit-number, and_parts}
use Rattle.std.proofs.lemmas.Bool.{leb-true}
use Rattle.xc_record.proofs.NumberLaws.{Rising, distinct-rising}
use Rattle.xc_record.specs.declared.record.Kind.TheVariants as log
use Rattle.xc_model.{proofs.Chain.Goes, proofs.Chain.path-goes, proofs.Tree.chained, proofs.Parents.heads, proofs.Parents.each-numbered}
use Rattle.xc_model.{proofs.Elements.each-map, proofs.Elements.some-of, proofs.ApplyPath.version-orders}
use Rattle.xc_model.proofs.StableSort.{Each, Before, Orders, InOrder}
use Rattle.xc_model.proofs.Along.{floor_by, own, origin, path_of, commits_at, version_at, committed}
use Rattle.xc_model.proofs.Flat.{flat-flat, flat-all, flat-filter, flat-none, map-flat, puts-flat, flat-same, filter-flat, each-flat}
use Rattle.xc_model.proofs.Flat.{each-all}
use Rattle.xc_model.proofs.Sorts.{flat-sort, sort-in_order, Agreeing, sort-finer, ties-rising, sort-grouped, Ties, ties-append, ties-same}

-- what tablets say of a key is what its path does, as tablets that don't hold it say nothing of it
over-path : {B : Type 0} (f g : Record → List B) (h : ℕ) (es : List AcceptedTablet)
    → Each (λ e. (holds e.header h ≡ false → flat_map f e.records ≡ []) × (flat_map f e.records ≡ flat_map g e.records)) es
    → flat_map (λ e. flat_map f e.records) es ≡ flat_map g (path_of h es)
over-path f g h [] q = refl
over-path f g h (e ∷ es) q = go (over-path f g h es q.1) (holds e.header h) refl
  where
    go : flat_map (λ e. flat_map f e.records) es ≡ flat_map g (path_of h es) → (b : Bool) → holds e.header h ≡ b
        → flat_map f e.records ++ flat_map (λ e. flat_map f e.records) es ≡ flat_map g
        (flat_map (λ w. w.records) (cond b (e ∷ filter (λ w. holds w.header h) es) (filter (λ w. holds w.header h) es)))
    go ih true c = ap (λ w. flat_map f e.records ++ w) ih ∙ ap (λ w. w ++ flat_map g (path_of h es)) q.0.1
        ∙ sym (flat_map-append g e.records (path_of h es))
    go ih false c = ap (λ w. w ++ flat_map (λ (e : AcceptedTablet). flat_map f e.records) es) (q.0.0 c) ∙ ih

fit-path : {B : Type 0} (f g : Record → List B) (k : List ℕ) (logs : Logs) → is_valid logs ≡ true
    → ((t : Header) (pair : Option (Header × Header)) (r : Record) → holds t (hash_of k) ≡ false → kind_fits t pair r.kind ≡ true
    → f r ≡ []) → ((t : Header) (pair : Option (Header × Header)) (r : Record) → kind_fits t pair r.kind ≡ true → f r ≡ g r)
    → flat_map (λ e. flat_map f e.records) (accepted_tablets logs) ≡ flat_map g (path_of (hash_of k) (accepted_tablets logs))
fit-path f g k logs v away same = let hs = headers_of logs.tablets in
    over-path f g (hash_of k) (accepted_tablets logs)
    (Each-weaker (FitsTablet hs)
    (λ e. (holds e.header (hash_of k) ≡ false → flat_map f e.records ≡ []) × (flat_map f e.records ≡ flat_map g e.records)) (λ e w. (
      (λ c. flat-none f (λ r. kind_fits e.header (children hs e.header.id) r.kind ≡ true) (λ r q. away e.header _ r c q) e.records w),
      flat-same f g (λ r. kind_fits e.header (children hs e.header.id) r.kind ≡ true) (λ r q. same e.header _ r q) e.records w,
    )) (accepted_tablets logs) (accepted-fit logs v))

-- of a transaction's operations, but for those of some subtransactions, on a key: what a record says
abbrev pub kind_lefts : List ℕ → ℕ → List ℕ → Kind → List Written
kind_lefts k n without (log.Intent sub m ops) = cond (m == n) (puts k (cond (not (has sub without)) ops [])) []
kind_lefts k n without _ = []

-- an operation on the key, with its intent's time
pub record Timed : Type 0 where
  pub time : ℕ
  pub value : Written

abbrev pub timed : ℕ → List Written → List Timed
timed time vs = map (λ v. record { time = time; value = v }) vs

abbrev is_kept : List ℕ → Provisional → Bool
is_kept without i = not (has i.sub without)

abbrev kept_ops : List ℕ → Provisional → List Op
kept_ops without i = cond (is_kept without i) i.ops []

abbrev intent_timed : List ℕ → List ℕ → Provisional → List Timed
intent_timed k without i = timed i.time (puts k (kept_ops without i))

timed-at : (time : ℕ) (vs : List Written) → Each (λ y. y.time ≡ time) (timed time vs)
timed-at time vs = each-map (λ y. y.time ≡ time) (λ (v : Written). record { time = time; value = v }) vs (λ v. refl)

timed-values : (time : ℕ) (vs : List Written) → map (λ y. y.value) (timed time vs) ≡ vs
timed-values time [] = refl
timed-values time (v ∷ vs) = ap (λ w. v ∷ w) (timed-values time vs)

abbrev intent_of : ℕ → ℕ → ℕ → Kind → List Provisional
intent_of n s time kind =
    option_map_or (λ ops. record { time = time; tablet = s; sub = sub_of kind; ops = ops } ∷ []) (intent_ops n kind) []

kind-timed : (k without : List ℕ) (n s time : ℕ) (kind : Kind)
    → flat_map (intent_timed k without) (intent_of n s time kind) ≡ timed time (kind_lefts k n without kind)
kind-timed k without n s time (log.Write ops) = refl
kind-timed k without n s time (log.Intent sub m ops) = elim (m == n) as (λ b. flat_map (intent_timed k without)
    (option_map_or (λ (ops : List Op). record { time = time; tablet = s; sub = sub; ops = ops } ∷ []) (cond b (Some ops) None) []) ≡
    timed time (cond b (puts k (cond (not (has sub without)) ops [])) [])) [
      | true ↦ append-nil (timed time (puts k (cond (not (has sub without)) ops [])))
      | false ↦ refl
    ]
kind-timed k without n s time (log.Apply m c others) = refl
kind-timed k without n s time _ = refl

abbrev record_timed : List ℕ → List ℕ → ℕ → Record → List Timed
record_timed k without n r = timed r.time (kind_lefts k n without r.kind)

records-timed : (k without : List ℕ) (n s : ℕ) (rs : List Record)
    → flat_map (intent_timed k without) (intents_in n s rs) ≡ flat_map (record_timed k without n) rs
records-timed k without n s [] = refl
records-timed k without n s (r ∷ rs) = flat_map-append (intent_timed k without) (intent_of n s r.time r.kind) (intents_in n s rs)
    ∙ ap (λ w. w ++ flat_map (intent_timed k without) (intents_in n s rs)) (kind-timed k without n s r.time r.kind)
    ∙ ap (λ w. record_timed k without n r ++ w) (records-timed k without n s rs)

lefts-away : (k without : List ℕ) (n : ℕ) (t : Header) (pair : Option (Header × Header)) (kind : Kind) → holds t (hash_of k) ≡ false
    → kind_fits t pair kind ≡ true → kind_lefts k n without kind ≡ []
lefts-away k without n t pair (log.Intent sub m ops) c f =
    elim (m == n) as (λ b. cond b (puts k (cond (not (has sub without)) ops [])) [] ≡ []) [
      | true ↦ elim (has sub without) as (λ b. puts k (cond (not b) ops []) ≡ [])
          [ true ↦ refl | false ↦ puts-away k t ops c (and_parts _ _ (and_parts _ _ f).1).1 ]
      | false ↦ refl
    ]
lefts-away k without n t pair _ c f = refl

abbrev timed_cmp : Timed → Timed → Ordering
timed_cmp x y = nat_cmp x.time y.time

before-time : (x y : ℕ) → x ≤ y → is_gt (nat_cmp x y) ≡ false
before-time x y h = grind (arith, nat_tests)

block-in_order : (t : ℕ) (xs ys : List Timed) → Each (λ y. y.time ≡ t) xs → Each (λ y. t < y.time) ys → InOrder timed_cmp ys
    → InOrder timed_cmp (xs ++ ys)
block-in_order t [] ys h e s = s
block-in_order t (x ∷ xs) ys h e s = (
  Each-append (Before timed_cmp x) xs ys
      (Each-weaker (λ y. y.time ≡ t) (Before timed_cmp x) (λ y q. let p : x.time ≡ t = h.0 in before-time x.time y.time (omega arith)) xs
      h.1)
      (Each-weaker (λ y. t < y.time) (Before timed_cmp x) (λ y q. let p : x.time ≡ t = h.0 in before-time x.time y.time (omega arith)) ys
      e),
  block-in_order t xs ys h.1 e s,
)

timed-in_order : (k without : List ℕ) (n f l : ℕ) (rs : List Record) → Goes f l rs
    → InOrder timed_cmp (flat_map (record_timed k without n) rs) × Each (λ y. l < y.time) (flat_map (record_timed k without n) rs)
timed-in_order k without n f l [] g = (tt, tt)
timed-in_order k without n f l (r ∷ rs) g = let rest = timed-in_order k without n (floor_by f r.kind) r.time rs g.2 in
    let vs = kind_lefts k n without r.kind in
    let here = timed-at r.time vs in
    let more = flat_map (record_timed k without n) rs in (
      block-in_order r.time (timed r.time vs) more here rest.1 rest.0,
      Each-append (λ y. l < y.time) (timed r.time vs) more
          (Each-weaker (λ y. y.time ≡ r.time) (λ y. l < y.time) (λ y q. let p : l < r.time = g.0 in omega arith) (timed r.time vs) here)
          (Each-weaker (λ y. r.time < y.time) (λ y. l < y.time) (λ y q. let p : l < r.time = g.0 in omega arith) more rest.1),
    )

number-total : (x y : ℕ) → is_gt (nat_cmp x y) ≡ true → is_gt (nat_cmp y x) ≡ false
number-total x y h = grind (arith, nat_tests)

number-trans : (x y z : ℕ) → is_gt (nat_cmp x y) ≡ false → is_gt (nat_cmp y z) ≡ false → is_gt (nat_cmp x z) ≡ false
number-trans x y z h k = grind (arith, nat_tests)

number-orders : Orders nat_cmp
number-orders = record { total = λ x y h. number-total x y h; trans = λ x y z h k. number-trans x y z h k }

-- ---- intents by log time alone

abbrev time_cmp : Provisional → Provisional → Ordering
time_cmp x y = nat_cmp x.time y.time

time-finer : (x y : Provisional) → is_gt (provisional_cmp x y) ≡ false → is_gt (time_cmp x y) ≡ false
time-finer x y e = grind (arith, nat_tests)

intents-agree : (x y : Provisional) → x.tablet ≤ y.tablet → Agreeing provisional_cmp time_cmp x y
intents-agree x y h e = grind (arith, nat_tests)

own-intent : (s time sub : ℕ) (o : Option (List Op))
    → Each (λ (x : Provisional). x.tablet ≡ s) (option_map_or (λ ops. record { time = time; tablet = s; sub = sub; ops = ops } ∷ []) o [])
own-intent s time sub None = tt
own-intent s time sub (Some ops) = (refl, tt)

own-intents : (n s : ℕ) (rs : List Record) → Each (λ (x : Provisional). x.tablet ≡ s) (intents_in n s rs)
own-intents n s [] = tt
own-intents n s (r ∷ rs) = Each-append (λ (x : Provisional). x.tablet ≡ s) (intent_of n s r.time r.kind) (intents_in n s rs)
    (own-intent s r.time (sub_of r.kind) (intent_ops n r.kind)) (own-intents n s rs)

abbrev intents_of : ℕ → List AcceptedTablet → List Provisional
intents_of n bs = flat_map (λ b. intents_in n b.header.id b.records) bs

by-time : (n : ℕ) (bs : List AcceptedTablet) → Numbered 0 (heads bs)
    → sort_by provisional_cmp (intents_of n bs) ≡ sort_by time_cmp (intents_of n bs)
by-time n bs m = sort-finer provisional_cmp time_cmp time-finer (intents_of n bs)
    (ties-rising provisional_cmp time_cmp (λ (x : Provisional). x.tablet) intents-agree (λ b. intents_in n b.header.id b.records)
    (λ b. own-intents n b.header.id b.records) 0 bs m)

-- ---- the law

-- the operations of a transaction that were not rolled back, at a key
pub txn-lefts : (logs : Logs) (k : List ℕ) (n : ℕ) → is_valid logs ≡ true → puts k (txn_ops logs n) ≡ flat_map
    (λ r. kind_lefts k n (undone logs n) r.kind) (path_of (hash_of k) (accepted_tablets logs))
unfolding txn_ops intents
txn-lefts logs k n v = let es = accepted_tablets logs in let p = path_of (hash_of k) es in let xs = intents_of n es in
    let without = undone logs n in
    let g = record_timed k without n in
    let whole : flat_map (intent_timed k without) xs ≡ flat_map g p =
    flat-flat (λ (b : AcceptedTablet). intents_in n b.header.id b.records) (intent_timed k without) es
    ∙ flat-all (λ (b : AcceptedTablet). flat_map (intent_timed k without) (intents_in n b.header.id b.records)) (λ b. flat_map g b.records)
    (λ b. records-timed k without n b.header.id b.records) es
    ∙ fit-path g g k logs v (λ t pair r c w. ap (timed r.time) (lefts-away k without n t pair r.kind c w)) (λ t pair r w. refl) in
    ap (λ w. puts k (flat_map (λ (i : Provisional). i.ops) (filter (is_kept without) w))) (by-time n es (each-numbered logs v))
    ∙ ap (puts k) (flat-filter (λ (i : Provisional). i.ops) (is_kept without) (sort_by time_cmp xs))
    ∙ puts-flat k (kept_ops without) (sort_by time_cmp xs)
    ∙ flat-all (λ (i : Provisional). puts k (kept_ops without i)) (λ i. map (λ y. y.value) (intent_timed k without i))
    (λ i. sym (timed-values i.time (puts k (kept_ops without i)))) (sort_by time_cmp xs)
    ∙ sym (map-flat (λ (y : Timed). y.value) (intent_timed k without) (sort_by time_cmp xs))
    ∙ ap (map (λ (y : Timed). y.value))
    (flat-sort nat_cmp number-orders (λ (i : Provisional). i.time) (λ (y : Timed). y.time) (intent_timed k without)
    (λ i. timed-at i.time (puts k (kept_ops without i)))
    (record { total = λ x y h. number-total x.time y.time h; trans = λ x y z h q. number-trans x.time y.time z.time h q }) xs
    ∙ ap (sort_by timed_cmp) whole ∙ sort-in_order timed_cmp (flat_map g p) (timed-in_order k without n 0 0 p (path-order logs k v)).0)
    ∙ map-flat (λ (y : Timed). y.value) g p
    ∙ flat-all (λ r. map (λ (y : Timed). y.value) (g r)) (λ r. kind_lefts k n without r.kind)
    (λ r. timed-values r.time (kind_lefts k n without r.kind)) p
  where
    path-order : (logs : Logs) (k : List ℕ) → is_valid logs ≡ true → Goes 0 0 (path_of (hash_of k) (accepted_tablets logs))
    path-order logs k v = path-goes origin (filter (own (hash_of k)) (accepted_tablets logs)) (chained logs (hash_of k) v).threads

-- ---- the row at a key is what the newest committed operation of its path leaves there

-- ---- `committed` goes record by record

pub committed-append : (logs : Logs) (es fs : List Event)
    → committed logs (es ++ fs) ≡ committed logs es ++ committed logs fs
committed-append logs [] fs = refl
committed-append logs (Put time v ∷ es) fs =
    ap (λ w. record { commit = time; txn = 0; value = v } ∷ w) (committed-append logs es fs)
committed-append logs (Hold n sub time v ∷ es) fs =
    ap (λ w. version_at (commits_at logs n sub) n v ++ w) (committed-append logs es fs)
    ∙ sym (append_assoc (version_at (commits_at logs n sub) n v) (committed logs es) (committed logs fs))
committed-append logs (_ ∷ es) fs = committed-append logs es fs

pub committed-records : (logs : Logs) (k : List ℕ) (rs : List Record)
    → committed logs (events k rs) ≡ flat_map (λ r. committed logs (record_events k r)) rs
committed-records logs k [] = refl
committed-records logs k (r ∷ rs) = committed-append logs (record_events k r) (events k rs)
    ∙ ap (λ w. committed logs (record_events k r) ++ w) (committed-records logs k rs)

abbrev version_made : ℕ → ℕ → Written → Version
version_made c n v = record { commit = c; txn = n; value = v }

abbrev versions_of : List ℕ → Commit → List Version
versions_of k c = map (λ v. version_made c.time c.txn v) (puts k c.ops)

-- of the versions with a number
abbrev has_number : ℕ → Version → Bool
has_number n x = n == x.txn

-- ---- writes

puts-zero : (logs : Logs) (time : ℕ) (vs : List Written)
    → map (λ v. version_made time 0 v) vs ≡ filter (has_number 0) (committed logs (map (λ v. Put time v) vs))
puts-zero logs time [] = refl
puts-zero logs time (v ∷ vs) = ap (λ w. version_made time 0 v ∷ w) (puts-zero logs time vs)

puts-other : (logs : Logs) (n time : ℕ) (vs : List Written) → 0 < n
    → filter (has_number n) (committed logs (map (λ v. Put time v) vs)) ≡ []
puts-other logs n time [] h = refl
puts-other logs n time (v ∷ vs) h = grind (arith, nat_tests, puts-other logs n time vs h)

version-other : (n m : ℕ) (o : Option ℕ) (v : Written) → n ≢ m → filter (has_number n) (version_at o m v) ≡ []
version-other n m None v h = refl
version-other n m (Some c) v h = grind (arith, nat_tests)

holds-other : (logs : Logs) (n m sub time : ℕ) (vs : List Written) → n ≢ m
    → filter (has_number n) (committed logs (map (λ v. Hold m sub time v) vs)) ≡ []
holds-other logs n m sub time [] h = refl
holds-other logs n m sub time (v ∷ vs) h = let o = commits_at logs m sub in
    let rest = committed logs (map (λ v. Hold m sub time v) vs) in
    filter-append (has_number n) (version_at o m v) rest ∙ ap (λ w. w ++ filter (has_number n) rest) (version-other n m o v h)
    ∙ holds-other logs n m sub time vs h

abbrev kind_puts : List ℕ → Kind → List Written
kind_puts k (log.Write ops) = puts k ops
kind_puts k _ = []

kind-writes : (logs : Logs) (k : List ℕ) (time : ℕ) (t : Header) (pair : Option (Header × Header)) (kind : Kind)
    → kind_fits t pair kind ≡ true → map (λ v. version_made time 0 v) (kind_puts k kind) ≡ filter (has_number 0)
    (committed logs (kind_events k time kind))
kind-writes logs k time t pair (log.Write ops) h = puts-zero logs time (puts k ops)
kind-writes logs k time t pair (log.Intent sub n ops) h =
    sym (holds-other logs 0 n sub time (puts k ops) (λ q. let z : 1 ≤ n = leb-true _ _ (and_parts _ _ (and_parts _ _ h).0).0 in
    let y : ⊥ = omega arith in y))
kind-writes logs k time t pair _ h = refl

writes-away : (k : List ℕ) (t : Header) (pair : Option (Header × Header)) (kind : Kind) → holds t (hash_of k) ≡ false
    → kind_fits t pair kind ≡ true → kind_puts k kind ≡ []
writes-away k t pair (log.Write ops) c f = puts-away k t ops c f
writes-away k t pair _ c f = refl

abbrev write_of : ℕ → ℕ → Kind → List Commit
write_of s time kind = option_map_or (λ ops. record { time = time; txn = 0; tablet = s; ops = ops } ∷ []) (write_ops kind) []

kind-write : (k : List ℕ) (s time : ℕ) (kind : Kind)
    → flat_map (versions_of k) (write_of s time kind) ≡ map (λ v. version_made time 0 v) (kind_puts k kind)
kind-write k s time (log.Write ops) = append-nil (map (λ v. version_made time 0 v) (puts k ops))
kind-write k s time _ = refl

abbrev record_versions : List ℕ → Record → List Version
record_versions k r = map (λ v. version_made r.time 0 v) (kind_puts k r.kind)

records-write : (k : List ℕ) (s : ℕ) (rs : List Record) → flat_map (versions_of k) (writes_in s rs) ≡ flat_map (record_versions k) rs
records-write k s [] = refl
records-write k s (r ∷ rs) = flat_map-append (versions_of k) (write_of s r.time r.kind) (writes_in s rs)
    ∙ ap (λ w. w ++ flat_map (versions_of k) (writes_in s rs)) (kind-write k s r.time r.kind)
    ∙ ap (λ w. record_versions k r ++ w) (records-write k s rs)

writes-at : (logs : Logs) (k : List ℕ) → is_valid logs ≡ true
    → flat_map (versions_of k) (write_commits logs) ≡ filter (has_number 0)
    (committed logs (events k (path_of (hash_of k) (accepted_tablets logs))))
unfolding write_commits
writes-at logs k v = let es = accepted_tablets logs in let p = path_of (hash_of k) es in
    flat-flat (λ (b : AcceptedTablet). writes_in b.header.id b.records) (versions_of k) es
    ∙ flat-all (λ (b : AcceptedTablet). flat_map (versions_of k) (writes_in b.header.id b.records))
    (λ b. flat_map (record_versions k) b.records) (λ b. records-write k b.header.id b.records) es
    ∙ fit-path (record_versions k) (λ r. filter (has_number 0) (committed logs (record_events k r))) k logs v
    (λ t pair r c w. ap (map (λ v. version_made r.time 0 v)) (writes-away k t pair r.kind c w))
    (λ t pair r w. kind-writes logs k r.time t pair r.kind w)
    ∙ sym (filter-flat (has_number 0) (λ r. committed logs (record_events k r)) p)
    ∙ ap (filter (has_number 0)) (sym (committed-records logs k p))

-- ---- transactions

version-same : (n c : ℕ) (o : Option ℕ) (v : Written) → o ≡ Some c → filter (has_number n) (version_at o n v) ≡ version_made c n v ∷ []
version-same n c o v e = ap (λ w. filter (has_number n) (version_at w n v)) e ∙ grind (arith, nat_tests)

holds-same : (logs : Logs) (n c sub time : ℕ) (vs : List Written) → commits_at logs n sub ≡ Some c
    → filter (has_number n) (committed logs (map (λ v. Hold n sub time v) vs)) ≡ map (λ v. version_made c n v) vs
holds-same logs n c sub time [] e = refl
holds-same logs n c sub time (v ∷ vs) e = let o = commits_at logs n sub in
    let rest = committed logs (map (λ v. Hold n sub time v) vs) in
    filter-append (has_number n) (version_at o n v) rest ∙ ap (λ w. w ++ filter (has_number n) rest) (version-same n c o v e)
    ∙ ap (λ w. version_made c n v ∷ w) (holds-same logs n c sub time vs e)

holds-none : (logs : Logs) (n sub time : ℕ) (vs : List Written) → commits_at logs n sub ≡ None
    → committed logs (map (λ v. Hold n sub time v) vs) ≡ []
holds-none logs n sub time [] e = refl
holds-none logs n sub time (v ∷ vs) e =
    ap (λ o. version_at o n v ++ committed logs (map (λ v. Hold n sub time v) vs)) e ∙ holds-none logs n sub time vs e

-- what was rolled back is left out on both sides
intent-holds : (logs : Logs) (k : List ℕ) (n c sub time : ℕ) (ops : List Op) → commit_of logs n ≡ Some c
    → map (λ v. version_made c n v) (puts k (cond (not (has sub (undone logs n))) ops [])) ≡ filter (has_number n)
    (committed logs (map (λ v. Hold n sub time v) (puts k ops)))
intent-holds logs k n c sub time ops h = at (has sub (undone logs n)) refl
  where
    at : (b : Bool) → has sub (undone logs n) ≡ b → map (λ v. version_made c n v) (puts k (cond (not b) ops [])) ≡ filter (has_number n)
        (committed logs (map (λ v. Hold n sub time v) (puts k ops)))
    at true e = sym (ap (filter (has_number n)) (holds-none logs n sub time (puts k ops) (ap (λ b. cond b None (commit_of logs n)) e)))
    at false e = sym (holds-same logs n c sub time (puts k ops) (ap (λ b. cond b None (commit_of logs n)) e ∙ h))

kind-holds : (logs : Logs) (k : List ℕ) (n c time : ℕ) (kind : Kind) → 0 < n → commit_of logs n ≡ Some c
    → map (λ v. version_made c n v) (kind_lefts k n (undone logs n) kind) ≡ filter (has_number n)
    (committed logs (kind_events k time kind))
kind-holds logs k n c time (log.Write ops) p h = sym (puts-other logs n time (puts k ops) p)
kind-holds logs k n c time (log.Intent sub m ops) p h = let left = puts k (cond (not (has sub (undone logs n))) ops []) in ⊎_elim
    (λ e. ap (λ b. map (λ v. version_made c n v) (cond b left [])) (eq-eqb m n (sym e)) ∙ intent-holds logs k n c sub time ops h
    ∙ ap (λ w. filter (has_number n) (committed logs (map (λ v. Hold w sub time v) (puts k ops)))) e)
    (λ e. ap (λ b. map (λ v. version_made c n v) (cond b left [])) (ne_eqb m n (λ q. e (sym q)))
    ∙ sym (holds-other logs n m sub time (puts k ops) e))
    (cases_eq n m)
kind-holds logs k n c time (log.Apply m d without) p h = refl
kind-holds logs k n c time _ p h = refl

abbrev commit_by : Option ℕ → ℕ → List Op → List Commit
commit_by o n ops = option_map_or (λ c. record { time = c; txn = n; tablet = 0; ops = ops } ∷ []) o []

txn-at : (logs : Logs) (k : List ℕ) (n c : ℕ) → is_valid logs ≡ true → commit_of logs n ≡ Some c
    → flat_map (versions_of k) (commit_by (commit_of logs n) n (txn_ops logs n)) ≡ filter (has_number n)
    (committed logs (events k (path_of (hash_of k) (accepted_tablets logs))))
txn-at logs k n c v e = let p = path_of (hash_of k) (accepted_tablets logs) in
    ap (λ o. flat_map (versions_of k) (commit_by o n (txn_ops logs n))) e
    ∙ append-nil (map (λ v. version_made c n v) (puts k (txn_ops logs n)))
    ∙ ap (map (λ v. version_made c n v)) (txn-lefts logs k n v)
    ∙ map-flat (λ v. version_made c n v) (λ r. kind_lefts k n (undone logs n) r.kind) p
    ∙ flat-all (λ r. map (λ v. version_made c n v) (kind_lefts k n (undone logs n) r.kind))
    (λ r. filter (has_number n) (committed logs (record_events k r)))
    (λ r. kind-holds logs k n c r.time r.kind (commit-number logs n c v e) e) p
    ∙ sym (filter-flat (has_number n) (λ r. committed logs (record_events k r)) p)
    ∙ ap (filter (has_number n)) (sym (committed-records logs k p))

-- ---- the transactions with an apply, each once

each-has : (P : ℕ → Type 0) (ns : List ℕ) → ((m : ℕ) → has m ns ≡ true → P m) → Each P ns
each-has P [] h = tt
each-has P (n ∷ ns) h = (h n (or_left (n == n) (has n ns) (eq-eqb n n refl)), each-has P ns (λ m e. h m (or_right (n == m) (has m ns) e)))

-- each has a commit
each-applied : (logs : Logs) → Each (λ n. (c : ℕ) × (commit_of logs n ≡ Some c)) (applied logs)
each-applied logs = each-has (λ n. (c : ℕ) × (commit_of logs n ≡ Some c)) (applied logs)
    (λ n e. some-of (commit_of logs n) (sym (applied-commits logs n) ∙ e))

-- the numbers of writes and of transactions rise
applied-rise : (logs : Logs) → is_valid logs ≡ true → Rising (0 ∷ applied logs)
unfolding applied
applied-rise logs v = (
  (λ n e. let c = some-of (commit_of logs n) (sym (applied-commits logs n) ∙ e) in commit-number logs n c.0 v c.1),
  distinct-rising (flat_map (λ (b : AcceptedTablet). filter_map (λ r. applied_txn r.kind) b.records) (accepted_tablets logs)),
)

version-in : (logs : Logs) (n sub : ℕ) (v : Written)
    → Each (λ x. has x.txn (0 ∷ applied logs) ≡ true) (version_at (commits_at logs n sub) n v)
version-in logs n sub v = go (has sub (undone logs n)) (commit_of logs n) refl
  where
    go : (b : Bool) (o : Option ℕ) → commit_of logs n ≡ o
        → Each (λ x. has x.txn (0 ∷ applied logs) ≡ true) (version_at (cond b None o) n v)
    go true o e = tt
    go false None e = tt
    go false (Some c) e = (or_right (0 == n) (has n (applied logs)) (commit-applied logs n c e), tt)

committed-in : (logs : Logs) (es : List Event) → Each (λ x. has x.txn (0 ∷ applied logs) ≡ true) (committed logs es)
committed-in logs [] = tt
committed-in logs (Put time v ∷ es) = (refl, committed-in logs es)
committed-in logs (Hold n sub time v ∷ es) =
    Each-append (λ x. has x.txn (0 ∷ applied logs) ≡ true) (version_at (commits_at logs n sub) n v)
    (committed logs es) (version-in logs n sub v) (committed-in logs es)
committed-in logs (_ ∷ es) = committed-in logs es

-- ---- commits by time and number alone

abbrev pair_cmp : ℕ × ℕ → ℕ × ℕ → Ordering
pair_cmp x y = ordering_then (nat_cmp x.0 y.0) (nat_cmp x.1 y.1)

abbrev commit_pair : Commit → Commit → Ordering
commit_pair x y = pair_cmp (x.time, x.txn) (y.time, y.txn)

pair-total : (x y : ℕ × ℕ) → is_gt (pair_cmp x y) ≡ true → is_gt (pair_cmp y x) ≡ false
pair-total x y h = grind (arith, nat_tests)

pair-trans : (x y z : ℕ × ℕ) → is_gt (pair_cmp x y) ≡ false → is_gt (pair_cmp y z) ≡ false → is_gt (pair_cmp x z) ≡ false
pair-trans x y z h k = grind (arith, nat_tests)

pair-orders : Orders pair_cmp
pair-orders = record { total = λ x y h. pair-total x y h; trans = λ x y z h k. pair-trans x y z h k }

pair-finer : (x y : Commit) → is_gt (commit_cmp x y) ≡ false → is_gt (commit_pair x y) ≡ false
pair-finer x y e = grind (arith, nat_tests)

tablet-agrees : (x y : Commit) → x.tablet ≤ y.tablet → Agreeing commit_cmp commit_pair x y
tablet-agrees x y h e = grind (arith, nat_tests)

write-first : (x y : Commit) → x.txn ≡ 0 → 0 < y.txn → Agreeing commit_cmp commit_pair x y
write-first x y a b e = grind (arith, nat_tests)

own-write : (s time : ℕ) (o : Option (List Op)) → Each (λ (x : Commit). (x.tablet ≡ s) × (x.txn ≡ 0))
    (option_map_or (λ ops. record { time = time; txn = 0; tablet = s; ops = ops } ∷ []) o [])
own-write s time None = tt
own-write s time (Some ops) = ((refl, refl), tt)

own-writes : (s : ℕ) (rs : List Record) → Each (λ (x : Commit). (x.tablet ≡ s) × (x.txn ≡ 0)) (writes_in s rs)
own-writes s [] = tt
own-writes s (r ∷ rs) = Each-append (λ (x : Commit). (x.tablet ≡ s) × (x.txn ≡ 0)) (write_of s r.time r.kind) (writes_in s rs)
    (own-write s r.time (write_ops r.kind)) (own-writes s rs)

commit-tablet : (o : Option ℕ) (n : ℕ) (ops : List Op) → Each (λ (x : Commit). x.tablet ≡ 0) (commit_by o n ops)
commit-tablet None n ops = tt
commit-tablet (Some c) n ops = (refl, tt)

commit-above : (o : Option ℕ) (n : ℕ) (ops : List Op) → 0 < n → Each (λ (x : Commit). 0 < x.txn) (commit_by o n ops)
commit-above None n ops h = tt
commit-above (Some c) n ops h = (h, tt)

all-tied : (logs : Logs) → is_valid logs ≡ true → Ties commit_cmp commit_pair (write_commits logs ++ txn_commits logs)
unfolding write_commits txn_commits
all-tied logs v = let bs = accepted_tablets logs in let f : ℕ → List Commit = λ n. commit_by (commit_of logs n) n (txn_ops logs n) in
    let g : AcceptedTablet → List Commit = λ b. writes_in b.header.id b.records in
    let zero : Each (λ (y : Commit). y.tablet ≡ 0) (flat_map f (applied logs)) =
    each-flat (λ (y : Commit). y.tablet ≡ 0) f (λ n. Unit {0}) (λ n _. commit-tablet (commit_of logs n) n (txn_ops logs n))
    (applied logs) (each-all (λ n. Unit {0}) (λ n. tt) (applied logs)) in
    let positive : Each (λ (y : Commit). 0 < y.txn) (flat_map f (applied logs)) =
    each-flat (λ (y : Commit). 0 < y.txn) f (λ n. (c : ℕ) × (commit_of logs n ≡ Some c))
    (λ n h. commit-above (commit_of logs n) n (txn_ops logs n) (commit-number logs n h.0 v h.1)) (applied logs) (each-applied logs) in
    let none : Each (λ (y : Commit). y.txn ≡ 0) (flat_map g bs) =
    each-flat (λ (y : Commit). y.txn ≡ 0) g (λ b. Unit {0})
    (λ b _. Each-weaker (λ (y : Commit). (y.tablet ≡ b.header.id) × (y.txn ≡ 0)) (λ (y : Commit). y.txn ≡ 0) (λ y h. h.1)
    (writes_in b.header.id b.records) (own-writes b.header.id b.records)) bs (each-all (λ b. Unit {0}) (λ b. tt) bs) in
    ties-append commit_cmp commit_pair (flat_map g bs) (flat_map f (applied logs))
    (ties-rising commit_cmp commit_pair (λ (y : Commit). y.tablet) tablet-agrees g
    (λ b. Each-weaker (λ (y : Commit). (y.tablet ≡ b.header.id) × (y.txn ≡ 0)) (λ (y : Commit). y.tablet ≡ b.header.id) (λ y h. h.0)
    (writes_in b.header.id b.records) (own-writes b.header.id b.records)) 0 bs (each-numbered logs v))
    (ties-same commit_cmp commit_pair (λ (y : Commit). y.tablet) tablet-agrees 0 (flat_map f (applied logs)) zero)
    (Each-weaker (λ (y : Commit). y.txn ≡ 0) (λ y. Each (Agreeing commit_cmp commit_pair y) (flat_map f (applied logs)))
    (λ y h. Each-weaker (λ (z : Commit). 0 < z.txn) (Agreeing commit_cmp commit_pair y) (λ z k. write-first y z h k)
    (flat_map f (applied logs)) positive) (flat_map g bs) none)

-- ---- the versions of all commits

apart : (x y : Version) → x.txn ≢ y.txn → is_gt (version_cmp x y) ≡ false → is_gt (version_cmp y x) ≡ true
apart x y h k = grind (arith, nat_tests)

made-keys : (c n : ℕ) (vs : List Written)
    → Each (λ (x : Version). ◌≡◌ {A = ℕ × ℕ} (x.commit, x.txn) (c, n)) (map (λ v. version_made c n v) vs)
made-keys c n vs =
    each-map (λ (x : Version). ◌≡◌ {A = ℕ × ℕ} (x.commit, x.txn) (c, n)) (λ v. version_made c n v) vs (λ v. refl)

txns-at : (logs : Logs) (k : List ℕ) → is_valid logs ≡ true
    → flat_map (versions_of k) (txn_commits logs) ≡ flat_map
    (λ n. filter (has_number n) (committed logs (events k (path_of (hash_of k) (accepted_tablets logs))))) (applied logs)
unfolding txn_commits
txns-at logs k v = flat-flat (λ n. commit_by (commit_of logs n) n (txn_ops logs n)) (versions_of k) (applied logs)
    ∙ flat-same (λ n. flat_map (versions_of k) (commit_by (commit_of logs n) n (txn_ops logs n)))
    (λ n. filter (has_number n) (committed logs (events k (path_of (hash_of k) (accepted_tablets logs)))))
    (λ n. (c : ℕ) × (commit_of logs n ≡ Some c)) (λ n h. txn-at logs k n h.0 v h.1) (applied logs) (each-applied logs)

-- the operations on a key in the list of commits are its path's committed operations, in order
pub commits-at : (logs : Logs) (k : List ℕ) → is_valid logs ≡ true
    → flat_map (versions_of k) (commits logs) ≡ sort_by version_cmp
    (committed logs (events k (path_of (hash_of k) (accepted_tablets logs))))
unfolding commits
commits-at logs k v = let evs = events k (path_of (hash_of k) (accepted_tablets logs)) in let x = committed logs evs in
    let all = write_commits logs ++ txn_commits logs in
    ap (flat_map (versions_of k)) (sort-finer commit_cmp commit_pair pair-finer all (all-tied logs v))
    ∙ flat-sort pair_cmp pair-orders (λ (c : Commit). (c.time, c.txn)) (λ (v : Version). (v.commit, v.txn)) (versions_of k)
    (λ c. made-keys c.time c.txn (puts k c.ops))
    (record {
      total = λ a b h. pair-total (a.time, a.txn) (b.time, b.txn) h;
      trans = λ a b c h q. pair-trans (a.time, a.txn) (b.time, b.txn)
          (c.time, c.txn) h q;
    }) all
    ∙ ap (sort_by version_cmp)
    (flat_map-append (versions_of k) (write_commits logs) (txn_commits logs)
    ∙ ap (λ w. w ++ flat_map (versions_of k) (txn_commits logs)) (writes-at logs k v)
    ∙ ap (λ w. filter (has_number 0) x ++ w) (txns-at logs k v))
    ∙ sort-grouped version_cmp version-orders (λ (v : Version). v.txn) apart (0 ∷ applied logs) x (applied-rise logs v)
    (committed-in logs evs)

-- ---- the row

made-upto : (t c n : ℕ) (vs : List Written)
    → filter (upto t) (map (λ v. version_made c n v) vs) ≡ cond (nat_le c t) (map (λ v. version_made c n v) vs) []
made-upto t c n [] = elim (nat_le c t) as (λ b. ◌≡◌ {A = List Version} [] (cond b [] [])) [ true ↦ refl | false ↦ refl ]
made-upto t c n (v ∷ vs) = grind (arith, made-upto t c n vs)

commits-upto : (t : ℕ) (k : List ℕ) (cs : List Commit)
    → filter (upto t) (flat_map (versions_of k) cs) ≡ flat_map (versions_of k) (filter (λ c. nat_le c.time t) cs)
commits-upto t k [] = refl
commits-upto t k (c ∷ cs) = let early = filter (λ (c : Commit). nat_le c.time t) cs in
    filter-append (upto t) (versions_of k c) (flat_map (versions_of k) cs)
    ∙ ap (λ w. w ++ filter (upto t) (flat_map (versions_of k) cs)) (made-upto t c.time c.txn (puts k c.ops))
    ∙ ap (λ w. cond (nat_le c.time t) (versions_of k c) [] ++ w) (commits-upto t k cs)
    ∙ elim (nat_le c.time t) as
    (λ b. cond b (versions_of k c) [] ++ flat_map (versions_of k) early ≡ flat_map (versions_of k) (cond b (c ∷ early) early))
    [ true ↦ refl | false ↦ refl ]

made-values : (c n : ℕ) (vs : List Written) → map (λ (x : Version). x.value) (map (λ v. version_made c n v) vs) ≡ vs
made-values c n [] = refl
made-values c n (v ∷ vs) = ap (λ w. v ∷ w) (made-values c n vs)

-- what versions put at a key one after another is the value of the last
pub after-last : (vs : List Version) → after_puts None (map (λ v. v.value) vs) ≡ value_of (last_of vs)
after-last [] = refl
after-last (v ∷ []) = refl
after-last (v ∷ (w ∷ vs)) = after-last (w ∷ vs)

pub row-newest : (logs : Logs) (t : ℕ) (k : List ℕ) → is_valid logs ≡ true
    → row logs t k ≡ value_of
    (newest t (sort_by version_cmp (committed logs (events k (path_of (hash_of k) (accepted_tablets logs))))))
unfolding ops_to
row-newest logs t k v = let cs = filter (λ (c : Commit). nat_le c.time t) (commits logs) in row-puts logs t k ∙ ap (after_puts None)
    (puts-flat k (λ (c : Commit). c.ops) cs
    ∙ flat-all (λ (c : Commit). puts k c.ops) (λ c. map (λ v. v.value) (versions_of k c))
    (λ c. sym (made-values c.time c.txn (puts k c.ops))) cs
    ∙ sym (map-flat (λ (v : Version). v.value) (versions_of k) cs))
    ∙ after-last (flat_map (versions_of k) cs)
    ∙ ap (λ vs. value_of (last_of vs)) (sym (commits-upto t k (commits logs)) ∙ ap (filter (upto t)) (commits-at logs k v))
