-- What a tablet shows of a key from its cutoff to the safe time of its places: the committed operations up to each time.
use Rattle.xc_model.proofs.Common.{◌≡◌, ℕ, ◌≤◌, true, not, List, inl, inr, ◌⊎◌, ⊎_elim, filter, cases_Bool, refl, ap, ◌∙◌, Logs}
use Rattle.xc_model.proofs.Common.{AcceptedTablet, accepted_tablets, hash_of, newest, kept_from, sort_by, path_to, events, versions}
use Rattle.xc_model.proofs.Common.{version_cmp, last_safe_in, is_closed_in, safe_time, IsPlaces, is_valid, Each-filter, Each-weaker, []}
use Rattle.xc_model.proofs.Common.{◌∷◌, ◌++◌, Option, Some, None, arith, slice_get, option_map_or, Tablet, root_start, child_start}
use Rattle.xc_model.proofs.Common.{start_after, accepted_tablet_after, accepted_tablets_after, accepted_tablet_after-grown, Each-append}
use Rattle.xc_model.proofs.Common.{◌<◌, Bool, false, cond, sym, subst, ◌==◌, filter-append, nat_tests, eqb-true, has, Event, Put, Hold}
use Rattle.xc_model.proofs.Common.{Apply, Abort, Written, Waiting, Fate, Waits, Taken, RolledBack, Dropped, fate, fate_at, version_by}
use Rattle.xc_model.proofs.Common.{waiting_by, versions_along, waiting, upto, append_assoc, flat_map-append, record_events, last_of, Record}
use Rattle.xc_model.proofs.Common.{commit_of, undone, Agrees}
use Rattle.xc_record.specs.Path.{holders}
use Rattle.xc_model.{proofs.StableSort.Each, proofs.Parents.each-get, proofs.FloorLaw.least-low, proofs.Sorts.filter-sort}
use Rattle.xc_model.{proofs.Sorts.in_order-sort, proofs.Elements.each-front, proofs.Elements.each-back}
use Rattle.xc_model.proofs.ApplyPath.{newest-kept_from, version-orders}
use Rattle.xc_model.proofs.Tree.{chained, stops, legal-own}
use Rattle.xc_model.proofs.FromCases.{path-free, path-agrees}
use Rattle.xc_model.proofs.Along.{committed, own, path_of, applied_along, commits_at, version_at, AgreesAt, IsAfter, ComesAfter, origin}
use Rattle.xc_model.proofs.Along.{floor_by, records_along, Threads, LegalChain, Stops, NoStragglers}
use Rattle.xc_model.proofs.Chain.{floor_after, last_after, grown-goes, grown-end, Goes, path-goes, floor-time, path-front, covered, Cut}
use Rattle.xc_model.proofs.Chain.{cut-from, record-late, stragglers-parts}

-- Where an operation's fate is decided, so is its commit: that of its transaction where it is taken, and none where it is rolled back or
-- dropped.
abbrev pub Decides : Option ℕ → Fate → Type 0
Decides o Waits = Unit {0}
Decides o (Taken c) = o ≡ Some c
Decides o _ = o ≡ None

applied-decides : (logs : Logs) (n sub c : ℕ) (without : List ℕ) → commit_of logs n ≡ Some c → undone logs n ≡ without
    → Decides (commits_at logs n sub) (fate_at sub c without)
applied-decides logs n sub c without e f = subst (λ w. Decides (commits_at logs n sub) (fate_at sub c w)) f
    (elim (has sub (undone logs n)) as (λ b. Decides (cond b None (commit_of logs n)) (cond b RolledBack (Taken c)))
    [ true ↦ refl | false ↦ e ])

aborted-decides : (b : Bool) (o : Option ℕ) → o ≡ None → cond b None o ≡ None
aborted-decides true o e = refl
aborted-decides false o e = e

decides-by : (o : Option ℕ) (b : Bool) (f g : Fate) → (b ≡ true → Decides o f) → Decides o g → Decides o (cond b f g)
decides-by o true f g h k = h refl
decides-by o false f g h k = k

pub fate-decides : (logs : Logs) (n sub : ℕ) (es : List Event) → Each (AgreesAt logs) es
    → Decides (commits_at logs n sub) (fate n sub es)
fate-decides logs n sub [] a = tt
fate-decides logs n sub (Apply m c without ∷ es) a =
    decides-by _ (m == n) (fate_at sub c without) (fate n sub es) (λ e. let same : m ≡ n = eqb-true m n e in
    applied-decides logs n sub c without (subst (λ w. commit_of logs w ≡ Some c) same a.0.0)
    (subst (λ w. undone logs w ≡ without) same a.0.1)) (fate-decides logs n sub es a.1)
fate-decides logs n sub (Abort m ∷ es) a =
    decides-by _ (m == n) Dropped (fate n sub es) (λ e. aborted-decides (has sub (undone logs n)) (commit_of logs n)
    (subst (λ w. commit_of logs w ≡ None) (eqb-true m n e) a.0)) (fate-decides logs n sub es a.1)
fate-decides logs n sub (_ ∷ es) a = fate-decides logs n sub es a.1

-- what waits through more events waited before them
pub waits-front : (n sub : ℕ) (es fs : List Event) → fate n sub (es ++ fs) ≡ Waits → fate n sub es ≡ Waits
waits-front n sub [] fs e = refl
waits-front n sub (Apply m d without ∷ es) fs e = grind (arith, nat_tests, waits-front n sub es fs)
waits-front n sub (Abort m ∷ es) fs e = grind (arith, nat_tests, waits-front n sub es fs)
waits-front n sub (_ ∷ es) fs e = waits-front n sub es fs e

-- what commits after t is left out
pub late-version : (t : ℕ) (o : Option ℕ) (n : ℕ) (v : Written) → IsAfter t o → filter (upto t) (version_at o n v) ≡ []
late-version t None n v h = refl
late-version t (Some c) n v h = grind (arith, nat_tests)

-- an operation commits after t where its transaction does
pub late-commit : (logs : Logs) (t n sub : ℕ) → IsAfter t (commit_of logs n) → IsAfter t (commits_at logs n sub)
late-commit logs t n sub h =
    elim (has sub (undone logs n)) as (λ b. IsAfter t (cond b None (commit_of logs n))) [ true ↦ tt | false ↦ h ]

-- after the last safe record nothing commits up to t
pub none-committed : (logs : Logs) (t : ℕ) (es : List Event) → Each (ComesAfter logs t) es
    → filter (upto t) (committed logs es) ≡ []
none-committed logs t [] h = refl
none-committed logs t (Put time v ∷ es) h = grind (arith, nat_tests, none-committed logs t es h.1)
none-committed logs t (Hold n sub time v ∷ es) h =
    filter-append (upto t) (version_at (commits_at logs n sub) n v) (committed logs es)
    ∙ ap (λ w. w ++ filter (upto t) (committed logs es))
    (late-version t (commits_at logs n sub) n v (late-commit logs t n sub h.0)) ∙ none-committed logs t es h.1
none-committed logs t (_ ∷ es) h = none-committed logs t es h.1

-- an operation that commits after t is not taken up to t
pub late-taken : (t n : ℕ) (v : Written) (o : Option ℕ) (f : Fate) → Decides o f → IsAfter t o → filter (upto t) (version_by f n v) ≡ []
late-taken t n v o (Taken c) d h = let after : t < c = subst (IsAfter t) d h in grind (arith, nat_tests)
late-taken t n v o _ d h = refl

pub none-taken : (logs : Logs) (t : ℕ) (es : List Event) → Each (AgreesAt logs) es → Each (ComesAfter logs t) es
    → filter (upto t) (versions_along es) ≡ []
none-taken logs t [] a h = refl
none-taken logs t (Put time v ∷ es) a h = grind (arith, nat_tests, none-taken logs t es a.1 h.1)
none-taken logs t (Hold n sub time v ∷ es) a h = filter-append (upto t) (version_by (fate n sub es) n v) (versions_along es)
    ∙ ap (λ w. w ++ filter (upto t) (versions_along es))
    (late-taken t n v (commits_at logs n sub) (fate n sub es) (fate-decides logs n sub es a.1) (late-commit logs t n sub h.0))
    ∙ none-taken logs t es a.1 h.1
none-taken logs t (_ ∷ es) a h = none-taken logs t es a.1 h.1

-- an operation before the last safe record: it was taken at its commit, it has none, or it commits after t
pub one-read : (t n : ℕ) (v : Written) (o : Option ℕ) (f : Fate) → Decides o f → (f ≡ Waits → IsAfter t o)
    → filter (upto t) (version_by f n v) ≡ filter (upto t) (version_at o n v)
one-read t n v o Waits d w = sym (late-version t o n v (w refl))
one-read t n v o _ d w = ap (λ o. filter (upto t) (version_at o n v)) (sym d)

-- what waits in the front is after t, as no straggler stands at the safe record
pub first-waits : (logs : Logs) (t n sub : ℕ) (v : Written) (f : Fate) (rest : List Waiting)
    → Each (λ w. IsAfter t (commit_of logs w.txn)) (waiting_by f n sub v ++ rest)
    → (f ≡ Waits → IsAfter t (commit_of logs n)) × Each (λ w. IsAfter t (commit_of logs w.txn)) rest
first-waits logs t n sub v Waits rest h = ((λ _. h.0), h.1)
first-waits logs t n sub v _ rest h = ((λ e. grind arith), h)

-- Up to t, the versions of a path up to a place are the committed operations of the whole path:
-- a ends before the last safe record of value at least t, b is the rest up to the place, later is what comes after.
pub read-path : (logs : Logs) (t : ℕ) (a b later : List Event) → Each (AgreesAt logs) (a ++ b) → Each (ComesAfter logs t) b
    → Each (ComesAfter logs t) (b ++ later) → Each (λ w. IsAfter t (commit_of logs w.txn)) (waiting a)
    → filter (upto t) (versions_along (a ++ b)) ≡ filter (upto t) (committed logs (a ++ (b ++ later)))
read-path logs t [] b later g h k w = none-taken logs t b g h ∙ sym (none-committed logs t (b ++ later) k)
read-path logs t (Put time v ∷ a) b later g h k w =
    ap (λ r. cond (upto t (record { commit = time; txn = 0; value = v })) (record { commit = time; txn = 0; value = v } ∷ r) r)
    (read-path logs t a b later g.1 h k w)
read-path logs t (Hold n sub time v ∷ a) b later g h k w = let split = first-waits logs t n sub v (fate n sub a) (waiting a) w in
    let o = commits_at logs n sub in
    filter-append (upto t) (version_by (fate n sub (a ++ b)) n v) (versions_along (a ++ b))
    ∙ ap (λ r. r ++ filter (upto t) (versions_along (a ++ b)))
    (one-read t n v o (fate n sub (a ++ b)) (fate-decides logs n sub (a ++ b) g.1)
    (λ e. late-commit logs t n sub (split.0 (waits-front n sub a b e))))
    ∙ ap (λ r. filter (upto t) (version_at o n v) ++ r) (read-path logs t a b later g.1 h k split.1)
    ∙ sym (filter-append (upto t) (version_at o n v) (committed logs (a ++ (b ++ later))))
read-path logs t (_ ∷ a) b later g h k w = read-path logs t a b later g.1 h k w

-- ---- up to the safe time, the versions of a key at legal places are the committed operations of its whole path

pub goes-front : (f l : ℕ) (xs ys : List Record) → Goes f l (xs ++ ys) → Goes f l xs
goes-front f l [] ys g = tt
goes-front f l (x ∷ xs) ys g = (g.0, g.1, goes-front (floor_by f x.kind) x.time xs ys g.2)

pub goes-back : (f l : ℕ) (xs ys : List Record) → Goes f l (xs ++ ys) → Goes (floor_after f xs) (last_after l xs) ys
goes-back f l [] ys g = g
goes-back f l (x ∷ xs) ys g = goes-back (floor_by f x.kind) x.time xs ys g.2

pub floor-le-last : (f l : ℕ) (xs : List Record) → f ≤ l → Goes f l xs → floor_after f xs ≤ last_after l xs
floor-le-last f l [] h g = h
floor-le-last f l (x ∷ xs) h g = floor-le-last (floor_by f x.kind) x.time xs (floor-time f l x.time x.kind h g.0 g.1) g.2

pub later-late : (logs : Logs) (t : ℕ) (k : List ℕ) (f l : ℕ) (xs : List Record) → t ≤ l → Goes f l xs
    → Each (AgreesAt logs) (events k xs) → Each (ComesAfter logs t) (events k xs)
later-late logs t k f l [] h g a = tt
later-late logs t k f l (x ∷ xs) h g a = let first : t < x.time = let p = g.0 in omega arith in
    Each-append (ComesAfter logs t) (record_events k x) (events k xs)
    (record-late logs t k x.time x.kind first (each-front (AgreesAt logs) (record_events k x) (events k xs) a))
    (later-late logs t k (floor_by f x.kind) x.time xs (omega arith) g.2
    (each-back (AgreesAt logs) (record_events k x) (events k xs) a))

by-cut : (logs : Logs) (k : List ℕ) (t : ℕ) (up later : List Record) → Cut logs t k up → Each (AgreesAt logs) (events k up)
    → Each (ComesAfter logs t) (events k later)
    → filter (upto t) (versions_along (events k up)) ≡ filter (upto t) (committed logs (events k (up ++ later)))
by-cut logs k t up later cut agree after = let rest = events k later in
    ap (λ w. filter (upto t) (versions_along w)) cut.is
    ∙ read-path logs t cut.before cut.rest rest (subst (Each (AgreesAt logs)) cut.is agree) cut.late
    (Each-append (ComesAfter logs t) cut.rest rest cut.late after) cut.free
    ∙ ap (λ w. filter (upto t) (committed logs w)) (sym (append_assoc cut.before cut.rest rest) ∙ ap (λ w. w ++ rest) (sym cut.is)
    ∙ sym (flat_map-append (record_events k) up later))

pub key-versions : (logs : Logs) (k : List ℕ) (t : ℕ) (ps : List ℕ) (xs : List AcceptedTablet) → Threads origin xs
    → Stops origin xs → LegalChain ps xs → NoStragglers logs k [] (records_along xs) → Each (AgreesAt logs) (events k (records_along xs))
    → Each (λ b. (is_closed_in ps b ≡ true) ⊎ (t ≤ last_safe_in ps b)) xs
    → filter (upto t) (versions_along (events k (applied_along ps xs))) ≡ filter (upto t) (committed logs (events k (records_along xs)))
key-versions logs k t ps xs h e l s a c = let up = applied_along ps xs in let front = path-front ps xs l in let later = front.0 in
    let goes : Goes 0 0 (up ++ later) = subst (Goes 0 0) front.1 (path-goes origin xs h) in
    let free : NoStragglers logs k [] (up ++ later) = subst (NoStragglers logs k []) front.1 s in
    let agree : Each (AgreesAt logs) (events k up ++ events k later) =
    subst (Each (AgreesAt logs)) (ap (events k) front.1 ∙ flat_map-append (record_events k) up later) a in
    let agree-up = each-front (AgreesAt logs) (events k up) (events k later) agree in
    let goes-up : Goes 0 0 up = goes-front 0 0 up later goes in
    let within : t ≤ last_after 0 up =
    let f : floor_after 0 up ≤ last_after 0 up = floor-le-last 0 0 up (omega arith) goes-up in
    let bound : t ≤ floor_after 0 up = covered t ps origin xs refl h e l c in omega arith in
    by-cut logs k t up later
    (cut-from logs t k 0 0 [] up (omega arith) goes-up (stragglers-parts logs k [] up later free).0 agree-up
    (λ _. record { before = []; rest = []; is = refl; late = tt; free = tt }) (covered t ps origin xs refl h e l c)) agree-up
    (later-late logs t k (floor_after 0 up) (last_after 0 up) later within (goes-back 0 0 up later goes)
    (each-back (AgreesAt logs) (events k up) (events k later) agree))
    ∙ ap (λ rs. filter (upto t) (committed logs (events k rs))) (sym front.1)

-- and so is what a tablet with a cutoff shows
pub key-read : (logs : Logs) (k : List ℕ) (u t : ℕ) (ps : List ℕ) (xs : List AcceptedTablet) → Threads origin xs → Stops origin xs
    → LegalChain ps xs → NoStragglers logs k [] (records_along xs) → Each (AgreesAt logs) (events k (records_along xs))
    → Each (λ b. (is_closed_in ps b ≡ true) ⊎ (t ≤ last_safe_in ps b)) xs → u ≤ t
    → newest t (kept_from u (versions (events k (applied_along ps xs)))) ≡ newest t
    (sort_by version_cmp (committed logs (events k (records_along xs))))
key-read logs k u t ps xs h e l s a c b = let vs = versions_along (events k (applied_along ps xs)) in
    newest-kept_from u t (sort_by version_cmp vs) b (in_order-sort version_cmp version-orders vs)
    ∙ ap (λ w. last_of w) (filter-sort version_cmp version-orders (upto t) vs
    ∙ ap (sort_by version_cmp) (key-versions logs k t ps xs h e l s a c)
    ∙ sym (filter-sort version_cmp version-orders (upto t) (committed logs (events k (records_along xs)))))

-- ---- where a tablet begins and ends, the floor is at most the time of the last record

pub record IsLow (b : AcceptedTablet) : Type 0 where
  pub start : b.start.floor ≤ b.start.last
  pub end : b.end.floor ≤ b.end.last

start-low : (before : List AcceptedTablet) (q : Option ℕ) → Each IsLow before → (start_after before q).floor ≤ (start_after before q).last
start-low before None h = omega arith
start-low before (Some p) h = go (slice_get before p) refl
  where
    go : (o : Option AcceptedTablet) → slice_get before p ≡ o
        → (option_map_or child_start o root_start).floor ≤ (option_map_or child_start o root_start).last
    go None e = omega arith
    go (Some d) e = (each-get IsLow before p d h e).end

one-low : (before : List AcceptedTablet) (t : Tablet) → Each IsLow before → IsLow (accepted_tablet_after before t)
one-low before t h = let b = accepted_tablet_after before t in let g = accepted_tablet_after-grown before t in
    let s : b.start.floor ≤ b.start.last = start-low before t.header.parent h in
    let f : b.end.floor ≡ floor_after b.start.floor b.records = (grown-end b g).0 in
    let l : b.end.last ≡ last_after b.start.last b.records = (grown-end b g).1 in
    let k : floor_after b.start.floor b.records ≤ last_after b.start.last b.records =
    floor-le-last b.start.floor b.start.last b.records s (grown-goes b g) in
    record { start = s; end = omega arith }

lows-from : (before : List AcceptedTablet) (ts : List Tablet) → Each IsLow before → Each IsLow (accepted_tablets_after before ts)
lows-from before [] h = h
lows-from before (t ∷ ts) h = lows-from (before ++ accepted_tablet_after before t ∷ []) ts
    (Each-append IsLow before (accepted_tablet_after before t ∷ []) h (one-low before t h, tt))

pub each-low : (logs : Logs) → Each IsLow (accepted_tablets logs)
unfolding accepted_tablets
each-low logs = lows-from [] logs.tablets tt

-- ---- a tablet shows what the newest committed operations leave at each time from its cutoff to the safe time of its places

-- a bound on the least of the last safe values
pub under-safe : (logs : Logs) (ps : List ℕ) (t : ℕ) → t ≤ safe_time logs ps
    → Each (λ b. (is_closed_in ps b ≡ true) ⊎ (t ≤ last_safe_in ps b)) (accepted_tablets logs)
unfolding safe_time
under-safe logs ps t h =
    Each-weaker (λ b. not (is_closed_in ps b) ≡ true → t ≤ last_safe_in ps b) (λ b. (is_closed_in ps b ≡ true) ⊎ (t ≤ last_safe_in ps b))
    (λ b f. ⊎_elim (λ c. inl c) (λ o. inr (f (ap not o))) (cases_Bool (is_closed_in ps b)))
    (accepted_tablets logs) (least-low (last_safe_in ps) (λ b. not (is_closed_in ps b)) (accepted_tablets logs) t h)

-- the path up to the places, as the proofs go along it
pub along-path : (logs : Logs) (ps k : List ℕ) → path_to logs ps k ≡ applied_along ps (filter (own (hash_of k)) (accepted_tablets logs))
unfolding path_to holders
along-path logs ps k = refl

pub reads-rows : (logs : Logs) (ps k : List ℕ) (u t : ℕ) → is_valid logs ≡ true → Agrees logs → IsPlaces logs ps → u ≤ t
    → t ≤ safe_time logs ps → newest t (kept_from u (versions (events k (path_to logs ps k)))) ≡ newest t
    (sort_by version_cmp (committed logs (events k (path_of (hash_of k) (accepted_tablets logs)))))
reads-rows logs ps k u t valid a l b c = let bs = accepted_tablets logs in let h = hash_of k in let xs = filter (own h) bs in
    let bound = Each-filter (λ b. (is_closed_in ps b ≡ true) ⊎ (t ≤ last_safe_in ps b)) (own h) bs (under-safe logs ps t c) in
    ap (λ rs. newest t (kept_from u (versions (events k rs)))) (along-path logs ps k)
    ∙ key-read logs k u t ps xs (chained logs h valid).threads (stops logs k valid) (legal-own logs ps h valid l)
    (path-free logs k valid a) (path-agrees logs k a) bound b
