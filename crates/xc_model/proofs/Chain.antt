-- Along the tablets that own a key, one after another.
use Rattle.xc_model.proofs.Common.{◌≡◌, ◌==◌, ℕ, ◌<◌, ◌≤◌, true, List, [], ◌∷◌, ◌++◌, take, drop, length, Option, Some, None, refl, ap, sym}
use Rattle.xc_model.proofs.Common.{◌∙◌, arith, subst, append_assoc, append-nil, ◌⊎◌, ⊎_elim, and_parts, eqb-true, true≢false, take_all}
use Rattle.xc_model.proofs.Common.{take-append-drop, flat_map-append, Event, Put, Hold, Safe, waiting, events, record_events, kind_events}
use Rattle.xc_model.proofs.Common.{puts, Kind, Record, Progress, place, last_safe_in, is_closed_in, AcceptedTablet, Each-append}
use Rattle.xc_model.proofs.Common.{Each-weaker, Bool, false, cond, nat_tests, break_of, violations, first_violated, after, accepted_from}
use Rattle.xc_model.proofs.Common.{fold, is_none, IsGrown, Logs, commit_of, straggles_at, straggles-append, Waiting, map, if◌then◌else◌}
use Rattle.xc_model.proofs.Common.{list_any, nat_le, ◌&&◌, ◌||◌, Written}
use Rattle.std.proofs.lemmas.Bool.{or_parts}
use Rattle.xc_record.specs.declared.record.Kind.TheVariants as log
use Rattle.xc_model.{proofs.StableSort.Each, proofs.Elements.each-map, proofs.Elements.each-front, proofs.Elements.each-back}
use Rattle.xc_model.proofs.Along.{IsAfter, ComesAfter, floor_by, records_along, applied_in, applied_along, Threads, LegalChain, Stops}
use Rattle.xc_model.proofs.Along.{AgreesAt, NoStragglers}

-- What is left of the order rules along a path, where a split stands between a tablet and its child: times rise, and floors with them.
abbrev pub KindGoes : ℕ → ℕ → Kind → Type 0
KindGoes f time (log.Apply n c without) = (f < c) × (c ≤ time)
KindGoes f time (log.Safe v) = (f ≤ v) × (v ≤ time)
KindGoes f time _ = Unit {0}

abbrev pub Goes : ℕ → ℕ → List Record → Type 0
Goes f last [] = Unit {0}
Goes f last (r ∷ rs) = (last < r.time) × KindGoes f r.time r.kind × Goes (floor_by f r.kind) r.time rs

-- the floor and the last log time after the records
abbrev pub floor_after : ℕ → List Record → ℕ
floor_after f [] = f
floor_after f (r ∷ rs) = floor_after (floor_by f r.kind) rs

abbrev pub last_after : ℕ → List Record → ℕ
last_after l [] = l
last_after l (r ∷ rs) = last_after r.time rs

goes-by : (o : Progress) (time : ℕ) (kind : Kind) → is_none (first_violated (violations o time kind)) ≡ true
    → (o.last < time) × KindGoes o.floor time kind
goes-by o time (log.Apply n c without) h = (grind (arith, nat_tests), (grind (arith, nat_tests), grind (arith, nat_tests)))
goes-by o time (log.Safe v) h = (grind (arith, nat_tests), (grind (arith, nat_tests), grind (arith, nat_tests)))
goes-by o time _ h = (grind (arith, nat_tests), tt)

pub fits-goes : (o : Progress) (r : Record) → is_none (break_of o r) ≡ true → (o.last < r.time) × KindGoes o.floor r.time r.kind
unfolding break_of
fits-goes o r h = goes-by o r.time r.kind h

pub accept-goes : (o : Progress) (rs : List Record) → Goes o.floor o.last (accepted_from o rs)
accept-goes o [] = tt
accept-goes o (r ∷ rs) =
    let at : (b : Bool) → is_none (break_of o r) ≡ b → Goes o.floor o.last (cond b (r ∷ accepted_from (after o r) rs) []) =
    λ b. elim b as (λ b. is_none (break_of o r) ≡ b → Goes o.floor o.last (cond b (r ∷ accepted_from (after o r) rs) [])) [
      | true ↦ λ e. ((fits-goes o r e).0, (fits-goes o r e).1, accept-goes (after o r) rs)
      | false ↦ λ e. tt
    ]
    in at (is_none (break_of o r)) refl

pub goes-append : (f l : ℕ) (xs ys : List Record) → Goes f l xs → Goes (floor_after f xs) (last_after l xs) ys → Goes f l (xs ++ ys)
goes-append f l [] ys h g = g
goes-append f l (x ∷ xs) ys h g = (h.0, h.1, goes-append (floor_by f x.kind) x.time xs ys h.2 g)

pub after-parts : (o : Progress) (rs : List Record)
    → ((fold after o rs).floor ≡ floor_after o.floor rs) × ((fold after o rs).last ≡ last_after o.last rs)
after-parts o [] = (refl, refl)
after-parts o (r ∷ rs) = after-parts (after o r) rs

pub grown-goes : (b : AcceptedTablet) → IsGrown b → Goes b.start.floor b.start.last b.records
grown-goes b g = subst (Goes b.start.floor b.start.last) g.in_order (accept-goes b.start b.records)

-- where a tablet ends
pub grown-end : (b : AcceptedTablet) → IsGrown b
    → (b.end.floor ≡ floor_after b.start.floor b.records) × (b.end.last ≡ last_after b.start.last b.records)
grown-end b g = let parts = after-parts b.start b.records in (
  ap (λ (p : Progress). p.floor) g.end ∙ parts.0,
  ap (λ (p : Progress). p.last) g.end ∙ parts.1,
)

-- a path keeps the order rules
pub path-goes : (o : Progress) (xs : List AcceptedTablet) → Threads o xs → Goes o.floor o.last (records_along xs)
path-goes o [] h = tt
path-goes o (b ∷ xs) h = let parts = grown-end b h.0.grown in
    let rest : Goes b.end.floor b.end.last (records_along xs) = path-goes b.end xs h.1 in
    let deep : Goes (floor_after b.start.floor b.records) (last_after b.start.last b.records) (records_along xs) =
    subst (λ (w : ℕ). Goes (floor_after b.start.floor b.records) w (records_along xs)) parts.1
    (subst (λ (w : ℕ). Goes w b.end.last (records_along xs)) parts.0 rest) in
    subst (λ (p : Progress). Goes p.floor p.last (b.records ++ records_along xs)) h.0.start
    (goes-append b.start.floor b.start.last b.records (records_along xs) (grown-goes b h.0.grown) deep)

-- ---- what the safe time says of the path of a key

pub nothing-applied : (ps : List ℕ) (xs : List AcceptedTablet) → Each (λ d. place ps d ≡ 0) xs → applied_along ps xs ≡ []
nothing-applied ps [] h = refl
nothing-applied ps (b ∷ xs) h = ap (λ n. take n b.records ++ applied_along ps xs) h.0 ∙ nothing-applied ps xs h.1

pub closed-all : (ps : List ℕ) (b : AcceptedTablet) → is_closed_in ps b ≡ true → applied_in ps b ≡ b.records
closed-all ps b h = let n : place ps b ≡ length b.records =
    eqb-true (place ps b) (length b.records) (and_parts (place ps b == length b.records) b.end.split h).0 in
    take_all (place ps b) b.records (omega arith)

-- the path up to the places is a front of the path
pub path-front : (ps : List ℕ) (xs : List AcceptedTablet) → LegalChain ps xs
    → (later : List Record) × (records_along xs ≡ applied_along ps xs ++ later)
path-front ps [] h = ([], refl)
path-front ps (b ∷ xs) h = ⊎_elim (λ c. let rest = path-front ps xs h.2 in (
  rest.0,
  ap (λ w. b.records ++ w) rest.1 ∙ ap (λ w. w ++ (applied_along ps xs ++ rest.0)) (sym (closed-all ps b c))
      ∙ sym (append_assoc (applied_in ps b) (applied_along ps xs) rest.0),
)) (λ z. (
  drop (place ps b) b.records ++ records_along xs,
  ap (λ w. w ++ records_along xs) (sym (take-append-drop (place ps b) b.records))
      ∙ append_assoc (applied_in ps b) (drop (place ps b) b.records) (records_along xs)
      ∙ ap (λ w. w ++ (drop (place ps b) b.records ++ records_along xs)) (sym (append-nil (applied_in ps b))
      ∙ ap (λ w. applied_in ps b ++ w) (sym (nothing-applied ps xs z))),
)) h.1

pub floor_after-append : (f : ℕ) (xs ys : List Record) → floor_after f (xs ++ ys) ≡ floor_after (floor_after f xs) ys
floor_after-append f [] ys = refl
floor_after-append f (x ∷ xs) ys = floor_after-append (floor_by f x.kind) xs ys

-- the safe time is at most the floor at the end of the path up to the places
pub covered : (t : ℕ) (ps : List ℕ) (o : Progress) (xs : List AcceptedTablet) → o.split ≡ true → Threads o xs → Stops o xs
    → LegalChain ps xs → Each (λ b. (is_closed_in ps b ≡ true) ⊎ (t ≤ last_safe_in ps b)) xs → t ≤ floor_after o.floor (applied_along ps xs)
covered t ps o [] s h e l c = absurd (true≢false (sym s ∙ e))
covered t ps o (b ∷ xs) s h e l c = let starts : b.start.floor ≡ o.floor = ap (λ (p : Progress). p.floor) h.0.start in
    let ends : b.end.floor ≡ floor_after o.floor b.records = (grown-end b h.0.grown).0 ∙ ap (λ f. floor_after f b.records) starts in
    let go : is_closed_in ps b ≡ true → t ≤ floor_after o.floor (applied_in ps b ++ applied_along ps xs) =
    λ q. let deep : t ≤ floor_after b.end.floor (applied_along ps xs) =
    covered t ps b.end xs (and_parts (place ps b == length b.records) b.end.split q).1 h.1 e l.2 c.1 in
    subst (λ (w : ℕ). t ≤ w) (ap (λ w. floor_after w (applied_along ps xs)) (ends ∙ ap (floor_after o.floor) (sym (closed-all ps b q)))
    ∙ sym (floor_after-append o.floor (applied_in ps b) (applied_along ps xs))) deep in
    ⊎_elim go
    (λ z. ⊎_elim go (λ q. subst (λ (w : ℕ). t ≤ w) ((after-parts b.start (applied_in ps b)).0
    ∙ ap (λ w. floor_after w (applied_in ps b)) starts
    ∙ ap (floor_after o.floor) (sym (append-nil (applied_in ps b))
    ∙ ap (λ w. applied_in ps b ++ w) (sym (nothing-applied ps xs z)))) q) c.0)
    l.1

-- Where the last safe record of value at least t stands: a ends before it, and what comes from it on commits after t.
pub record Cut (logs : Logs) (t : ℕ) (k : List ℕ) (seen : List Record) : Type 0 where
  pub before : List Event
  pub rest : List Event
  pub is : events k seen ≡ before ++ rest
  pub late : Each (ComesAfter logs t) rest
  pub free : Each (λ w. IsAfter t (commit_of logs w.txn)) (waiting before)

pub after-more : (t u : ℕ) (c : Option ℕ) → t ≤ u → IsAfter u c → IsAfter t c
after-more t u None h k = tt
after-more t u (Some c) h k = omega arith

-- what holds where there is a commit
pub by-commit : (o : Option ℕ) (P : Option ℕ → Type 0) → P None → ((c : ℕ) → o ≡ Some c → P (Some c)) → P o
by-commit None P n s = n
by-commit (Some c) P n s = s c refl

holds-late : (logs : Logs) (t n sub time : ℕ) (vs : List Written) → t < time → Each (AgreesAt logs) (map (λ v. Hold n sub time v) vs)
    → Each (ComesAfter logs t) (map (λ v. Hold n sub time v) vs)
holds-late logs t n sub time [] h g = tt
holds-late logs t n sub time (v ∷ vs) h g =
    (after-more t time (commit_of logs n) (omega arith) g.0, holds-late logs t n sub time vs h g.1)

pub record-late : (logs : Logs) (t : ℕ) (k : List ℕ) (time : ℕ) (kind : Kind) → t < time → Each (AgreesAt logs) (kind_events k time kind)
    → Each (ComesAfter logs t) (kind_events k time kind)
record-late logs t k time (log.Write ops) h g = each-map (ComesAfter logs t) (λ v. Put time v) (puts k ops) (λ v. h)
record-late logs t k time (log.Intent sub n ops) h g = holds-late logs t n sub time (puts k ops) h g
record-late logs t k time (log.Split at left right) h g = tt
record-late logs t k time _ h g = (tt, tt)

pub events-push : (k : List ℕ) (seen : List Record) (r : Record) → events k (seen ++ r ∷ []) ≡ events k seen ++ record_events k r
events-push k seen r = flat_map-append (record_events k) seen (r ∷ []) ∙ ap (λ w. events k seen ++ w) (append-nil (record_events k r))

cut-keep : (logs : Logs) (t : ℕ) (k : List ℕ) (seen : List Record) (r : Record) → t < r.time
    → Each (AgreesAt logs) (record_events k r) → Cut logs t k seen → Cut logs t k (seen ++ r ∷ [])
cut-keep logs t k seen r h g cut = record {
  before = cut.before;
  rest = cut.rest ++ record_events k r;
  is = events-push k seen r ∙ ap (λ w. w ++ record_events k r) cut.is ∙ append_assoc cut.before cut.rest (record_events k r);
  late = Each-append (ComesAfter logs t) cut.rest (record_events k r) cut.late (record-late logs t k r.time r.kind h g);
  free = cut.free;
}

-- what waits at a safe record where no straggler stands commits after its value
waits-free : (logs : Logs) (v : ℕ) (hs : List Waiting)
    → ((n c : ℕ) → commit_of logs n ≡ Some c → (nat_le c v && list_any (λ w. w.txn == n) hs) ≡ false)
    → Each (λ w. IsAfter v (commit_of logs w.txn)) hs
waits-free logs v [] f = tt
waits-free logs v (w ∷ hs) f = (
  by-commit (commit_of logs w.txn) (IsAfter v) tt (λ c e. let q = f w.txn c e in grind (arith, nat_tests)),
  waits-free logs v hs (λ n c e. let q = f n c e in grind arith),
)

cut-step : (logs : Logs) (t : ℕ) (k : List ℕ) (f l : ℕ) (seen : List Record) (time : ℕ) (kind : Kind) → f ≤ l → l < time
    → KindGoes f time kind → NoStragglers logs k seen (record { time = time; kind = kind } ∷ [])
    → Each (AgreesAt logs) (kind_events k time kind) → (t ≤ f → Cut logs t k seen) → t ≤ floor_by f kind
    → Cut logs t k (seen ++ record { time = time; kind = kind } ∷ [])
cut-step logs t k f l seen time (log.Safe v) h i g s a c b = record {
  before = events k seen;
  rest = Safe v ∷ [];
  is = events-push k seen (record { time = time; kind = log.Safe v });
  late = (tt, tt);
  free = Each-weaker (λ w. IsAfter v (commit_of logs w.txn)) (λ w. IsAfter t (commit_of logs w.txn))
      (λ w. after-more t v (commit_of logs w.txn) b) (waiting (events k seen))
      (waits-free logs v (waiting (events k seen)) (λ n d e. only _ (s n d e)));
}
  where
    only : (b : Bool) → (if b then true else false) ≡ false → b ≡ false
    only true e = cc
    only false e = refl
cut-step logs t k f l seen time kind h i g s a c b = cut-keep logs t k seen (record { time = time; kind = kind }) (omega arith) a
    (c b)

-- none along both parts
pub stragglers-parts : (logs : Logs) (k : List ℕ) (seen xs ys : List Record) → NoStragglers logs k seen (xs ++ ys)
    → NoStragglers logs k seen xs × NoStragglers logs k (seen ++ xs) ys
stragglers-parts logs k seen xs ys h =
    ((λ n c e. (or_parts _ _ (parts n c e)).0), (λ n c e. (or_parts _ _ (parts n c e)).1))
  where
    parts : (n c : ℕ) → commit_of logs n ≡ Some c → (straggles_at n c k seen xs || straggles_at n c k (seen ++ xs) ys) ≡ false
    parts n c e = sym (straggles-append n c k seen xs ys) ∙ h n c e

pub floor-time : (f l time : ℕ) (kind : Kind) → f ≤ l → l < time → KindGoes f time kind → floor_by f kind ≤ time
floor-time f l time (log.Safe v) h i g = g.1
floor-time f l time _ h i g = omega arith

pub cut-from : (logs : Logs) (t : ℕ) (k : List ℕ) (f l : ℕ) (seen xs : List Record) → f ≤ l → Goes f l xs
    → NoStragglers logs k seen xs → Each (AgreesAt logs) (events k xs) → (t ≤ f → Cut logs t k seen) → t ≤ floor_after f xs
    → Cut logs t k (seen ++ xs)
cut-from logs t k f l seen [] h g s a c b = subst (Cut logs t k) (sym (append-nil seen)) (c b)
cut-from logs t k f l seen (x ∷ xs) h g s a c b = let free = stragglers-parts logs k seen (x ∷ []) xs s in
    subst (Cut logs t k) (append_assoc seen (x ∷ []) xs)
    (cut-from logs t k (floor_by f x.kind) x.time (seen ++ x ∷ []) xs (floor-time f l x.time x.kind h g.0 g.1) g.2 free.1
    (each-back (AgreesAt logs) (record_events k x) (events k xs) a)
    (cut-step logs t k f l seen x.time x.kind h g.0 g.1 free.0 (each-front (AgreesAt logs) (record_events k x) (events k xs) a) c) b)
