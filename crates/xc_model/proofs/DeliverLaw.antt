-- One more record of a source tablet keeps a target tablet standing.
use Rattle.xc_model.proofs.Common.{◌≡◌, ◌≢◌, ◌==◌, ℕ, zero, suc, ◌+◌, ◌<◌, ◌≤◌, max, Bool, true, false, cond, List, [], ◌∷◌, ◌++◌, take}
use Rattle.xc_model.proofs.Common.{drop, length, Option, Some, None, refl, ap, sym, ◌∙◌, arith, subst, ◌⊎◌, inl, inr, ⊎_elim, fold, ◌&&◌}
use Rattle.xc_model.proofs.Common.{◌||◌, ◌-◌, option_map, nat_le, slice_get, slice_index, slice_set, if◌then◌else◌, option_map_or}
use Rattle.xc_model.proofs.Common.{cases_Bool, cases_eq, eqb-true, eq-eqb, true≢false, get_or-set_same, get_or-set_other}
use Rattle.xc_model.proofs.Common.{length-set, length-append, length-map, nil_from_length, same_Some, slice_get_within, slice_get-map, Kind}
use Rattle.xc_model.proofs.Common.{Header, Record, Tablet, Logs, hash_of, holds, Progress, is_split, accepted_from, after as step_order}
use Rattle.xc_model.proofs.Common.{AcceptedTablet, accepted_tablets, accepted, record_events, place, order_at, last_safe_in, is_closed_in}
use Rattle.xc_model.proofs.Common.{is_closed as closed_at, is_started, safe_time, StartsAfter, IsPlaces, headers_of, kind_fits}
use Rattle.xc_model.proofs.Common.{children, Numbered, IsGrown, accepted_tablets-grown, steps, floor-take, safe_time-rises, Each-weaker}
use Rattle.xc_model.proofs.Common.{split-names, FitsTablet, accepted-fit}
use Rattle.std.specs.Prelude.{◌↔◌}
use Rattle.std.proofs.lemmas.List.Sums.{fold-append}
use Rattle.std.proofs.lemmas.List.{drop-drop}
use Rattle.xc_record.specs.declared.record.Kind.TheVariants as log
use Rattle.xc_model.{proofs.FloorLaw.closed-kept, proofs.DeliverRecord.record-numbered, proofs.StableSort.Each}
use Rattle.xc_model.{specs.Laws.DeliveriesKeepStanding, specs.Laws.BatchesKeepStanding}
use Rattle.xc_model.proofs.Elements.{each-back}
use Rattle.xc_record.proofs.PathLaws.{numbered-mid}
use Rattle.xc_model.proofs.SplitEnd.{last-split, no-split-end}
use Rattle.xc_model.proofs.Along.{floor_by}
use Rattle.xc_model.specs.Floors.{Floors, FloorFor, has_closed, starts, has_started, floors_after}
use Rattle.xc_model.specs.Stands.{TargetTablet, in_range, kept_at, given_at, StandsFor, TakesIn, TakesAll, past}
use Rattle.xc_model.proofs.DeliverRecord.{is-open, applied-is, applied-more, within-more, given-more}
use Rattle.xc_model.proofs.Batches.{headers-kept, count-kept, others-kept, closed-by}
use Rattle.xc_model.proofs.Parents.{get-id, heads, heads-logs, length-logs, UnderParent, get-under, each-numbered, each-get, each-tablet}
use Rattle.xc_model.proofs.Parents.{header-get, closed-of, valid-headers}

-- ---- lists

-- of numbered tablets only one has its number
apart-after : (n i : ℕ) (bs : List AcceptedTablet) → i < n → Numbered n (heads bs) → Each (λ d. d.header.id ≢ i) bs
apart-after n i [] l m = tt
apart-after n i (d ∷ bs) l m =
    ((λ e. let q = m.0 in let z : ⊥ = omega arith in z), apart-after (n + 1) i bs (omega arith) m.1)

apart-from : (n : ℕ) (before : List AcceptedTablet) (b : AcceptedTablet) (after : List AcceptedTablet)
    → Numbered n (heads (before ++ b ∷ after))
    → Each (λ d. d.header.id ≢ b.header.id) before × Each (λ d. d.header.id ≢ b.header.id) after
apart-from n [] b after m = (tt, apart-after (n + 1) b.header.id after (let q = m.0 in omega arith) m.1)
apart-from n (d ∷ before) b after m = let rest = apart-from (n + 1) before b after m.1 in let q = m.0 in
    let above : b.header.id ≡ n + 1 + length before = numbered-mid (n + 1) before b after m.1 in
    (((λ e. let z : ⊥ = omega arith in z), rest.0), rest.1)

split-kind : (k : Kind) → is_split k ≡ true → (a : ℕ) × ((left : ℕ) × ((right : ℕ) × (k ≡ log.Split a left right)))
split-kind (log.Split a left right) e = (a, (left, (right, refl)))
split-kind _ e = cc

parent-is : (q : Option ℕ) (s : ℕ) → (q ≡ Some s) ⊎ (q ≡ Some s → ⊥)
parent-is None s = inr (λ e. cc)
parent-is (Some p) s = ⊎_elim (λ e. inl (ap Some e)) (λ n. inr (λ e. n (let w : p ≡ s = cc in w))) (cases_eq p s)

-- ---- what is kept of the source tablets becomes

safe-count : (s : ℕ) (kind : Kind) (f : Floors) → length (floors_after s kind f).safe ≡ length f.safe
safe-count s (log.Safe v) f = length-set f.safe s (max (slice_index f.safe s) v)
safe-count s (log.Split at left right) f =
    length-set (slice_set f.safe left (slice_index f.safe s)) right (slice_index f.safe s) ∙ length-set f.safe left (slice_index f.safe s)
safe-count s _ f = refl

-- where no split comes, only the tablet's own value changes
safe-other : (s : ℕ) (kind : Kind) (f : Floors) (i : ℕ) → is_split kind ≡ false → i ≢ s
    → slice_index (floors_after s kind f).safe i ≡ slice_index f.safe i
safe-other s (log.Safe v) f i n h = get_or-set_other f.safe s i (max (slice_index f.safe s) v) 0 h
safe-other s (log.Split at left right) f i n h = cc
safe-other s _ f i n h = refl

-- a split changes the values of the two children alone
safe-apart : (value left right : ℕ) (safe : List ℕ) (i : ℕ) → i ≢ left → i ≢ right
    → slice_index (slice_set (slice_set safe left value) right value) i ≡ slice_index safe i
safe-apart value left right safe i a b =
    get_or-set_other (slice_set safe left value) right i value 0 b ∙ get_or-set_other safe left i value 0 a

safe-child : (value left right : ℕ) (safe : List ℕ) (i : ℕ) → i < length safe → (i ≡ left) ⊎ (i ≡ right)
    → slice_index (slice_set (slice_set safe left value) right value) i ≡ value
safe-child value left right safe i h e = let one = slice_set safe left value in let right-is : i ≡ right
    → slice_index (slice_set one right value) i ≡ value = λ q. subst (λ (w : ℕ). slice_index (slice_set one w value) i ≡ value) q
    (get_or-set_same one i value 0 (let l : length one ≡ length safe = length-set safe left value in omega arith)) in
    ⊎_elim right-is
    (λ n. ⊎_elim (λ q. get_or-set_other one right i value 0 n
    ∙ subst (λ (w : ℕ). slice_index (slice_set safe w value) i ≡ value) q (get_or-set_same safe i value 0 h)) (λ q. right-is
    q) e) (cases_eq i right)

-- the tablet's own value follows its last safe value
safe-mine : (s : ℕ) (kind : Kind) (f : Floors) (value : ℕ) → s < length f.safe → slice_index f.safe s ≡ value → value ≤ floor_by value kind
    → ((at left right : ℕ) → kind ≡ log.Split at left right → (s ≢ left) × (s ≢ right))
    → slice_index (floors_after s kind f).safe s ≡ floor_by value kind
safe-mine s (log.Safe v) f value l e h n =
    get_or-set_same f.safe s (max (slice_index f.safe s) v) 0 l ∙ (let q : value ≤ v = h in omega arith)
safe-mine s (log.Split at left right) f value l e h n =
    let k = n at left right refl in safe-apart (slice_index f.safe s) left right f.safe s k.0 k.1 ∙ e
safe-mine s _ f value l e h n = e

-- ---- a record of the tablet b, between those before and after it

module _ (logs : Logs) (u : ℕ) (x y : TargetTablet) (before after : List AcceptedTablet) (b : AcceptedTablet) (front rest : List Record)
    (r : Record) (st : StandsFor logs u x) (is : accepted_tablets logs ≡ before ++ b ∷ after)
    (recs : b.records ≡ front ++ r ∷ rest) (at : length front ≡ slice_index x.places b.header.id)
    (up : is_started logs x.places b.header.parent ≡ true) (tk : TakesIn b.header.id r x y)
    (there : slice_get (accepted_tablets logs) b.header.id ≡ Some b) where
  numbered : Numbered 0 (heads (before ++ b ∷ after))
  numbered = subst (λ w. Numbered 0 (heads w)) is (each-numbered logs st.valid)

  apart : Each (λ d. d.header.id ≢ b.header.id) before × Each (λ d. d.header.id ≢ b.header.id) after
  apart = apart-from 0 before b after numbered

  count : length x.floors.headers ≡ length (before ++ b ∷ after)
  count = ap length (st.floors.headers ∙ sym (heads-logs logs)) ∙ length-map (accepted_tablets logs) (λ (d : AcceptedTablet). d.header)
      ∙ ap length is

  below-count : b.header.id < length x.floors.headers
  below-count = let q : b.header.id ≡ 0 + length before = numbered-mid 0 before b after numbered in let w = length-append before (b ∷ after)
      in let c = count in omega arith

  below-places : b.header.id < length x.places
  below-places = let q : length x.places ≡ length logs.tablets = st.places.count in let w : length x.floors.headers ≡ length logs.tablets =
      ap length st.floors.headers ∙ length-map logs.tablets (λ (t : Tablet). t.header) in
      let c = below-count in omega arith

  place-mine : slice_index y.places b.header.id ≡ slice_index x.places b.header.id + 1
  place-mine = ap (λ w. slice_index w b.header.id) tk.places
      ∙ get_or-set_same x.places b.header.id (slice_index x.places b.header.id + 1) 0 below-places

  place-other : (i : ℕ) → i ≢ b.header.id → slice_index y.places i ≡ slice_index x.places i
  place-other i h = ap (λ w. slice_index w i) tk.places ∙ get_or-set_other x.places b.header.id i (slice_index x.places b.header.id + 1) 0 h

  -- b was open
  was-open : is_closed_in x.places b ≡ false
  was-open = is-open x.places b front rest r recs at

  closed-b : closed_at logs x.places b.header.id ≡ false
  closed-b = closed-of logs x.places b.header.id b there ∙ was-open

  is-b : (d : AcceptedTablet) → slice_get (accepted_tablets logs) d.header.id ≡ Some d → d.header.id ≡ b.header.id → d ≡ b
  is-b d i same = same_Some d b (sym i ∙ ap (slice_get (accepted_tablets logs)) same ∙ there)

  closed-elsewhere : (p : ℕ) → p ≢ b.header.id → closed_at logs y.places p ≡ closed_at logs x.places p
  unfolding closed_at
  closed-elsewhere p h = go (slice_get (accepted_tablets logs) p) refl
    where
      go : (o : Option AcceptedTablet) → slice_get (accepted_tablets logs) p ≡ o
          → option_map_or (is_closed_in y.places) o false ≡ option_map_or (is_closed_in x.places) o false
      go None e = refl
      go (Some d) e =
          ap (λ n. (n == length d.records) && d.end.split) (place-other d.header.id (λ q. h (sym (get-id logs p d st.valid e) ∙ q)))

  header-b : slice_get x.floors.headers b.header.id ≡ Some b.header
  header-b = ap (λ w. slice_get w b.header.id) st.floors.headers ∙ header-get logs b.header.id b st.valid there

  effect : (k : List ℕ) → in_range x k ≡ true
      → kept_at y k ≡ cond (holds b.header (hash_of k)) (steps (record_events k r) (kept_at x k)) (kept_at x k)
  effect k q = tk.keys k q
      ∙ ap (λ o. if option_map_or (λ h. holds h (hash_of k)) o false then steps (record_events k r) (kept_at x k) else kept_at x k) header-b

  fits-b : kind_fits b.header (children (headers_of logs.tablets) b.header.id) r.kind ≡ true
  fits-b = let fitting : Record → Type 0 = λ r. kind_fits b.header (children (headers_of logs.tablets) b.header.id) r.kind ≡ true in
      (each-back fitting front (r ∷ rest) (subst (Each fitting) recs
      (each-get (FitsTablet (headers_of logs.tablets)) (accepted_tablets logs) b.header.id b (accepted-fit logs st.valid) there))).0

  given : (k : List ℕ)
      → given_at logs u y.places k ≡ cond (holds b.header (hash_of k)) (steps (record_events k r) (given_at logs u x.places k))
      (given_at logs u x.places k)
  given k = given-more logs x.places y.places u before after b front rest r st.valid st.places st.covered is recs at there
      (λ k. record-numbered k r.time b.header (children (headers_of logs.tablets) b.header.id) r.kind fits-b) place-mine
      (Each-weaker (λ d. d.header.id ≢ b.header.id) (λ d. place y.places d ≡ place x.places d) (λ d n. place-other d.header.id n) before
      apart.0)
      (Each-weaker (λ d. d.header.id ≢ b.header.id) (λ d. place y.places d ≡ place x.places d) (λ d n. place-other d.header.id n) after
      apart.1) k

  -- ---- the places

  -- what was started stays so
  started-before : (q : Option ℕ) → is_started logs y.places q ≡ false → is_started logs x.places q ≡ false
  started-before None e = e
  started-before (Some p) e =
      ⊎_elim (λ same. ap (closed_at logs x.places) same ∙ closed-b) (λ n. sym (closed-elsewhere p n) ∙ e) (cases_eq p b.header.id)

  starts-new : (d : AcceptedTablet) → slice_get (accepted_tablets logs) d.header.id ≡ Some d → StartsAfter logs x.places d
      → StartsAfter logs y.places d
  starts-new d i s c = ⊎_elim
      (λ same. absurd (true≢false (sym (ap (λ (w : AcceptedTablet). is_started logs x.places w.header.parent) (is-b d i same) ∙ up)
      ∙ started-before d.header.parent c)))
      (λ n. place-other d.header.id n ∙ s (started-before d.header.parent c)) (cases_eq d.header.id b.header.id)

  within-new : (d : AcceptedTablet) → slice_get (accepted_tablets logs) d.header.id ≡ Some d → place x.places d ≤ length d.records
      → place y.places d ≤ length d.records
  within-new d i w = ⊎_elim (λ same. subst (λ (w : AcceptedTablet). place y.places w ≤ length w.records) (sym (is-b d i same))
      (let a = place-mine in let c = within-more x.places b front rest r recs at in omega arith))
      (λ n. let q = place-other d.header.id n in omega arith) (cases_eq d.header.id b.header.id)

  -- no place falls
  rises-each : (i : ℕ) → slice_index x.places i ≤ slice_index y.places i
  rises-each i =
      ⊎_elim (λ e. subst (λ (n : ℕ). slice_index x.places n ≤ slice_index y.places n) (sym e) (let q = place-mine in omega arith))
      (λ n. let q = place-other i n in omega arith) (cases_eq i b.header.id)

  places-new : IsPlaces logs y.places
  places-new = record {
    count = ap length tk.places ∙ length-set x.places b.header.id (slice_index x.places b.header.id + 1) ∙ st.places.count;
    within = each-tablet logs st.valid (λ d. place y.places d ≤ length d.records) (λ d i. within-new d i
        (each-get (λ d. place x.places d ≤ length d.records) (accepted_tablets logs) d.header.id d st.places.within i));
    starts = each-tablet logs st.valid (StartsAfter logs y.places)
        (λ d i. starts-new d i (each-get (StartsAfter logs x.places) (accepted_tablets logs) d.header.id d st.places.starts i));
  }

  -- ---- the tablets

  grown : IsGrown b
  grown = each-get IsGrown (accepted_tablets logs) b.header.id b (accepted_tablets-grown logs) there

  in-order : accepted_from b.start (front ++ r ∷ rest) ≡ front ++ r ∷ rest
  in-order = subst (λ w. accepted_from b.start w ≡ w) recs grown.in_order

  end-is : b.end ≡ fold step_order b.start (front ++ r ∷ rest)
  end-is = grown.end ∙ ap (fold step_order b.start) recs

  -- a split closes it, and nothing else does
  now-closed : is_closed_in y.places b ≡ is_split r.kind
  now-closed = ⊎_elim split (λ f. other f) (cases_Bool (is_split r.kind))
    where
      split : is_split r.kind ≡ true → is_closed_in y.places b ≡ is_split r.kind
      split t = let last = last-split b.start front rest r in-order t in let full : slice_index y.places b.header.id ≡ length b.records =
          place-mine
          ∙ (let l : length b.records ≡ length (front ++ r ∷ rest) = ap length recs in let m = length-append front (r ∷ rest) in let
          n : length rest ≡ 0 = ap length last.0 in omega arith) in
          ap (λ o. o && b.end.split) (eq-eqb (slice_index y.places b.header.id) (length b.records) full)
          ∙ ap (λ (w : Progress). w.split) end-is ∙ last.1 ∙ sym t

      other : is_split r.kind ≡ false → is_closed_in y.places b ≡ is_split r.kind
      other f = ⊎_elim (λ e. let none : rest ≡ [] = nil_from_length rest
          (let l : length b.records ≡ length (front ++ r ∷ rest) = ap length recs in let m = length-append front (r ∷ rest) in let n
          : slice_index y.places b.header.id ≡ length b.records = eqb-true _ _ e in let q = place-mine in omega arith) in
          let open_ : b.end.split ≡ false =
          ap (λ (w : Progress). w.split) end-is ∙ ap (λ w. (fold step_order b.start (front ++ r ∷ w)).split) none
          ∙ no-split-end b.start front r (subst (λ w. accepted_from b.start (front ++ r ∷ w) ≡ front ++ r ∷ w) none in-order) f in
          ap (λ o. o && b.end.split) e ∙ open_ ∙ sym f)
          (λ n. ap (λ o. o && b.end.split) n ∙ sym f) (cases_Bool (slice_index y.places b.header.id == length b.records))

  keeps-b : FloorFor logs x.places x.floors b
  keeps-b = each-get (FloorFor logs x.places x.floors) (accepted_tablets logs) b.header.id b st.floors.each there

  applied-front : take (slice_index x.places b.header.id) b.records ≡ front
  applied-front = applied-is x.places b front rest r recs at

  old-safe : last_safe_in x.places b ≡ (fold step_order b.start front).floor
  old-safe = ap (λ rs. (fold step_order b.start rs).floor) applied-front

  new-safe : last_safe_in y.places b ≡ floor_by (last_safe_in x.places b) r.kind
  new-safe = ap (λ n. (order_at b n).floor) place-mine
      ∙ ap (λ rs. (fold step_order b.start rs).floor) (applied-more x.places b front rest r recs at)
      ∙ ap (λ (p : Progress). p.floor) (fold-append step_order b.start front (r ∷ [])) ∙ ap (λ f. floor_by f r.kind) (sym old-safe)

  rises : last_safe_in x.places b ≤ floor_by (last_safe_in x.places b) r.kind
  rises = subst (λ (n : ℕ). last_safe_in x.places b ≤ n) (ap (λ n. (order_at b n).floor) (sym place-mine)
      ∙ new-safe) (floor-take b.start (place x.places b) (place x.places b + 1) b.records grown.in_order (omega arith))

  -- ---- the children that a split names

  -- a tablet is a child of b exactly where it has a number that the split names
  child-of : (a left right : ℕ) → r.kind ≡ log.Split a left right → (d : AcceptedTablet)
      → slice_get (accepted_tablets logs) d.header.id ≡ Some d
      → (d.header.parent ≡ Some b.header.id) ↔ ((d.header.id ≡ left) ⊎ (d.header.id ≡ right))
  child-of a left right e d i = let hs = headers_of logs.tablets in
      split-names hs b.header.id d.header.id a left right d.header (valid-headers logs st.valid)
      (subst (λ k. kind_fits b.header (children hs b.header.id) k ≡ true) e fits-b) (header-get logs d.header.id d st.valid i)

  not-own-child : b.header.parent ≡ Some b.header.id → ⊥
  not-own-child e =
      let q : b.header.id < b.header.id = (get-under logs b.header.id b st.valid there b.header.id e).below in let z : ⊥ = omega arith in z

  not-child : (a left right : ℕ) → r.kind ≡ log.Split a left right → (b.header.id ≢ left) × (b.header.id ≢ right)
  not-child a left right e = (
    (λ q. not-own-child ((child-of a left right e b there).1 (inl q))),
    (λ q. not-own-child ((child-of a left right e b there).1 (inr q))),
  )

  below-closed : b.header.id < length x.floors.closed
  below-closed = let q : length x.floors.closed ≡ length x.floors.headers = st.floors.closed in let w = below-count in omega arith

  below-safe : b.header.id < length x.floors.safe
  below-safe = let q : length x.floors.safe ≡ length x.floors.headers = st.floors.safe in let w = below-count in omega arith

  now-has : (i : ℕ) → has_closed y.floors i ≡ has_closed (floors_after b.header.id r.kind x.floors) i
  now-has i = ap (λ (f : Floors). has_closed f i) tk.floors

  now-value : (i : ℕ) → slice_index y.floors.safe i ≡ slice_index (floors_after b.header.id r.kind x.floors).safe i
  now-value i = ap (λ (f : Floors). slice_index f.safe i) tk.floors

  keeps-mine : FloorFor logs y.places y.floors b
  keeps-mine = record {
    closed = now-has b.header.id ∙ closed-by b.header.id r.kind x.floors below-closed
        ∙ ap (λ c. c || is_split r.kind) (keeps-b.closed ∙ was-open) ∙ sym now-closed;
    safe = λ _. now-value b.header.id
        ∙ safe-mine b.header.id r.kind x.floors (last_safe_in x.places b) below-safe (keeps-b.safe up) rises not-child ∙ sym new-safe;
  }

  -- ---- another tablet

  started-elsewhere : (q : Option ℕ) → (q ≡ Some b.header.id → ⊥) → is_started logs y.places q ≡ is_started logs x.places q
  started-elsewhere None n = refl
  started-elsewhere (Some p) n = closed-elsewhere p (λ e. n (ap Some e))

  closed-now : closed_at logs y.places b.header.id ≡ is_split r.kind
  closed-now = closed-of logs y.places b.header.id b there ∙ now-closed

  started-same : is_split r.kind ≡ false → (q : Option ℕ) → is_started logs y.places q ≡ is_started logs x.places q
  started-same f None = refl
  started-same f (Some p) = ⊎_elim (λ e. ap (closed_at logs y.places) e ∙ closed-now ∙ f
      ∙ sym (ap (closed_at logs x.places) e ∙ closed-b)) (λ n. closed-elsewhere p n) (cases_eq p b.header.id)

  safe-same : (d : AcceptedTablet) → d.header.id ≢ b.header.id → last_safe_in y.places d ≡ last_safe_in x.places d
  safe-same d n = ap (λ p. (order_at d p).floor) (place-other d.header.id n)

  -- a child of b begins where b ends
  child-floor : (d : AcceptedTablet) → slice_get (accepted_tablets logs) d.header.id ≡ Some d → d.header.parent ≡ Some b.header.id
      → d.start.floor ≡ b.end.floor
  child-floor d i e = let under : UnderParent (accepted_tablets logs) b.header.id d =
      get-under logs d.header.id d st.valid i b.header.id e in
      sym under.floor ∙ ap (λ (w : AcceptedTablet). w.end.floor) (same_Some under.parent b (sym under.there ∙ there))

  end-floor : is_split r.kind ≡ true → b.end.floor ≡ last_safe_in x.places b
  end-floor t = let last = last-split b.start front rest r in-order t in let kind = split-kind r.kind t in
      ap (λ (w : Progress). w.floor) (end-is ∙ ap (λ w. fold step_order b.start (front ++ r ∷ w)) last.0
      ∙ fold-append step_order b.start front (r ∷ []))
      ∙ ap (floor_by (fold step_order b.start front).floor) kind.1.1.1 ∙ sym old-safe

  first-safe : (d : AcceptedTablet) → slice_get (accepted_tablets logs) d.header.id ≡ Some d → d.header.parent ≡ Some b.header.id
      → last_safe_in x.places d ≡ d.start.floor
  first-safe d i e = let zero : place x.places d ≡ 0 =
      each-get (StartsAfter logs x.places) (accepted_tablets logs) d.header.id d st.places.starts i
      (ap (is_started logs x.places) e ∙ closed-b) in
      ap (λ n. (order_at d n).floor) zero

  value-after-split : (a left right : ℕ) → r.kind ≡ log.Split a left right → (i : ℕ) → slice_index y.floors.safe i ≡ slice_index
      (slice_set (slice_set x.floors.safe left (slice_index x.floors.safe b.header.id)) right (slice_index x.floors.safe b.header.id)) i
  value-after-split a left right e i = now-value i ∙ ap (λ k. slice_index (floors_after b.header.id k x.floors).safe i) e

  below-each : (d : AcceptedTablet) → slice_get (accepted_tablets logs) d.header.id ≡ Some d → d.header.id < length x.floors.safe
  below-each d i = let q : length x.floors.safe ≡ length x.floors.headers = st.floors.safe in
      let w : d.header.id < length (accepted_tablets logs) =
      slice_get_within (accepted_tablets logs) d.header.id d i in
      let c : length x.floors.headers ≡ length (accepted_tablets logs) = count ∙ ap length (sym is) in omega arith

  safe-else : (d : AcceptedTablet) → slice_get (accepted_tablets logs) d.header.id ≡ Some d → d.header.id ≢ b.header.id
      → FloorFor logs x.places x.floors d → is_started logs y.places d.header.parent ≡ true
      → slice_index y.floors.safe d.header.id ≡ last_safe_in y.places d
  safe-else d i n k started = ⊎_elim split (λ f. now-value d.header.id ∙ safe-other b.header.id r.kind x.floors d.header.id f n
      ∙ k.safe (sym (started-same f d.header.parent) ∙ started) ∙ sym (safe-same d n)) (cases_Bool (is_split r.kind))
    where
      split : is_split r.kind ≡ true → slice_index y.floors.safe d.header.id ≡ last_safe_in y.places d
      split t = let kind = split-kind r.kind t in let left = kind.1.0 in let right = kind.1.1.0 in
          let child = child-of kind.0 left right kind.1.1.1 d i in
          let set = value-after-split kind.0 left right kind.1.1.1 d.header.id in
          let value = slice_index x.floors.safe b.header.id in
          ⊎_elim
          (λ e. set ∙ safe-child value left right x.floors.safe d.header.id (below-each d i) (child.0 e)
          ∙ keeps-b.safe up ∙ sym (end-floor t) ∙ sym (child-floor d i e) ∙ sym (first-safe d i e) ∙ sym (safe-same d n))
          (λ e. set
          ∙ safe-apart value left right x.floors.safe d.header.id (λ q. e (child.1 (inl q)))
          (λ q. e (child.1 (inr q))) ∙ k.safe (sym (started-elsewhere d.header.parent e) ∙ started)
          ∙ sym (safe-same d n))
          (parent-is d.header.parent b.header.id)

  keeps-else : (d : AcceptedTablet) → slice_get (accepted_tablets logs) d.header.id ≡ Some d → d.header.id ≢ b.header.id
      → FloorFor logs x.places x.floors d → FloorFor logs y.places y.floors d
  keeps-else d i n k = record {
    closed = now-has d.header.id ∙ others-kept b.header.id d.header.id r.kind x.floors n ∙ k.closed
        ∙ sym (ap (λ p. (p == length d.records) && d.end.split) (place-other d.header.id n));
    safe = λ started. safe-else d i n k started;
  }

  keeps-each : (d : AcceptedTablet) → slice_get (accepted_tablets logs) d.header.id ≡ Some d → FloorFor logs y.places y.floors d
  keeps-each d i = ⊎_elim (λ e. subst (FloorFor logs y.places y.floors) (sym (is-b d i e)) keeps-mine)
      (λ n. keeps-else d i n (each-get (FloorFor logs x.places x.floors) (accepted_tablets logs) d.header.id d st.floors.each i))
      (cases_eq d.header.id b.header.id)

  same-range : (k : List ℕ) → in_range y k ≡ in_range x k
  same-range k = ap (λ n. nat_le n (hash_of k) && nat_le (hash_of k) y.hi) tk.range.0
      ∙ ap (λ n. nat_le x.lo (hash_of k) && nat_le (hash_of k) n) tk.range.1

  same-headers : y.floors.headers ≡ headers_of logs.tablets
  same-headers = ap (λ (f : Floors). f.headers) tk.floors ∙ headers-kept b.header.id r.kind x.floors ∙ st.floors.headers

  pub still-stands : StandsFor logs u y
  still-stands = record {
    valid = st.valid;
    places = places-new;
    covered = (let q : safe_time logs x.places ≤ safe_time logs y.places = safe_time-rises logs x.places y.places places-new rises-each in
        let c : u ≤ safe_time logs x.places = st.covered in omega arith);
    floors = record {
      headers = same-headers;
      closed = ap (λ (f : Floors). length f.closed) tk.floors ∙ count-kept b.header.id r.kind x.floors ∙ st.floors.closed
          ∙ ap length (st.floors.headers ∙ sym same-headers);
      safe = ap (λ (f : Floors). length f.safe) tk.floors ∙ safe-count b.header.id r.kind x.floors ∙ st.floors.safe
          ∙ ap length (st.floors.headers ∙ sym same-headers);
      each = each-tablet logs st.valid (FloorFor logs y.places y.floors) keeps-each;
    };
    keys = λ k q. let inside = sym (same-range k) ∙ q in effect k inside
        ∙ ap (λ w. cond (holds b.header (hash_of k)) (steps (record_events k r) w) w) (st.keys k inside) ∙ sym (given k);
    within = tk.within;
  }

-- ---- the law

take-front : {A : Type 0} (xs : List A) (i : ℕ) (a : A) → slice_get xs i ≡ Some a
    → (front : List A) × ((rest : List A) × ((xs ≡ front ++ a ∷ rest) × (length front ≡ i)))
take-front [] i a e = cc
take-front (b ∷ bs) zero a e = ([], (bs, (let q : b ≡ a = same_Some b a e in ap (λ w. w ∷ bs) q, refl)))
take-front (b ∷ bs) (suc i) a e = let deep = take-front bs i a e in
    (b ∷ deep.0, (deep.1.0, (ap (λ w. b ∷ w) deep.1.1.0, (let q : length deep.0 ≡ i = deep.1.1.1 in omega arith))))

-- the tablet that a record is of
record Of (logs : Logs) (s n : ℕ) (r : Record) : Type 0 where
  b : AcceptedTablet
  get : slice_get (accepted_tablets logs) s ≡ Some b
  at : slice_get b.records n ≡ Some r

of : (logs : Logs) (s n : ℕ) (r : Record) → slice_get (accepted logs s) n ≡ Some r → Of logs s n r
of logs s n r e = go (slice_get (accepted_tablets logs) s) refl e
  where
    go : (o : Option AcceptedTablet) → slice_get (accepted_tablets logs) s ≡ o
        → slice_get (option_map_or (λ (b : AcceptedTablet). b.records) o []) n ≡ Some r → Of logs s n r
    go None q w = cc
    go (Some b) q w = record { b = b; get = q; at = w }

-- what x has as started is
started-is : (logs : Logs) (u s : ℕ) (x : TargetTablet) (b : AcceptedTablet) → StandsFor logs u x
    → slice_get (accepted_tablets logs) s ≡ Some b → has_started x.floors s ≡ true → is_started logs x.places b.header.parent ≡ true
started-is logs u s x b st get h = let head : slice_get x.floors.headers s ≡ Some b.header =
    ap (λ w. slice_get w s) (st.floors.headers ∙ sym (heads-logs logs))
    ∙ slice_get-map (λ (d : AcceptedTablet). d.header) (accepted_tablets logs) s
    ∙ ap (option_map (λ (d : AcceptedTablet). d.header)) get in
    go b.header.parent (sym (ap (λ o. option_map_or (starts x.floors) o false) head) ∙ h)
  where
    go : (q : Option ℕ) → option_map_or (has_closed x.floors) q true ≡ true → is_started logs x.places q ≡ true
    go None k = refl
    go (Some p) k = sym (closed-kept logs x.places x.floors st.valid st.places st.floors p) ∙ k

pub deliveries-keep : DeliveriesKeepStanding
deliveries-keep logs x y u s r st started next tk =
    let found : Of logs s (slice_index x.places s) r = of logs s (slice_index x.places s) r next in
    let id : found.b.header.id ≡ s = get-id logs s found.b st.valid found.get in
    let tablets = take-front (accepted_tablets logs) s found.b found.get in
    let records = take-front found.b.records (slice_index x.places s) r found.at in
    still-stands logs u x y tablets.0 tablets.1.0 found.b records.0 records.1.0 r st tablets.1.1.0 records.1.1.0 (records.1.1.1
    ∙ ap (slice_index x.places) (sym id)) (started-is logs u s x found.b st found.get started) (subst (λ (w : ℕ). TakesIn w r x y)
    (sym id) tk) (ap (slice_get (accepted_tablets logs)) id ∙ found.get)

-- ---- batches

next-of : {A : Type 0} (xs : List A) (i : ℕ) (a : A) (tail : List A) → a ∷ tail ≡ take (length (a ∷ tail)) (drop i xs)
    → (slice_get xs i ≡ Some a) × (tail ≡ take (length tail) (drop (i + 1) xs))
next-of [] zero a tail e = cc
next-of [] (suc i) a tail e = cc
next-of (x ∷ xs) zero a tail e =
    (ap Some (sym (heads-same a x tail (take (length tail) xs) e)), tails-same a x tail (take (length tail) xs) e)
  where
    heads-same : {A : Type 0} (a b : A) (xs ys : List A) → a ∷ xs ≡ b ∷ ys → a ≡ b
    heads-same a b xs ys e = cc

    tails-same : {A : Type 0} (a b : A) (xs ys : List A) → a ∷ xs ≡ b ∷ ys → xs ≡ ys
    tails-same a b xs ys e = cc
next-of (x ∷ xs) (suc i) a tail e = let deep = next-of xs i a tail e in (
  deep.0,
  deep.1
      ∙ ap (λ n. take (length tail) (drop n (x ∷ xs))) (let q : suc (i + 1) ≡ suc i + 1 = omega arith in q),
)

-- the place that a record takes
place-after : (logs : Logs) (u s : ℕ) (r : Record) (x y : TargetTablet) → StandsFor logs u x
    → slice_get (accepted logs s) (slice_index x.places s) ≡ Some r → TakesIn s r x y → slice_index y.places s ≡ slice_index x.places s + 1
place-after logs u s r x y st next tk = let found : Of logs s (slice_index x.places s) r = of logs s (slice_index x.places s) r next in
    let low : s < length (accepted_tablets logs) = slice_get_within (accepted_tablets logs) s found.b found.get in
    let same : length (accepted_tablets logs) ≡ length logs.tablets = length-logs logs in
    let bound : s < length x.places = let c : length x.places ≡ length logs.tablets = st.places.count in omega arith in
    ap (λ w. slice_index w s) tk.places ∙ get_or-set_same x.places s (slice_index x.places s + 1) 0 bound

-- what x has as started stays so
started-stays : (logs : Logs) (u s : ℕ) (r : Record) (x y : TargetTablet) → StandsFor logs u x
    → slice_get (accepted logs s) (slice_index x.places s) ≡ Some r → has_started x.floors s ≡ true → TakesIn s r x y
    → has_started y.floors s ≡ true
started-stays logs u s r x y st next h tk =
    ap (λ w. option_map_or (starts y.floors) (slice_get w s) false) (ap (λ (f : Floors). f.headers) tk.floors
    ∙ headers-kept s r.kind x.floors) ∙ go (slice_get x.floors.headers s) h
  where
    low : s < length x.floors.closed
    low = let found : Of logs s (slice_index x.places s) r = of logs s (slice_index x.places s) r next in
        let b : s < length (accepted_tablets logs) = slice_get_within (accepted_tablets logs) s found.b found.get in
        let same : length (accepted_tablets logs) ≡ length logs.tablets = length-logs logs in
        let heads : length x.floors.headers ≡ length logs.tablets =
        ap length st.floors.headers ∙ length-map logs.tablets (λ (t : Tablet). t.header) in
        let c : length x.floors.closed ≡ length x.floors.headers = st.floors.closed in omega arith

    raised : (c d : Bool) → c ≡ true → (c || d) ≡ true
    raised c d e = ap (λ b. b || d) e

    one : (q : Option ℕ) → option_map_or (has_closed x.floors) q true ≡ true → option_map_or (has_closed y.floors) q true ≡ true
    one None e = refl
    one (Some p) e = ap (λ (f : Floors). has_closed f p) tk.floors ∙ ⊎_elim
        (λ same. ap (has_closed (floors_after s r.kind x.floors)) same ∙ closed-by s r.kind x.floors low
        ∙ raised (has_closed x.floors s) (is_split r.kind) (ap (has_closed x.floors) (sym same) ∙ e))
        (λ n. others-kept s p r.kind x.floors n ∙ e) (cases_eq p s)

    go : (o : Option Header) → option_map_or (starts x.floors) o false ≡ true → option_map_or (starts y.floors) o false ≡ true
    go None e = e
    go (Some h) e = one h.parent e

-- the next records, one after another
all-keep : (logs : Logs) (x y : TargetTablet) (u s : ℕ) (rs : List Record) → StandsFor logs u x → has_started x.floors s ≡ true
    → rs ≡ take (length rs) (drop (slice_index x.places s) (accepted logs s)) → TakesAll s rs x y → StandsFor logs u y
all-keep logs x y u s [] st started e t = subst (StandsFor logs u) (sym t) st
all-keep logs x y u s (r ∷ rs) st started e t = let z = t.0 in let next = next-of (accepted logs s) (slice_index x.places s) r rs e in
    let stands : StandsFor logs u z = deliveries-keep logs x z u s r st started next.0 t.1.0 in
    all-keep logs z y u s rs stands (started-stays logs u s r x z st next.0 started t.1.0)
    (subst (λ (n : ℕ). rs ≡ take (length rs) (drop n (accepted logs s))) (sym (place-after logs u s r x z st next.0 t.1.0)) next.1) t.1.1

-- a list's first elements, without the first m
front-drop : {A : Type 0} (m : ℕ) (rs xs : List A) → rs ≡ take (length rs) xs → drop m rs ≡ take (length (drop m rs)) (drop m xs)
front-drop zero rs xs e = e
front-drop (suc m) [] xs e = refl
front-drop (suc m) (r ∷ rs) [] e = cc
front-drop (suc m) (r ∷ rs) (x ∷ xs) e = front-drop m rs xs (tails r x rs (take (length rs) xs) e)
  where
    tails : {A : Type 0} (a b : A) (xs ys : List A) → a ∷ xs ≡ b ∷ ys → xs ≡ ys
    tails a b xs ys e = cc

pub batches-keep : BatchesKeepStanding
batches-keep logs x y u s from rs st started low high e t = let place = slice_index x.places s in let m = place + 1 - from in
    let at : from - 1 + m ≡ place = omega arith in
    all-keep logs x y u s (past place from rs) st started
    (front-drop m rs (drop (from - 1) (accepted logs s)) e
    ∙ ap (take (length (drop m rs))) (drop-drop m (from - 1) (accepted logs s) ∙ ap (λ n. drop n (accepted logs s)) at)) t
