-- A batch of a feed, and what a target tablet that fits the feed makes of it.
use Rattle.std.proofs.Common.{◌≡◌, ◌≢◌, ℕ, zero, suc, ◌+◌, ◌-◌, ◌<◌, ◌≤◌, ◌^◌, max, Bool, true, false, ◌||◌, List, [], ◌∷◌, length, drop}
use Rattle.std.proofs.Common.{get_or, Option, Some, None, refl, sym, ap, ◌∙◌, subst, arith, ◌⊎◌, inl, inr}
use Rattle.std.specs.Prelude.{◌==◌, ◌&&◌, nat_le, nat_lt, slice_get, slice_index, is_some, if◌then◌else◌, IsSome}
use Rattle.std.specs.Bool.{beq}
use Rattle.std.specs.Cmp.{booleans_Decides}
use Rattle.std.specs.List.{list_any, list_all}
use Rattle.std.specs.Option.{option_map_or}
use Rattle.std.proofs.lemmas.Bool.{and_parts, and_from, eq-eqb, cases_lt}
use Rattle.std.proofs.lemmas.Bool.Decides.{nat_tests}
use Rattle.std.proofs.lemmas.List.{length-drop}
use Rattle.std.proofs.lemmas.Option.{slice_get_cases}
use Rattle.xc_record.specs.declared.record.Header.{Header}
use Rattle.xc_record.specs.declared.record.Record.{Record}
use Rattle.xc_record.specs.Order.{is_split}
use Rattle.xc_record.specs.Headers.{children}
use Rattle.xc_record.specs.Valid.{keeps_header}
use Rattle.xc_logs.specs.Feed.{KeepHeader, keep_from, kind_keeps}
use Rattle.xc_logs.proofs.FeedFacts.{keep_from-drop}
use Rattle.xc_model.specs.Floors.{Floors, has_closed, has_started, starts}
use Rattle.xc_model.specs.Stands.{TargetTablet, TakesAll, past}
use Rattle.xc_model.proofs.Batches.{count-kept}
use Rattle.xc_tablet.specs.Batch.{CanTake, FitsFeed as TabletFits, records_keep, splits_end}
use Rattle.xc_change.specs.declared.batch.Batch.{Batch}
use Rattle.xc_change.specs.Reader.{FitsFeed, IsBatch}
use Rattle.xc_poller.specs.Poller.{PollerState}
use Rattle.xc_poller.specs.Polled.{CanPoll, Looked, Took}

-- ---- records that keep their header

kind-split : (header : Header) (pair : Option (Header × Header)) (ends : Bool) (r : Record) → kind_keeps header pair ends r.kind ≡ true
    → is_split r.kind ≡ ends
kind-split header pair ends r e =
    (booleans_Decides (is_split r.kind) ends).0 (and_parts (beq (is_split r.kind) ends) (keeps_header header pair r.kind) e).0

abbrev reaches : Option (Header × Header) → ℕ → ℕ → ℕ → Bool
reaches pair count number n = is_some pair && (nat_le number count && nat_lt count (number + n))

step-any : (ends some : Bool) (number count n : ℕ) → ends ≡ (number == count && some)
    → (ends || (some && (nat_le (number + 1) count && nat_lt count (number + 1 + n)))) ≡
    (some && (nat_le number count && nat_lt count (number + suc n)))
step-any ends some number count n e = grind (arith, nat_tests)

-- one of the records is a split where they reach the end of a tablet with children
any-split : (header : Header) (pair : Option (Header × Header)) (count number : ℕ) (rs : List Record)
    → keep_from header pair count number rs ≡ true
    → list_any (λ r. is_split r.kind) rs ≡ reaches pair count number (length rs)
any-split header pair count number [] e = grind (arith, nat_tests)
any-split header pair count number (r ∷ rs) e =
    let parts = and_parts (kind_keeps header pair (number == count && is_some pair) r.kind) (keep_from header pair count (number + 1) rs) e
    in
    ap (λ b. is_split r.kind || b) (any-split header pair count (number + 1) rs parts.1)
    ∙ step-any (is_split r.kind) (is_some pair) number count (length rs) (kind-split header pair _ r parts.0)

keep-all : (header : Header) (pair : Option (Header × Header)) (count number : ℕ) (rs : List Record)
    → keep_from header pair count number rs ≡ true
    → list_all (λ r. keeps_header header pair r.kind) rs ≡ true
keep-all header pair count number [] e = refl
keep-all header pair count number (r ∷ rs) e =
    let parts = and_parts (kind_keeps header pair (number == count && is_some pair) r.kind) (keep_from header pair count (number + 1) rs) e
    in
    and_from _ _ (and_parts (beq (is_split r.kind) (number == count && is_some pair)) (keeps_header header pair r.kind) parts.0).1
    (keep-all header pair count (number + 1) rs parts.1)

-- the header of the tablet
record Kept (headers : List Header) (counts : List ℕ) (id from : ℕ) (rs : List Record) : Type 0 where
  header : Header
  there : slice_get headers id ≡ Some header
  keep : keep_from header (children headers id) (slice_index counts id) from rs ≡ true

kept-by : (headers : List Header) (counts : List ℕ) (id from : ℕ) (rs : List Record) → id < length headers
    → KeepHeader headers counts id from rs → Kept headers counts id from rs
kept-by headers counts id from rs within keep = go (slice_get_cases headers id).1
  where
    go : ((h : Header) × (id < length headers) × (slice_get headers id ≡ Some h) × (get_or headers id h ≡ h)) ⊎
        ((length headers ≤ id) × (slice_get headers id ≡ None)) → Kept headers counts id from rs
    go (inl (h, w, there, g)) = record { header = h; there = there; keep = rw there at keep }
    go (inr (past, none)) = absurd (omega arith)

records-keep : (headers : List Header) (counts : List ℕ) (id from : ℕ) (rs : List Record) → Kept headers counts id from rs
    → records_keep headers id rs ≡ true
records-keep headers counts id from rs k = rw k.there (keep-all k.header (children headers id) (slice_index counts id) from rs k.keep)

splits-end : (rs : List Record) → ((i : ℕ) (r : Record) → slice_get rs i ≡ Some r → is_split r.kind ≡ true → i + 1 ≡ length rs)
    → splits_end rs ≡ true
splits-end [] h = refl
splits-end (r ∷ rs) h =
    and_from _ _ (go (is_split r.kind) refl (h zero r refl))
    (splits-end rs (λ i x there s. let e : suc i + 1 ≡ length (r ∷ rs) = h (suc i) x there s in omega arith))
  where
    go : (b : Bool) → is_split r.kind ≡ b → (is_split r.kind ≡ true → zero + 1 ≡ length (r ∷ rs))
        → (if b then length rs == 0 else true) ≡ true
    go true e last = let n : zero + 1 ≡ length (r ∷ rs) = last e in eq-eqb (length rs) 0 (omega arith)
    go false e last = refl

-- ---- a batch of a poller

-- what is known of a batch, before it is delivered to the tablet x
pub record Offered (headers : List Header) (counts : List ℕ) (max : ℕ) (old looked : PollerState) (batch : Batch) : Type 0 where
  pub small : slice_index counts old.reader.id ≤ 2 ^ 20
  pub id : old.reader.id ≡ old.header.id
  pub cursor : old.reader.cursor ≤ old.applied
  pub started : old.is_open ≡ true
  pub looked_is : Looked old looked
  pub given : IsBatch headers counts max old.reader looked.reader batch
  pub fits : FitsFeed headers counts looked.reader

-- it is within the feed's records
offered-within : (headers : List Header) (counts : List ℕ) (max : ℕ) (old looked : PollerState) (batch : Batch)
    → Offered headers counts max old looked batch
    → (old.reader.cursor + length batch.records ≤ slice_index counts old.reader.id) × (old.reader.id < length headers)
offered-within headers counts max old looked batch o =
    let same = o.looked_is.reader.id in
    let high : looked.reader.checked ≤ slice_index counts old.reader.id =
    subst (λ i. looked.reader.checked ≤ slice_index counts i) same o.fits.within in
    let within : old.reader.id < length headers = subst (λ i. i < length headers) same o.fits.tablet in
    let low = o.given.checked in
    (omega arith, within)

closed-through : (headers : List Header) (counts : List ℕ) (x : TargetTablet) (s to : ℕ) → TabletFits headers counts x
    → (is_some (children headers s) ≡ false → has_closed x.floors s ≡ false)
    → s < length headers → to ≤ slice_index counts s → has_closed x.floors s ≡ true → to ≤ slice_index x.places s
closed-through headers counts x s to fits childless within high closed = go (is_some (children headers s)) refl
  where
    go : (b : Bool) → is_some (children headers s) ≡ b → to ≤ slice_index x.places s
    go true e = let all = (fits.ends s within e).0 closed in omega arith
    go false e = let none = childless e in cc

pub can-take : (headers : List Header) (counts : List ℕ) (max : ℕ) (old looked : PollerState) (batch : Batch) (x : TargetTablet)
    → Offered headers counts max old looked batch → CanPoll headers counts old x
    → CanTake old.header.id batch.from batch.records x
can-take headers counts max old looked batch x o p =
    let small = o.small in
    let cursor = o.cursor in
    let applied = p.applied in
    let from = o.given.from in
    let within = offered-within headers counts max old looked batch o in
    let high = within.0 in
    let kept = kept-by headers counts old.reader.id batch.from batch.records within.1 o.given.keep in
    let keep : records_keep headers old.header.id batch.records ≡ true =
    subst (λ i. records_keep headers i batch.records ≡ true) o.id
    (records-keep headers counts old.reader.id batch.from batch.records kept) in
    let is_id : slice_index x.places old.header.id ≡ slice_index x.places old.reader.id = ap (slice_index x.places) (sym o.id) in
    record {
      first = omega arith;
      next = omega arith;
      short = omega arith;
      closed = λ closed.
          subst (λ i. has_closed x.floors i ≡ true → batch.from - 1 + length batch.records ≤ slice_index x.places i) o.id
          (closed-through headers counts x old.reader.id (batch.from - 1 + length batch.records) p.fits (p.childless old.reader.id) within.1
          (omega arith)) closed;
      started = p.started o.started;
      keep = ap (λ hs. records_keep hs old.header.id batch.records) p.fits.same ∙ keep;
      ends = splits-end batch.records (λ i r there split. (o.given.splits i r there split).0);
    }

-- ---- after the batch

flags-kept : (s : ℕ) (rs : List Record) (x y : TargetTablet) → TakesAll s rs x y → length y.floors.closed ≡ length x.floors.closed
flags-kept s [] x y t = ap (λ (w : TargetTablet). length w.floors.closed) t
flags-kept s (r ∷ rs) x y t = flags-kept s rs t.0 y t.1.1 ∙ ap (λ (f : Floors). length f.closed) t.1.0.floors ∙ count-kept s r.kind x.floors

started-kept : (f g : Floors) (s : ℕ) → g.headers ≡ f.headers → ((i : ℕ) → has_closed f i ≡ true → has_closed g i ≡ true)
    → has_started f s ≡ true → has_started g s ≡ true
started-kept f g s same more h = ap (λ hs. option_map_or (starts g) (slice_get hs s) false) same ∙ go (slice_get f.headers s) h
  where
    by-parent : (o : Option ℕ) → option_map_or (has_closed f) o true ≡ true → option_map_or (has_closed g) o true ≡ true
    by-parent None h = refl
    by-parent (Some i) h = more i h

    go : (o : Option Header) → option_map_or (starts f) o false ≡ true → option_map_or (starts g) o false ≡ true
    go None h = h
    go (Some header) h = by-parent header.parent h

same-or-not : (s i : ℕ) → (s ≡ i) ⊎ (s ≢ i)
same-or-not s i = elim (cases_lt s i) [
  | inl l ↦ inr (λ e. omega arith)
  | inr l ↦ elim (cases_lt i s) [ inl m ↦ inr (λ e. omega arith) | inr m ↦ inl (omega arith) ]
]

-- a tablet with children was closed, or the records reach the feed's end
ends-same : (was is : Bool) (place count from n : ℕ)
    → is ≡ (was || (true && (nat_le (place + 1) count && nat_lt count (place + 1 + (n - (place + 1 - from))))))
    → (was ≡ true → place ≡ count) → (place ≡ count → was ≡ true) → 1 ≤ from → from ≤ place + 1 → place ≤ count → from - 1 + n ≤ count
    → (is ≡ true → max place (from - 1 + n) ≡ count) × (max place (from - 1 + n) ≡ count → is ≡ true)
ends-same true is place count from n e to back one first low high = (λ h. let at = to refl in omega arith, λ h. e)
ends-same false is place count from n e to back one first low high = (
  λ h. grind (arith, nat_tests),
  λ h. elim (cases_lt place count) [
    | inl l ↦ grind (arith, nat_tests)
    | inr l ↦ let at : place ≡ count = omega arith in let no = back at in cc
  ],
)

module _ (headers : List Header) (counts : List ℕ) (max' : ℕ) (old looked new : PollerState) (batch : Batch) (x y : TargetTablet)
    (o : Offered headers counts max' old looked batch) (p : CanPoll headers counts old x)
    (t : Took old.header.id batch.from batch.records x y) where
  abbrev id : ℕ
  id = old.header.id

  abbrev place : ℕ
  place = slice_index x.places old.header.id

  within : (old.reader.cursor + length batch.records ≤ slice_index counts old.header.id) × (old.header.id < length headers)
  within = subst (λ i. (old.reader.cursor + length batch.records ≤ slice_index counts i) × (i < length headers)) o.id
      (offered-within headers counts max' old looked batch o)

  from-next : batch.from ≤ place + 1
  from-next = let a = o.given.from in let b = o.cursor in let d = p.applied in omega arith

  kept : Kept headers counts old.header.id batch.from batch.records
  kept = subst (λ i. Kept headers counts i batch.from batch.records) o.id
      (kept-by headers counts old.reader.id batch.from batch.records (offered-within headers counts max' old looked batch o).1 o.given.keep)

  closed-now : has_closed y.floors id ≡
      (has_closed x.floors id || reaches (children headers id) (slice_index counts id) (place + 1)
      (length batch.records - (place + 1 - batch.from)))
  closed-now =
      let k = place + 1 - batch.from in
      let low : id < length x.floors.closed = let a = p.flags in let b = within.1 in omega arith in
      let first = from-next in
      let on : batch.from + k ≡ place + 1 = omega arith in
      t.moved.splits low
      ∙ ap (λ b. has_closed x.floors id || b)
      (any-split kept.header (children headers id) (slice_index counts id) (batch.from + k) (drop k batch.records)
      (keep_from-drop kept.header (children headers id) (slice_index counts id) batch.from k batch.records kept.keep)
      ∙ ap (λ n. reaches (children headers id) (slice_index counts id) (batch.from + k) n) (length-drop k batch.records)
      ∙ ap (λ n. reaches (children headers id) (slice_index counts id) n (length batch.records - k)) on)

  closed-more : (i : ℕ) → has_closed x.floors i ≡ true → has_closed y.floors i ≡ true
  closed-more i e = elim (same-or-not i id) [
    | inl s ↦ let here : has_closed x.floors id ≡ true = subst (λ j. has_closed x.floors j ≡ true) s e in
        subst (λ j. has_closed y.floors j ≡ true) (sym s) (closed-now
        ∙ ap (λ b. b || reaches (children headers id) (slice_index counts id) (place + 1)
        (length batch.records - (place + 1 - batch.from))) here)
    | inr n ↦ t.moved.closed i n ∙ e
  ]

  place-now : slice_index y.places id ≤ slice_index counts id
  place-now = let a = t.moved.place in let b = within.0 in let d = o.given.from in let e = p.fits.within id in omega arith

  ends-here : IsSome (children headers id)
      → (has_closed y.floors id ≡ true
      → slice_index y.places id ≡ slice_index counts id) × (slice_index y.places id ≡ slice_index counts id → has_closed y.floors id ≡ true)
  ends-here kids =
      let from = o.given.from in
      let high = within.0 in
      let was = p.fits.ends id within.1 kids in
      let low = p.fits.within id in
      let first = from-next in
      let now : has_closed y.floors id ≡
      (has_closed x.floors id ||
      (true && (nat_le (place + 1) (slice_index counts id) && nat_lt (slice_index counts id)
      (place + 1 + (length batch.records - (place + 1 - batch.from)))))) =
      closed-now
      ∙ ap (λ b. has_closed x.floors id ||
      (b && (nat_le (place + 1) (slice_index counts id) && nat_lt (slice_index counts id)
      (place + 1 + (length batch.records - (place + 1 - batch.from)))))) kids in
      let both = ends-same (has_closed x.floors id) (has_closed y.floors id) place (slice_index counts id) batch.from (length batch.records)
      now was.0 was.1 (omega arith) first low (omega arith) in
      (λ e. t.moved.place ∙ both.0 e, λ e. both.1 (sym t.moved.place ∙ e))

  childless-here : is_some (children headers id) ≡ false → has_closed y.floors id ≡ false
  childless-here none =
      closed-now
      ∙ ap (λ b. b || reaches (children headers id) (slice_index counts id) (place + 1)
      (length batch.records - (place + 1 - batch.from))) (p.childless id none)
      ∙ ap (λ b. b &&
      (nat_le (place + 1) (slice_index counts id) && nat_lt (slice_index counts id)
      (place + 1 + (length batch.records - (place + 1 - batch.from))))) none

  pub still-took : new.header ≡ old.header → new.is_open ≡ old.is_open
      → new.applied ≤ max old.applied (old.reader.cursor + length batch.records) → CanPoll headers counts new y
  still-took header is_open applied =
      let number : new.header.id ≡ id = ap (λ (h : Header). h.id) header in
      record {
        fits = record {
          same = t.moved.headers ∙ p.fits.same;
          within = λ s. elim (same-or-not s id) [
            | inl e ↦ subst (λ i. slice_index y.places i ≤ slice_index counts i) (sym e) place-now
            | inr n ↦ let a = t.moved.places s n in let b = p.fits.within s in omega arith
          ];
          ends = λ s low kids. elim (same-or-not s id) [
            | inl e ↦ subst
                (λ i. IsSome (children headers i) → (has_closed y.floors i ≡ true → slice_index y.places i ≡ slice_index counts i) ×
                (slice_index y.places i ≡ slice_index counts i → has_closed y.floors i ≡ true)) (sym e) ends-here kids
            | inr n ↦ let was =
                p.fits.ends s low kids in (
                  λ h. t.moved.places s n ∙ was.0 (sym (t.moved.closed s n) ∙ h),
                  λ h. t.moved.closed s n
                      ∙ was.1 (sym (t.moved.places s n) ∙ h),
                )
          ];
        };
        flags = flags-kept id (past place batch.from batch.records) x y t.taken ∙ p.flags;
        childless = λ s none. elim (same-or-not s id) [
          | inl e ↦ subst (λ i. is_some (children headers i) ≡ false → has_closed y.floors i ≡ false) (sym e) childless-here none
          | inr n ↦ t.moved.closed s n ∙ p.childless s none
        ];
        applied = subst (λ i. new.applied ≤ slice_index y.places i) (sym number)
            (let a = t.moved.place in let b = o.given.from in let d = p.applied in omega arith);
        started = λ e. subst (λ i. has_started y.floors i ≡ true) (sym number)
            (started-kept x.floors y.floors id t.moved.headers closed-more (p.started (sym is_open ∙ e)));
      }

pub still-same : (headers : List Header) (counts : List ℕ) (old new : PollerState) (x : TargetTablet) → CanPoll headers counts old x
    → new.header ≡ old.header → new.is_open ≡ old.is_open → new.applied ≤ old.applied
    → CanPoll headers counts new x
still-same headers counts old new x p header is_open applied =
    let number : new.header.id ≡ old.header.id = ap (λ (h : Header). h.id) header in
    record {
      fits = p.fits;
      flags = p.flags;
      childless = p.childless;
      applied = subst (λ i. new.applied ≤ slice_index x.places i) (sym number) (let a = p.applied in omega arith);
      started = λ e. subst (λ i. has_started x.floors i ≡ true) (sym number) (p.started (sym is_open ∙ e));
    }
