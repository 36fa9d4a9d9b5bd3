-- What a reader makes of records that a feed gave.
use Rattle.std.proofs.Common.{◌≡◌, ℕ, zero, suc, ◌+◌, ◌-◌, ◌<◌, ◌≤◌, Bool, true, false, ◌||◌, List, [], ◌∷◌, ◌++◌, length, take, drop}
use Rattle.std.proofs.Common.{min, refl, sym, ap, ◌∙◌, subst, arith, ◌⊎◌, inl, inr}
use Rattle.std.specs.Prelude.{fold, Option, Some, None, if◌then◌else◌, get_or, ◌==◌, ◌&&◌, nat_le, nat_lt, slice_get, slice_index}
use Rattle.std.specs.Prelude.{is_some}
use Rattle.std.specs.Option.{option_map_or}
use Rattle.std.specs.Bool.{beq}
use Rattle.std.specs.Cmp.{booleans_Decides}
use Rattle.std.proofs.lemmas.Bool.{and_parts, cases_lt, eqb-true}
use Rattle.std.proofs.lemmas.Bool.Decides.{nat_tests}
use Rattle.std.proofs.lemmas.List.{length-drop, length-take, drop-drop, drop-take, take-take, take_min, take_all, drop_all}
use Rattle.std.proofs.Math.Seq.{take-add, take-length}
use Rattle.std.proofs.lemmas.List.Sums.{fold-append}
use Rattle.std.proofs.lemmas.Option.{slice_get_cases, slice_get_within, IfSome_then}
use Rattle.xc_record.specs.declared.record.Header.{Header}
use Rattle.xc_record.specs.declared.record.Record.{Record}
use Rattle.xc_record.specs.declared.record.Break.{Break}
use Rattle.xc_record.specs.declared.record.Logs.{Logs}
use Rattle.xc_record.specs.declared.session.PollAnswer.TheVariants as poll
use Rattle.xc_record.specs.Order.{Progress, after, accepted_from, break_of, is_split}
use Rattle.xc_record.specs.Headers.{children}
use Rattle.xc_record.specs.Valid.{keeps_header}
use Rattle.xc_record.specs.Accepted.{AcceptedTablet, halt_from, halt_of, records}
use Rattle.xc_record.proofs.OrderLaws.{accepted-length, accepted-of-take, accepted-first, accepted-rest, halt-rest, halt-of-take}
use Rattle.xc_record.proofs.AcceptedLaws.{accepted-records}
use Rattle.xc_logs.specs.Feed.{IsFeed, KeepHeader, keep_from, kind_keeps, fetched, fetched_count}
use Rattle.xc_logs.proofs.FeedFacts.{keep_from-drop, keep_from-take}
use Rattle.xc_change.specs.declared.batch.Next.{Next}
use Rattle.xc_change.specs.declared.batch.Next.TheVariants.{Batch as Given, AtEnd, Halted}
use Rattle.xc_change.specs.Reader.{ReaderState, FitsFeed, IsNext, ReadsLogs, IsNextOf}
use Rattle.xc_change.specs.Taken.{unchecked, new_ones, good, looked, IsStopped, IsTaken}

pub drop-min : {A : Type 0} (n : ℕ) (xs : List A) → drop (min n (length xs)) xs ≡ drop n xs
drop-min n xs = elim (cases_lt (length xs) n) [
  | inl l ↦ drop_all (min n (length xs)) xs (omega arith) ∙ sym (drop_all n xs (omega arith))
  | inr l ↦ let e : min n (length xs) ≡ n = omega arith in ap (λ i. drop i xs) e
]

-- no more are found than there are
pub new-few : (r : ReaderState) (rs : List Record)
    → length (new_ones r rs) + (r.checked - r.cursor) ≤ length rs ⊎ (length (new_ones r rs) ≡ 0)
new-few r rs =
    let few = accepted-length r.order (unchecked r rs) in
    let rest = length-drop (r.checked - r.cursor) rs in
    elim (cases_lt (length rs) (r.checked - r.cursor)) [ inl l ↦ inr (omega arith) | inr l ↦ inl (omega arith) ]

pub new-within : (r : ReaderState) (rs : List Record) → length (new_ones r rs) ≤ length rs
new-within r rs = elim (new-few r rs) [ inl l ↦ omega arith | inr e ↦ omega arith ]

pub taken-stopped : (r : ReaderState) (rs : List Record) (next : Next) → good r rs ≡ 0
    → IsStopped (r.cursor + 1) (halt_from r.order 1 (unchecked r rs)) next → IsTaken r rs next
taken-stopped r rs (Given batch) none h = absurd h
taken-stopped r rs AtEnd none h = (none, h)
taken-stopped r rs (Halted number kind) none h = (none, h)

-- ---- splits

kind-split : (header : Header) (pair : Option (Header × Header)) (ends : Bool) (r : Record) → kind_keeps header pair ends r.kind ≡ true
    → is_split r.kind ≡ ends
kind-split header pair ends r e =
    (booleans_Decides (is_split r.kind) ends).0 (and_parts (beq (is_split r.kind) ends) (keeps_header header pair r.kind) e).0

-- the record of a number is a split where it is the last one of a tablet with children
keep-at : (header : Header) (pair : Option (Header × Header)) (count number i : ℕ) (r : Record) (rs : List Record)
    → keep_from header pair count number rs ≡ true
    → slice_get rs i ≡ Some r → is_split r.kind ≡ (number + i == count && is_some pair)
keep-at header pair count number i r [] e there = cc
keep-at header pair count number zero r (x ∷ rs) e there =
    let parts = and_parts (kind_keeps header pair (number == count && is_some pair) x.kind) (keep_from header pair count (number + 1) rs) e
    in
    let same : x ≡ r = cc in
    let n : number + 0 ≡ number = omega arith in
    subst (λ (y : Record). is_split y.kind ≡ (number + 0 == count && is_some pair)) same (kind-split header pair _ x parts.0
    ∙ ap (λ m. m == count && is_some pair) (sym n))
keep-at header pair count number (suc i) r (x ∷ rs) e there =
    let parts = and_parts (kind_keeps header pair (number == count && is_some pair) x.kind) (keep_from header pair count (number + 1) rs) e
    in
    let n : number + 1 + i ≡ number + suc i = omega arith in
    keep-at header pair count (number + 1) i r rs parts.1 there ∙ ap (λ m. m == count && is_some pair) n

abbrev reaches : Option (Header × Header) → ℕ → ℕ → ℕ → Bool
reaches pair count number n = is_some pair && (nat_le number count && nat_lt count (number + n))

step-split : (ends some split : Bool) (number count n : ℕ) → ends ≡ (number == count && some)
    → ((if ends then true else split) || (some && (nat_le (number + 1) count && nat_lt count (number + 1 + n)))) ≡
    (split || (some && (nat_le number count && nat_lt count (number + suc n))))
step-split ends some split number count n e = grind (arith, nat_tests)

-- a split is taken where the records reach the end of a tablet with children
split-from : (header : Header) (pair : Option (Header × Header)) (count number : ℕ) (p : Progress) (rs : List Record)
    → keep_from header pair count number rs ≡ true
    → (fold after p rs).split ≡ (p.split || reaches pair count number (length rs))
split-from header pair count number p [] e = grind (arith, nat_tests)
split-from header pair count number p (r ∷ rs) e =
    let parts = and_parts (kind_keeps header pair (number == count && is_some pair) r.kind) (keep_from header pair count (number + 1) rs) e
    in
    split-from header pair count (number + 1) (after p r) rs parts.1
    ∙ step-split (is_split r.kind) (is_some pair) p.split number count (length rs) (kind-split header pair _ r parts.0)

kept-by : (headers : List Header) (counts : List ℕ) (id from : ℕ) (rs : List Record) → id < length headers
    → KeepHeader headers counts id from rs
    → (header : Header) × (keep_from header (children headers id) (slice_index counts id) from rs ≡ true)
kept-by headers counts id from rs within keep = go (slice_get_cases headers id).1
  where
    go : ((h : Header) × (id < length headers) × (slice_get headers id ≡ Some h) × (get_or headers id h ≡ h)) ⊎
        ((length headers ≤ id) × (slice_get headers id ≡ None))
        → (header : Header) × (keep_from header (children headers id) (slice_index counts id) from rs ≡ true)
    go (inl (h, w, there, g)) = (h, rw there at keep)
    go (inr (past, none)) = absurd (omega arith)

-- ---- whatever the feed tells

-- the records that were given: those after the cursor, as many as there are up to `max`
pub record Gave (headers : List Header) (counts : List ℕ) (max : ℕ) (r : ReaderState) (rs : List Record) : Type 0 where
  pub fits : FitsFeed headers counts r
  pub order : r.cursor ≤ r.checked
  pub count : length rs ≡ fetched_count (slice_index counts r.id) (r.cursor + 1) max
  pub keep : KeepHeader headers counts r.id (r.cursor + 1) rs
  pub some : 1 ≤ max

split-new : (some : Bool) (checked a count : ℕ) → checked + a ≤ count
    → ((some && (checked == count)) || (some && (nat_le (checked + 1) count && nat_lt count (checked + 1 + a)))) ≡
    (some && (checked + a == count))
split-new some checked a count l = grind (arith, nat_tests)

pub fits-looked : (headers : List Header) (counts : List ℕ) (max : ℕ) (r : ReaderState) (rs : List Record) → Gave headers counts max r rs
    → FitsFeed headers counts (looked r rs)
fits-looked headers counts max r rs g =
    let count = slice_index counts r.id in
    let known = r.checked - r.cursor in
    let few = new-few r rs in
    let low = g.order in
    let high = g.fits.within in
    let size = g.count in
    let within : r.checked + length (new_ones r rs) ≤ count = elim few [ inl l ↦ omega arith | inr e ↦ omega arith ] in
    let kept = kept-by headers counts r.id (r.cursor + 1) rs g.fits.tablet g.keep in
    let pair = children headers r.id in
    let rest : keep_from kept.0 pair count (r.checked + 1) (unchecked r rs) ≡ true =
    subst (λ n. keep_from kept.0 pair count n (unchecked r rs) ≡ true) (omega arith)
    (keep_from-drop kept.0 pair count (r.cursor + 1) known rs kept.1) in
    let first : new_ones r rs ≡ take (length (new_ones r rs)) (unchecked r rs) =
    sym (take-length (new_ones r rs)) ∙ accepted-first r.order (length (new_ones r rs)) (unchecked r rs) (omega arith) in
    let found : keep_from kept.0 pair count (r.checked + 1) (new_ones r rs) ≡ true =
    subst (λ xs. keep_from kept.0 pair count (r.checked + 1) xs ≡ true) (sym first)
    (keep_from-take kept.0 pair count (r.checked + 1) (length (new_ones r rs)) (unchecked r rs) rest) in
    record {
      tablet = g.fits.tablet;
      within = within;
      split =
          split-from kept.0 pair count (r.checked + 1) r.order (new_ones r rs) found
          ∙ ap (λ b. b || reaches pair count (r.checked + 1) (length (new_ones r rs))) g.fits.split
          ∙ split-new (is_some pair) r.checked (length (new_ones r rs)) count within;
    }

-- a reader that found nothing yet, in an order without a split, fits every feed that has its tablet
pub new-fits : (headers : List Header) (counts : List ℕ) (logs : Option Logs) (id : ℕ) (order : Progress) → IsFeed headers counts logs
    → id < length headers → order.split ≡ false
    → FitsFeed headers counts (record { id = id; cursor = 0; checked = 0; order = order })
new-fits headers counts logs id order feed within unsplit =
    record { tablet = within; within = omega arith; split = unsplit ∙ go (children headers id) refl }
  where
    go : (o : Option (Header × Header)) → children headers id ≡ o → false ≡ (is_some (children headers id) && (0 == slice_index counts id))
    go None e = rw e refl
    go (Some pair) e = let some = feed.parents id within (ap is_some e) in rw e (grind (arith, nat_tests))

-- where nothing is accepted and nothing breaks the order, there is nothing
halt-none : (p : Progress) (n : ℕ) (rs : List Record) → length (accepted_from p rs) ≡ 0 → halt_from p n rs ≡ None → length rs ≡ 0
halt-none p n [] e h = refl
halt-none p n (r ∷ rs) e h = go (break_of p r) refl e h
  where
    go : (o : Option Break) → break_of p r ≡ o → length (accepted_from p (r ∷ rs)) ≡ 0
        → option_map_or (λ kind. Some (n, kind)) (break_of p r) (halt_from (after p r) (n + 1) rs) ≡ None → length (r ∷ rs) ≡ 0
    go (Some kind) b e h = absurd (grind (arith, b))
    go None b e h = absurd (grind (arith, b))

halt-some : (p : Progress) (n m : ℕ) (kind : Break) (rs : List Record) → halt_from p n rs ≡ Some (m, kind) → 1 ≤ length rs
halt-some p n m kind [] h = cc
halt-some p n m kind (r ∷ rs) h = omega arith

pub next-is : (headers : List Header) (counts : List ℕ) (max : ℕ) (r : ReaderState) (rs : List Record) (next : Next)
    → Gave headers counts max r rs → IsTaken r rs next
    → IsNext headers counts max r (looked r rs) next
next-is headers counts max r rs (Given batch) g t =
    let count = slice_index counts r.id in
    let low = g.order in
    let high = g.fits.within in
    let size = g.count in
    let one = g.some in
    let few = new-few r rs in
    let number = t.0 in
    let enough = t.1.0 in
    let is = t.1.1 in
    let n : length batch.records ≡ min (good r rs) (length rs) = ap length is ∙ length-take (good r rs) rs in
    let fits = fits-looked headers counts max r rs g in
    let last = fits.within in
    let kept = kept-by headers counts r.id (r.cursor + 1) rs g.fits.tablet g.keep in
    let pair = children headers r.id in
    let front : keep_from kept.0 pair count (r.cursor + 1) batch.records ≡ true =
    subst (λ xs. keep_from kept.0 pair count (r.cursor + 1) xs ≡ true) (sym is)
    (keep_from-take kept.0 pair count (r.cursor + 1) (good r rs) rs kept.1) in
    let some : 1 ≤ length batch.records = elim few [ inl l ↦ omega arith | inr e ↦ omega arith ] in
    record {
      from = number;
      some = some;
      most = omega arith;
      checked = omega arith;
      keep = keeps-front headers counts r.id (r.cursor + 1) batch.from (good r rs) rs batch.records number is g.keep;
      splits = λ i x there split.
          let ends : true ≡ (r.cursor + 1 + i == count && is_some pair) =
          sym split ∙ keep-at kept.0 pair count (r.cursor + 1) i x batch.records front there in
          let within : i < length batch.records = slice_get_within batch.records i x there in
          let parts = and_parts (r.cursor + 1 + i == count) (is_some pair) (sym ends) in
          let at : r.cursor + 1 + i ≡ count = eqb-true _ _ parts.0 in
          let all : r.checked + length (new_ones r rs) ≡ count = omega arith in (
            omega arith,
            (
              omega arith,
              fits.split ∙ ap (λ b. b && (r.checked + length (new_ones r rs) == count)) parts.1
                  ∙ eqb-refl _ _ all,
            ),
          );
    }
  where
    keeps-front : (headers : List Header) (counts : List ℕ) (id from number k : ℕ) (rs xs : List Record) → number ≡ from → xs ≡ take k rs
        → KeepHeader headers counts id from rs → KeepHeader headers counts id number xs
    keeps-front headers counts id from number k rs xs e is keep =
        rw (e, is) (IfSome_then (slice_get headers id) keep
        (λ header held. keep_from-take header (children headers id) (slice_index counts id) from k rs held))

    eqb-refl : (m n : ℕ) → m ≡ n → (m == n) ≡ true
    eqb-refl m n e = grind (arith, nat_tests)
next-is headers counts max r rs AtEnd g t =
    let low = g.order in
    let high = g.fits.within in
    let size = g.count in
    let one = g.some in
    let none = t.0 in
    let known : r.checked - r.cursor ≡ 0 = omega arith in
    let all : unchecked r rs ≡ rs = ap (λ i. drop i rs) known in
    let empty = halt-none r.order 1 (unchecked r rs) (omega arith) t.1 in
    let rest : length (unchecked r rs) ≡ length rs = ap length all in
    omega arith
next-is headers counts max r rs (Halted number kind) g t =
    let low = g.order in
    let high = g.fits.within in
    let size = g.count in
    let none = t.0 in
    let rest = length-drop (r.checked - r.cursor) rs in
    let some = halt-some r.order 1 t.1.1.0 kind (unchecked r rs) t.1.1.1 in
    (t.1.0, omega arith)

-- ---- where the feed tells its logs

take-of-take : (k n : ℕ) (ys : List Record) → take k (take n ys) ≡ take (min k n) ys
take-of-take k n ys = elim (cases_lt n k) [
  | inl l ↦ let e : min k n ≡ n = omega arith in
      let few = length-take n ys in
      take_all k (take n ys) (omega arith) ∙ ap (λ i. take i ys) (sym e)
  | inr l ↦ let e : min k n ≡ k = omega arith in take-take k n ys l ∙ ap (λ i. take i ys) (sym e)
]

first-of : (xs : List Record) (k max : ℕ) (ys : List Record) → xs ≡ take k (take max ys) → xs ≡ take (length xs) ys
first-of xs k max ys is =
    let one = take-of-take k max ys in
    let n : length xs ≡ min (min k max) (length ys) = ap length (is ∙ one) ∙ length-take (min k max) ys in
    is ∙ one ∙ sym (take_min (min k max) ys) ∙ ap (λ i. take i ys) (sym n)

under : (p : Progress) (c n : ℕ) (rs : List Record) → c + n ≤ length (accepted_from p rs)
    → take n (drop c (accepted_from p rs)) ≡ take n (drop c rs)
under p c n rs h = sym (drop-take c n (accepted_from p rs)) ∙ ap (drop c) (accepted-first p (c + n) rs h) ∙ drop-take c n rs

-- where none is accepted, the number of the break is that of the first record
halt-number : (p : Progress) (n m l : ℕ) (kind : Break) (rs : List Record) → length (accepted_from p rs) ≡ 0
    → halt_from p n rs ≡ Some (m, kind) → halt_from p l rs ≡ Some (l, kind)
halt-number p n m l kind [] e h = cc
halt-number p n m l kind (r ∷ rs) e h = go (break_of p r) refl e h
  where
    go : (o : Option Break) → break_of p r ≡ o → length (accepted_from p (r ∷ rs)) ≡ 0
        → option_map_or (λ kind. Some (n, kind)) (break_of p r) (halt_from (after p r) (n + 1) rs) ≡ Some (m, kind)
        → option_map_or (λ kind. Some (l, kind)) (break_of p r) (halt_from (after p r) (l + 1) rs) ≡ Some (l, kind)
    go (Some other) b e h = let same : other ≡ kind = grind (arith, b) in rw b (ap (λ k. Some (l, k)) same)
    go None b e h = absurd (grind (arith, b))

none-left : (n : ℕ) (xs : List Record) → 1 ≤ n → length (take n xs) ≡ 0 → xs ≡ []
none-left n [] some e = refl
none-left zero (x ∷ xs) some e = absurd (omega arith)
none-left (suc n) (x ∷ xs) some e = absurd (omega arith)

-- the records are those of the logs after the cursor, and the reader found the first accepted ones of the tablet b in order
pub record Told (logs : Logs) (max : ℕ) (r : ReaderState) (rs : List Record) (b : AcceptedTablet) : Type 0 where
  pub reads : ReadsLogs logs r b
  pub order : r.cursor ≤ r.checked
  pub some : 1 ≤ max
  pub given : rs ≡ fetched (records logs r.id) (r.cursor + 1) max

module _ (logs : Logs) (max : ℕ) (r : ReaderState) (rs : List Record) (b : AcceptedTablet) (t : Told logs max r rs b) where
  abbrev all : List Record
  all = records logs r.id

  accepted-are : b.records ≡ accepted_from b.start all
  accepted-are = accepted-records logs r.id b t.reads.tablet t.reads.reached

  within : r.checked ≤ length (accepted_from b.start all)
  within = let h = t.reads.checked in let e = ap length accepted-are in omega arith

  given-are : rs ≡ take max (drop r.cursor all)
  given-are = let e : r.cursor + 1 - 1 ≡ r.cursor = omega arith in t.given ∙ ap (λ i. take max (drop i all)) e

  here : r.order ≡ fold after b.start (take r.checked all)
  here = t.reads.order ∙ ap (λ xs. fold after b.start (take r.checked xs)) accepted-are
      ∙ ap (fold after b.start) (accepted-first b.start r.checked all within)

  unchecked-are : unchecked r rs ≡ take (max - (r.checked - r.cursor)) (drop r.checked all)
  unchecked-are =
      let known = r.checked - r.cursor in
      let low = t.order in
      let on : r.cursor + known ≡ r.checked = omega arith in
      let rest = drop-drop known r.cursor all ∙ ap (λ i. drop i all) on in
      ap (drop known) given-are ∙ elim (cases_lt max known) [
        | inl l ↦ let e : max - known ≡ 0 = omega arith in
            drop_all known (take max (drop r.cursor all)) (let n = length-take max (drop r.cursor all) in omega arith)
            ∙ ap (λ i. take i (drop r.checked all)) (sym e)
        | inr l ↦ let e : known + (max - known) ≡ max = omega arith in
            ap (λ m. drop known (take m (drop r.cursor all))) (sym e) ∙ drop-take known (max - known) (drop r.cursor all)
            ∙ ap (take (max - known)) rest
      ]

  new-are : new_ones r rs ≡ take (max - (r.checked - r.cursor)) (drop r.checked b.records)
  new-are =
      ap (accepted_from r.order) unchecked-are ∙ accepted-of-take r.order (max - (r.checked - r.cursor)) (drop r.checked all)
      ∙ ap (λ p. take (max - (r.checked - r.cursor)) (accepted_from p (drop r.checked all))) here
      ∙ ap (take (max - (r.checked - r.cursor))) (accepted-rest b.start r.checked all within ∙ ap (drop r.checked) (sym accepted-are))

  new-count : length (new_ones r rs) ≡ min (max - (r.checked - r.cursor)) (length b.records - r.checked)
  new-count =
      ap length new-are ∙ length-take (max - (r.checked - r.cursor)) (drop r.checked b.records)
      ∙ ap (min (max - (r.checked - r.cursor))) (length-drop r.checked b.records)

  pub reads-on : ReadsLogs logs (looked r rs) b
  reads-on =
      let a = length (new_ones r rs) in
      let k = max - (r.checked - r.cursor) in
      let h = t.reads.checked in
      let n = new-count in
      let ones : new_ones r rs ≡ take a (drop r.checked b.records) =
      new-are ∙ sym (take_min k (drop r.checked b.records))
      ∙ ap (λ i. take i (drop r.checked b.records)) (ap (min k) (length-drop r.checked b.records) ∙ sym new-count) in
      record {
        tablet = t.reads.tablet;
        reached = t.reads.reached;
        checked = omega arith;
        order =
            ap (λ p. fold after p (new_ones r rs)) t.reads.order
            ∙ sym (fold-append after b.start (take r.checked b.records) (new_ones r rs))
            ∙ ap (λ xs. fold after b.start (take r.checked b.records ++ xs)) ones
            ∙ ap (fold after b.start) (sym (take-add r.checked a b.records));
      }

  -- how many are accepted, among those that were given
  counts-are : (1 ≤ good r rs → min (good r rs) (length rs) ≡ min max (length b.records - r.cursor))
  counts-are some =
      let low = t.order in
      let h = t.reads.checked in
      let n = new-count in
      let e = ap length accepted-are in
      let l = accepted-length b.start all in
      let m = ap length given-are ∙ length-take max (drop r.cursor all) ∙ ap (min max) (length-drop r.cursor all) in
      omega arith

  -- where none is in order, the cursor is behind the last accepted record
  record AtLast : Type 0 where
    known : r.checked - r.cursor ≡ 0
    none : length (new_ones r rs) ≡ 0
    at : r.cursor ≡ r.checked
    last : r.checked ≡ length b.records
    unchecked_is : unchecked r rs ≡ take max (drop r.checked all)
    accepted_is : length (accepted_from r.order (drop r.checked all)) ≡ 0
    halt_is : (n : ℕ) (o : Option (ℕ × Break)) → halt_from r.order (1 + r.checked) (drop r.checked all) ≡ o → halt_of b all ≡ o

  at-last : good r rs ≡ 0 → AtLast
  at-last none =
      let low = t.order in
      let c = t.reads.checked in
      let n = new-count in
      let one = t.some in
      let known : r.checked - r.cursor ≡ 0 = omega arith in
      let k : max - (r.checked - r.cursor) ≡ max = omega arith in
      let last : r.checked ≡ length b.records = omega arith in
      record {
        known = known;
        none = omega arith;
        at = omega arith;
        last = last;
        unchecked_is = unchecked-are ∙ ap (λ i. take i (drop r.checked all)) k;
        accepted_is =
            let e = ap length accepted-are in
            let d = length-drop r.checked (accepted_from b.start all) in
            ap (λ p. length (accepted_from p (drop r.checked all))) here ∙ ap length (accepted-rest b.start r.checked all within)
            ∙ omega arith;
        halt_is = λ n o h.
            ap (λ c. if c then halt_from b.start 1 all else None) t.reads.reached
            ∙ halt-rest b.start 1 r.checked all within
            ∙ ap (λ p. halt_from p (1 + r.checked) (drop r.checked all)) (sym here) ∙ h;
      }

  at-end : good r rs ≡ 0 → halt_from r.order 1 (unchecked r rs) ≡ None → IsNextOf logs b max r AtEnd
  at-end none h =
      let at = at-last none in
      let empty = halt-none r.order 1 (unchecked r rs) at.none h in
      let rest : drop r.checked all ≡ [] = none-left max (drop r.checked all) t.some (ap length (sym at.unchecked_is) ∙ empty) in
      let halts : halt_of b all ≡ None = at.halt_is 1 None (ap (halt_from r.order (1 + r.checked)) rest) in
      let e = ap length accepted-are in
      let l = accepted-length b.start all in
      let d = sym (length-drop r.checked all) ∙ ap length rest in
      let here = at.at in
      let last = at.last in
      let whole : (r.cursor == length all) ≡ true = grind (arith, nat_tests) in
      let behind : (r.cursor == length b.records) ≡ true = grind (arith, nat_tests) in
      record { answer = rw (behind, halts, whole) refl; records_are = refl }

  halted : (number m : ℕ) (kind : Break) → good r rs ≡ 0 → number ≡ r.cursor + 1 → halt_from r.order 1 (unchecked r rs) ≡ Some (m, kind)
      → IsNextOf logs b max r (Halted number kind)
  halted number m kind none is h =
      let at = at-last none in
      let rest : halt_from r.order 1 (drop r.checked all) ≡ Some (m, kind) =
      sym (halt-of-take r.order 1 max (drop r.checked all) t.some (length-0 at.accepted_is))
      ∙ ap (halt_from r.order 1) (sym at.unchecked_is) ∙ h in
      let halts : halt_of b all ≡ Some (1 + r.checked, kind) =
      at.halt_is 1 _ (halt-number r.order 1 m (1 + r.checked) kind (drop r.checked all) at.accepted_is rest) in
      let here = at.at in
      let last = at.last in
      let n : 1 + r.checked ≡ number = omega arith in
      let behind : (r.cursor == length b.records) ≡ true = grind (arith, nat_tests) in
      record { answer = rw (behind, halts) (ap (λ i. poll.Halted i kind) (sym n)); records_are = refl }
    where
      length-0 : {xs : List Record} → length xs ≡ 0 → xs ≡ []
      length-0 {xs = []} e = refl
      length-0 {xs = x ∷ xs} e = absurd (omega arith)

  pub next-of : (next : Next) → IsTaken r rs next → IsNextOf logs b max r next
  next-of (Given batch) h =
      let low = t.order in
      let c = t.reads.checked in
      let e = ap length accepted-are in
      let l = accepted-length b.start all in
      let n = new-count in
      let one = t.some in
      let some = h.1.0 in
      let size : length batch.records ≡ min max (length b.records - r.cursor) =
      ap length h.1.1 ∙ length-take (good r rs) rs ∙ counts-are some in
      let before : r.cursor < length b.records = omega arith in
      let apart : (r.cursor == length b.records) ≡ false = grind (arith, nat_tests) in
      let inside : (r.cursor == length all) ≡ false = grind (arith, nat_tests) in
      record {
        answer = rw (apart, inside) (ap poll.Polled size);
        records_are = batch-are batch.records h.1.1 size;
      }
    where
      batch-are : (xs : List Record) → xs ≡ take (good r rs) rs → length xs ≡ min max (length b.records - r.cursor)
          → xs ≡ take (length xs) (drop r.cursor b.records)
      batch-are xs is size =
          let low = t.order in
          let c = t.reads.checked in
          let e = ap length accepted-are in
          let n : length xs ≤ length b.records - r.cursor = omega arith in
          let whole : xs ≡ take (length xs) (drop r.cursor all) =
          first-of xs (good r rs) max (drop r.cursor all) (is ∙ ap (take (good r rs)) given-are) in
          let front : take (length xs) (drop r.cursor (accepted_from b.start all)) ≡ take (length xs) (drop r.cursor all) =
          under b.start r.cursor (length xs) all (omega arith) in
          whole ∙ sym (ap (λ ys. take (length xs) (drop r.cursor ys)) accepted-are ∙ front)
  next-of AtEnd h = at-end h.0 h.1
  next-of (Halted number kind) h = halted number h.1.1.0 kind h.0 h.1.0 h.1.1.1
