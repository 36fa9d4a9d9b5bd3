-- A poller and the accepted records of its tablet.
use Rattle.std.proofs.Common.{◌≡◌, ℕ, zero, suc, ◌+◌, ◌-◌, ◌<◌, ◌≤◌, max, min, Bool, true, false, List, [], ◌∷◌, ◌++◌, length, take, drop}
use Rattle.std.proofs.Common.{Option, Some, None, refl, sym, ap, ◌∙◌, subst, arith, inl, inr, append-nil, append_assoc}
use Rattle.std.specs.Prelude.{◌==◌, ◌&&◌, fold, is_none, slice_get}
use Rattle.std.specs.Option.{option_map_or}
use Rattle.std.proofs.lemmas.Bool.{cases_lt, and_parts, eqb-true}
use Rattle.std.proofs.lemmas.Bool.Decides.{nat_tests}
use Rattle.std.proofs.lemmas.List.{length-drop, drop-drop, drop-take, drop_all, take_all}
use Rattle.std.proofs.lemmas.List.Sums.{fold-append}
use Rattle.std.proofs.Math.Seq.{take-add}
use Rattle.xc_record.specs.declared.record.Header.{Header}
use Rattle.xc_record.specs.declared.record.Record.{Record}
use Rattle.xc_record.specs.declared.record.Tablet.{Tablet}
use Rattle.xc_record.specs.declared.record.Logs.{Logs}
use Rattle.xc_record.specs.Order.{Progress, break_of, after, accepted_from, safe_value}
use Rattle.xc_record.specs.Accepted.{AcceptedTablet, root_start, child_start, reached_after, accepted_tablet, accepted_tablet_after}
use Rattle.xc_record.specs.Accepted.{accepted_tablets_after, accepted_tablets}
use Rattle.xc_record.specs.SafeTime.{order_at, is_closed_at}
use Rattle.xc_record.specs.Valid.{is_valid}
use Rattle.xc_record.proofs.OrderLaws.{accepted-of-take, accepted-rest}
use Rattle.xc_record.proofs.AcceptedLaws.{IsGrown, accepted_tablets-grown}
use Rattle.xc_model.proofs.SplitEnd.{accepted-head}
use Rattle.xc_model.proofs.Parents.{UnderParent, each-get, each-root, StartsRoot, get-id, get-under}
use Rattle.xc_change.proofs.ReaderLaws.{drop-min}
use Rattle.xc_poller.specs.declared.poller.Poller.TheInside.{Inside as PollerFields}
use Rattle.xc_poller.specs.Poller.{PollerState, StandsFor, before_first, new_poller, is_closed, raised_by, done, Rises}

-- ---- safe values of accepted records

raised-one : (p : Progress) (r : Record) → is_none (break_of p r) ≡ true → raised_by p.floor r ≡ (after p r).floor
unfolding break_of
raised-one p r e = grind (arith, nat_tests)

-- the floor after accepted records is the greatest of the floor before and their safe values
raised-all : (p : Progress) (rs : List Record) → accepted_from p rs ≡ rs → fold raised_by p.floor rs ≡ (fold after p rs).floor
raised-all p [] e = refl
raised-all p (r ∷ rs) e =
    let parts = accepted-head p r rs e in
    ap (λ f. fold raised_by f rs) (raised-one p r parts.0) ∙ raised-all (after p r) rs parts.1

split-breaks : (p : Progress) (r : Record) → p.split ≡ true → is_none (break_of p r) ≡ false
unfolding break_of
split-breaks p r e = grind (arith, nat_tests)

-- ---- a tablet's first records, and the next ones

module _ (b : AcceptedTablet) (grown : IsGrown b) where
  next-in-order : (a k : ℕ) → a ≤ length b.records → accepted_from (order_at b a) (take k (drop a b.records)) ≡ take k (drop a b.records)
  next-in-order a k l =
      let n = ap length grown.in_order in
      accepted-of-take (order_at b a) k (drop a b.records)
      ∙ ap (take k) (accepted-rest b.start a b.records (omega arith) ∙ ap (drop a) grown.in_order)

  order-next : (a k : ℕ) → fold after (order_at b a) (take k (drop a b.records)) ≡ order_at b (a + k)
  order-next a k =
      sym (fold-append after b.start (take a b.records) (take k (drop a b.records)))
      ∙ ap (fold after b.start) (sym (take-add a k b.records))

  pub floor-next : (a k : ℕ) → a ≤ length b.records
      → fold raised_by (order_at b a).floor (take k (drop a b.records)) ≡ (order_at b (a + k)).floor
  floor-next a k l =
      raised-all (order_at b a) (take k (drop a b.records)) (next-in-order a k l) ∙ ap (λ (p : Progress). p.floor) (order-next a k)

  order-end : order_at b (length b.records) ≡ b.end
  order-end = ap (fold after b.start) (take_all (length b.records) b.records (omega arith)) ∙ sym grown.end

  -- nothing is accepted after a split
  split-last : (a : ℕ) → a ≤ length b.records → (order_at b a).split ≡ true → a ≡ length b.records
  split-last a l e =
      let n = ap length grown.in_order in
      let rest : accepted_from (order_at b a) (drop a b.records) ≡ drop a b.records =
      accepted-rest b.start a b.records (omega arith) ∙ ap (drop a) grown.in_order in
      let none = nothing (order_at b a) (drop a b.records) e rest in
      let d = length-drop a b.records in
      omega arith
    where
      nothing : (p : Progress) (rs : List Record) → p.split ≡ true → accepted_from p rs ≡ rs → length rs ≡ 0
      nothing p [] e h = refl
      nothing p (r ∷ rs) e h = let first = split-breaks p r e in cc

grown-at : (logs : Logs) (s : ℕ) (b : AcceptedTablet) → accepted_tablet logs s ≡ Some b → IsGrown b
grown-at logs s b e = each-get IsGrown (accepted_tablets logs) s b (accepted_tablets-grown logs) e

-- ---- closed

pub closed-at : (logs : Logs) (p : PollerState) (b : AcceptedTablet) → p.applied ≤ p.reader.checked → StandsFor logs p b
    → is_closed p ≡ is_closed_at b p.applied
closed-at logs p b low st =
    let grown = grown-at logs p.reader.id b st.reads.tablet in
    let high = st.reads.checked in
    ap (λ (o : Progress). o.split && (p.applied == p.reader.checked)) st.reads.order
    ∙ go grown high (order_at b p.reader.checked).split refl
  where
    go : (grown : IsGrown b) → p.reader.checked ≤ length b.records → (split : Bool) → (order_at b p.reader.checked).split ≡ split
        → ((order_at b p.reader.checked).split && (p.applied == p.reader.checked)) ≡ ((p.applied == length b.records) && b.end.split)
    go grown high true e =
        let all : p.reader.checked ≡ length b.records = split-last b grown p.reader.checked high e in
        let last : b.end.split ≡ true =
        ap (λ (o : Progress). o.split) (sym (order-end b grown)) ∙ ap (λ n. (order_at b n).split) (sym all) ∙ e in
        rw (e, last) (grind (arith, nat_tests))
    go grown high false e = elim (cases_lt p.reader.checked (length b.records)) [
      | inl l ↦ rw e (grind (arith, nat_tests))
      | inr l ↦ let all : p.reader.checked ≡ length b.records = omega arith in
          let last : b.end.split ≡ false =
          ap (λ (o : Progress). o.split) (sym (order-end b grown)) ∙ ap (λ n. (order_at b n).split) (sym all) ∙ e in
          rw (e, last) (grind (arith, nat_tests))
    ]

-- ---- which tablets are reached

-- each is reached as those before it say
abbrev ReachedFrom : List AcceptedTablet → List AcceptedTablet → Type 0
ReachedFrom before [] = Unit {0}
ReachedFrom before (b ∷ bs) = (b.reached ≡ reached_after before b.header.parent) × ReachedFrom (before ++ b ∷ []) bs

reached-push : (before bs : List AcceptedTablet) (b : AcceptedTablet) → ReachedFrom before bs
    → b.reached ≡ reached_after (before ++ bs) b.header.parent → ReachedFrom before (bs ++ b ∷ [])
reached-push before [] b h e = (subst (λ w. b.reached ≡ reached_after w b.header.parent) (append-nil before) e, tt)
reached-push before (c ∷ bs) b h e = (
  h.0,
  reached-push (before ++ c ∷ []) bs b h.1
      (subst (λ w. b.reached ≡ reached_after w b.header.parent) (sym (append_assoc before (c ∷ []) bs)) e),
)

reached-more : (bs : List AcceptedTablet) (ts : List Tablet) → ReachedFrom [] bs → ReachedFrom [] (accepted_tablets_after bs ts)
reached-more bs [] h = h
reached-more bs (t ∷ ts) h =
    reached-more (bs ++ accepted_tablet_after bs t ∷ []) ts (reached-push [] bs (accepted_tablet_after bs t) h refl)

reached-all : (logs : Logs) → ReachedFrom [] (accepted_tablets logs)
unfolding accepted_tablets
reached-all logs = reached-more [] logs.tablets tt

reached-get : (before bs : List AcceptedTablet) (i : ℕ) (b : AcceptedTablet) → ReachedFrom before bs → slice_get bs i ≡ Some b
    → b.reached ≡ reached_after (before ++ take i bs) b.header.parent
reached-get before [] i b h e = cc
reached-get before (c ∷ bs) zero b h e =
    let same : c ≡ b = cc in
    subst (λ w. b.reached ≡ reached_after w b.header.parent) (sym (append-nil before))
    (subst (λ (x : AcceptedTablet). x.reached ≡ reached_after before x.header.parent) same h.0)
reached-get before (c ∷ bs) (suc i) b h e =
    subst (λ w. b.reached ≡ reached_after w b.header.parent) (append_assoc before (c ∷ []) (take i bs))
    (reached-get (before ++ c ∷ []) bs i b h.1 e)

get-take : {A : Type 0} (xs : List A) (n i : ℕ) → i < n → slice_get (take n xs) i ≡ slice_get xs i
get-take [] zero i l = refl
get-take [] (suc n) i l = refl
get-take (x ∷ xs) zero i l = absurd (omega arith)
get-take (x ∷ xs) (suc n) zero l = refl
get-take (x ∷ xs) (suc n) (suc i) l = get-take xs n i (omega arith)

reached-root : (logs : Logs) (s : ℕ) (b : AcceptedTablet) → accepted_tablet logs s ≡ Some b → b.header.parent ≡ None → b.reached ≡ true
reached-root logs s b there root =
    reached-get [] (accepted_tablets logs) s b (reached-all logs) there ∙ ap (reached_after (take s (accepted_tablets logs))) root

reached-child : (logs : Logs) (s p : ℕ) (b above : AcceptedTablet) → accepted_tablet logs s ≡ Some b → b.header.parent ≡ Some p → p < s
    → accepted_tablet logs p ≡ Some above
    → b.reached ≡ (above.reached && above.end.split)
reached-child logs s p b above there parent low at =
    reached-get [] (accepted_tablets logs) s b (reached-all logs) there
    ∙ ap (reached_after (take s (accepted_tablets logs))) parent
    ∙ ap (λ o. option_map_or (λ (d : AcceptedTablet). d.reached && d.end.split) o false) (get-take (accepted_tablets logs) s p low ∙ at)

-- what contracts see of a poller's fields
abbrev pub seen : PollerFields → PollerState
seen p = record {
  header = p.header;
  reader = p.reader;
  acknowledged = p.acknowledged;
  applied = p.applied;
  floor = p.floor;
  is_open = p.is_open;
}

-- ---- a new poller

pub root-stands : (logs : Logs) (header : Header) (b : AcceptedTablet) → header.parent ≡ None → accepted_tablet logs header.id ≡ Some b
    → b.header ≡ header → StandsFor logs (new_poller header) b
root-stands logs header b root there same =
    let none : b.header.parent ≡ None = ap (λ (h : Header). h.parent) same ∙ root in
    let start : b.start ≡ root_start = each-get StartsRoot (accepted_tablets logs) header.id b (each-root logs) there none in
    record {
      reads = record { tablet = there; reached = reached-root logs header.id b there none; checked = omega arith; order = sym start };
      floor = ap (λ (o : Progress). o.floor) (sym start);
    }

-- ---- a poller that is opened

pub opened-stands : (logs : Logs) (parent p : PollerState) (above b : AcceptedTablet) → is_valid logs ≡ true
    → p.header.parent ≡ Some parent.header.id → parent.reader.id ≡ parent.header.id
    → parent.applied ≤ parent.reader.checked → is_closed parent ≡ true → StandsFor logs parent above
    → accepted_tablet logs p.header.id ≡ Some b → b.header ≡ p.header
    → StandsFor logs (before_first p.header (record parent.reader.order { split = false }) parent.floor true) b
opened-stands logs parent p above b valid child id low closed st there same =
    let parent_is : b.header.parent ≡ Some parent.header.id = ap (λ (h : Header). h.parent) same ∙ child in
    let at : accepted_tablet logs parent.header.id ≡ Some above = subst (λ n. accepted_tablet logs n ≡ Some above) id st.reads.tablet in
    let under : UnderParent (accepted_tablets logs) parent.header.id b =
    get-under logs p.header.id b valid there parent.header.id parent_is in
    let number : b.header.id ≡ p.header.id = get-id logs p.header.id b valid there in
    let below = under.below in
    let above_is : under.parent ≡ above = some-same under.parent above (sym under.there ∙ at) in
    let start : b.start ≡ child_start above = under.start ∙ ap child_start above_is in
    let grown = grown-at logs parent.header.id above at in
    let parts = and_parts parent.reader.order.split (parent.applied == parent.reader.checked) closed in
    let applied : parent.applied ≡ parent.reader.checked = eqb-true _ _ parts.1 in
    let split : (order_at above parent.reader.checked).split ≡ true = ap (λ (o : Progress). o.split) (sym st.reads.order) ∙ parts.0 in
    let all : parent.reader.checked ≡ length above.records = split-last above grown parent.reader.checked st.reads.checked split in
    let ends : parent.reader.order ≡ above.end = st.reads.order ∙ ap (order_at above) all ∙ order-end above grown in
    let floor_is : parent.floor ≡ above.end.floor =
    st.floor ∙ ap (λ n. (order_at above n).floor) (applied ∙ all) ∙ ap (λ (o : Progress). o.floor) (order-end above grown) in
    let begins : record parent.reader.order { split = false } ≡ b.start =
    ap (λ (o : Progress). record o { split = false }) ends ∙ sym start in
    record {
      reads = record {
        tablet = there;
        reached = reached-child logs p.header.id parent.header.id b above there parent_is (omega arith) at
            ∙ both above.reached above.end.split st.reads.reached (ap (λ (o : Progress). o.split) (sym ends) ∙ parts.0);
        checked = omega arith;
        order = begins;
      };
      floor = floor_is ∙ ap (λ (o : Progress). o.floor) (sym start);
    }
  where
    some-same : (x y : AcceptedTablet) → Some x ≡ Some y → x ≡ y
    some-same x y e = cc

    both : (x y : Bool) → x ≡ true → y ≡ true → (x && y) ≡ true
    both x y e f = grind arith

-- ---- a batch that was delivered

pub done-stands : (logs : Logs) (p : PollerState) (b : AcceptedTablet) (rs : List Record) → p.reader.cursor ≤ p.applied
    → p.applied ≤ p.reader.checked → p.reader.cursor + length rs ≤ p.reader.checked
    → StandsFor logs p b → rs ≡ take (length rs) (drop p.reader.cursor b.records) → StandsFor logs (done rs p) b
done-stands logs p b rs low applied high st is =
    let r = st.reads in
    let within = r.checked in
    let known = p.applied - p.reader.cursor in
    record {
      reads = record { tablet = r.tablet; reached = r.reached; checked = r.checked; order = r.order };
      floor = elim (cases_lt (p.reader.cursor + length rs) p.applied) [
        | inl l ↦ let same : max p.applied (p.reader.cursor + length rs) ≡ p.applied = omega arith in
            ap (fold raised_by p.floor) (drop_all known rs (omega arith)) ∙ st.floor ∙ ap (λ n. (order_at b n).floor) (sym same)
        | inr l ↦ let same : p.applied + (length rs - known) ≡ max p.applied (p.reader.cursor + length rs) = omega arith in
            let parted : known + (length rs - known) ≡ length rs = omega arith in
            let on : p.reader.cursor + known ≡ p.applied = omega arith in
            let rest : drop known rs ≡ take (length rs - known) (drop p.applied b.records) =
            ap (drop known) is ∙ ap (λ n. drop known (take n (drop p.reader.cursor b.records))) (sym parted)
            ∙ drop-take known (length rs - known) (drop p.reader.cursor b.records)
            ∙ ap (take (length rs - known)) (drop-drop known p.reader.cursor b.records ∙ ap (λ n. drop n b.records) on) in
            ap (λ f. fold raised_by f (drop known rs)) st.floor ∙ ap (fold raised_by (order_at b p.applied).floor) rest
            ∙ floor-next b (grown-at logs p.reader.id b r.tablet) p.applied (length rs - known) (omega arith)
            ∙ ap (λ n. (order_at b n).floor) same
      ];
    }

-- the records past the k first ones, as a slice up to the end
pub last-part : (k : ℕ) (rs : List Record) → take (length rs - min k (length rs)) (drop (min k (length rs)) rs) ≡ drop k rs
last-part k rs =
    let rest = length-drop (min k (length rs)) rs in
    take_all (length rs - min k (length rs)) (drop (min k (length rs)) rs) (omega arith) ∙ drop-min k rs

-- ---- what doesn't fall

raised-above : (floor : ℕ) (rs : List Record) → floor ≤ fold raised_by floor rs
raised-above floor [] = omega arith
raised-above floor (r ∷ rs) = let rest = raised-above (raised_by floor r) rs in let one = by-value (safe_value r.kind) in omega arith
  where
    by-value : (o : Option ℕ) → floor ≤ option_map_or (max floor) o floor
    by-value None = omega arith
    by-value (Some value) = omega arith

pub done-rises : (rs : List Record) (p : PollerState) → Rises p (done rs p)
done-rises rs p = record { applied = omega arith; floor = raised-above p.floor (drop (p.applied - p.reader.cursor) rs) }
