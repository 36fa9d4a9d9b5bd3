-- What a poll makes of a step, whatever the feed tells, and of logs.
use Rattle.std.proofs.Common.{◌≡◌, ℕ, ◌+◌, ◌-◌, ◌≤◌, ◌^◌, max, List, [], ◌∷◌, length, get_or, take, drop, refl, sym, ap, ◌∙◌, subst, arith}
use Rattle.std.proofs.Common.{◌⊎◌, ⊎_elim, inl, inr}
use Rattle.std.specs.Prelude.{Option, Some, None, IfSome, IfOk, IsErrOf, Result, Ok, Err, All, slice_index}
use Rattle.std.specs.List.{AllZip, AllByRecursion}
use Rattle.std.specs.Option.{option_map_or}
use Rattle.std.proofs.lemmas.List.Elements.{All-from_recursion, recursion_from_All}
use Rattle.xc_record.specs.declared.record.Header.{Header}
use Rattle.xc_record.specs.declared.record.Logs.{Logs}
use Rattle.xc_record.specs.declared.session.PollAnswer.{PollAnswer}
use Rattle.xc_record.specs.Accepted.{AcceptedTablet, accepted}
use Rattle.xc_model.specs.Stands.{TargetTablet, StandsFor as TabletStandsFor}
use Rattle.xc_model.proofs.DeliverLaw.{batches-keep}
use Rattle.xc_tablet.specs.Batch.{CanTake}
use Rattle.xc_change.specs.declared.batch.NextFail.{NextFail}
use Rattle.xc_change.specs.declared.batch.NextFail.TheVariants as fail
use Rattle.xc_change.specs.declared.batch.Batch.{Batch}
use Rattle.xc_change.specs.Reader.{FitsFeed}
use Rattle.xc_poller.specs.declared.step.Step.{Step}
use Rattle.xc_poller.specs.declared.step.Step.TheVariants as step
use Rattle.xc_logs.specs.Feed.{IsFeed, SameFeed, CountsFault}
use Rattle.xc_poller.specs.Poller.{PollerState, IsPoller, StandsFor, Rises}
use Rattle.xc_poller.specs.Polled.{CanPoll, CanPollAll, Looked, IsStep, IsStepOf, Took, TookAll, TookFirst, KeepStanding}
use Rattle.xc_poller.specs.Polled.{Moved, Stood, OutOfMemory, IsPolled, IsStopped, PollsLogs, PollCall, answer_of}
use Rattle.xc_poller.specs.Delivery.{CanGive, IsIdle, Refused, IsGiven, IsCutOff}
use Rattle.xc_poller.proofs.BatchLaws.{Offered, can-take, still-took, still-same}
use Rattle.xc_poller.proofs.StandLaws.{done-stands, done-rises}
use Rattle.xc_tablet.proofs.Zips.{zip-refl, zip-with, zip-to, zip-first}

-- what is known of a poll before anything is delivered
pub record Ready (headers : List Header) (counts : List ℕ) (asked : ℕ) (old looked : PollerState) (olds : List TargetTablet) (s : Step) :
    Type 0 where
  pub small : slice_index counts old.reader.id ≤ 2 ^ 20
  pub id : old.reader.id ≡ old.header.id
  pub cursor : old.reader.cursor ≤ old.applied
  pub applied : old.applied ≤ old.reader.checked
  pub looked_is : Looked old looked
  pub fits : FitsFeed headers counts looked.reader
  pub step_is : IsStep headers counts asked old looked s
  pub tablets : All (CanPoll headers counts old) olds

offered : (headers : List Header) (counts : List ℕ) (asked : ℕ) (old looked : PollerState) (olds : List TargetTablet) (batch : Batch)
    → Ready headers counts asked old looked olds (step.Batch batch) → Offered headers counts asked old looked batch
offered headers counts asked old looked olds batch r =
    record {
      small = r.small;
      id = r.id;
      cursor = r.cursor;
      started = r.step_is.0;
      looked_is = r.looked_is;
      given = r.step_is.1;
      fits =
          r.fits;
    }

header-same : (old looked : PollerState) → Looked old looked → looked.header ≡ old.header
header-same old looked l = ap (λ (p : PollerState). p.header) l.is

id-same : (old looked : PollerState) → Looked old looked → looked.header.id ≡ old.header.id
id-same old looked l = ap (λ (p : PollerState). p.header.id) l.is

pub can-give : (headers : List Header) (counts : List ℕ) (asked : ℕ) (old looked : PollerState) (olds : List TargetTablet) (s : Step)
    → Ready headers counts asked old looked olds s → CanGive looked olds s
can-give headers counts asked old looked olds (step.Batch batch) r =
    let o = offered headers counts asked old looked olds batch r in
    record {
      next = o.given.from ∙ ap (λ n. n + 1) (sym r.looked_is.reader.cursor);
      checked = subst (λ n. n + length batch.records ≤ looked.reader.checked) (sym r.looked_is.reader.cursor) o.given.checked;
      tablets = λ k d low. subst (λ i. CanTake i batch.from batch.records (get_or olds k d)) (sym (id-same old looked r.looked_is))
          (can-take headers counts asked old looked batch (get_or olds k d) o (r.tablets k d low));
    }
can-give headers counts asked old looked olds s r = tt

-- ---- the tablets and the reader afterwards

abbrev TookOrStayed : PollerState → PollerState → Batch → TargetTablet → TargetTablet → Type 0
TookOrStayed looked new batch x y = Took looked.header.id batch.from batch.records x y ⊎ ((y ≡ x) × (new.applied ≤ looked.applied))

abbrev TabletsCame : PollerState → PollerState → List TargetTablet → List TargetTablet → Step → Type 0
TabletsCame looked new olds news (step.Batch batch) =
    AllZip (TookOrStayed looked new batch) olds news × (new.applied ≤ max looked.applied (looked.reader.cursor + length batch.records))
TabletsCame looked new olds news s = (news ≡ olds) × (new.applied ≤ looked.applied)

pub record Came (looked new : PollerState) (olds news : List TargetTablet) (s : Step) (result : Result PollAnswer NextFail) : Type 0 where
  pub at : ℕ
  pub reader : new.reader ≡ record looked.reader { cursor = at }
  pub header : new.header ≡ looked.header
  pub is_open : new.is_open ≡ looked.is_open
  pub tablets : TabletsCame looked new olds news s
  pub answer : IfOk result (λ a. a ≡ answer_of s)
  pub quiet : ¬ IsErrOf result fail.ReadFault

idle-came : (looked new : PollerState) (olds news : List TargetTablet) (s : Step) (result : Result PollAnswer NextFail) → new ≡ looked
    → TabletsCame looked new olds news s → IfOk result (λ a. a ≡ answer_of s) → ¬ IsErrOf result fail.ReadFault
    → Came looked new olds news s result
idle-came looked new olds news s result e t answer quiet = record {
  at = looked.reader.cursor;
  reader = ap (λ (p : PollerState). p.reader) e;
  header = ap (λ (p : PollerState). p.header) e;
  is_open = ap (λ (p : PollerState). p.is_open) e;
  tablets = t;
  answer = answer;
  quiet = quiet;
}

-- nothing was given
stayed-came : (looked new : PollerState) (olds news : List TargetTablet) (s : Step) (result : Result PollAnswer NextFail)
    → IsIdle looked new olds news s result → TabletsCame looked new olds news s → Came looked new olds news s result
stayed-came looked new olds news s result g t =
    idle-came looked new olds news s result g.1.0 t (subst (λ r. IfOk r (λ a. a ≡ answer_of s)) (sym g.0) refl)
    (subst (λ r. ¬ IsErrOf r fail.ReadFault) (sym g.0) (λ e. cc))

same-applied : (looked new : PollerState) → new ≡ looked → new.applied ≤ looked.applied
same-applied looked new e = let a = ap (λ (p : PollerState). p.applied) e in omega arith

first-came : (looked new : PollerState) (olds news : List TargetTablet) (batch : Batch) (k : ℕ) → new.applied ≤ looked.applied
    → TookFirst looked.header.id batch.from batch.records k olds news
    → TabletsCame looked new olds news (step.Batch batch)
first-came looked new olds news batch k low t = (
  zip-with (λ x. Unit {0}) (λ x y. Took looked.header.id batch.from batch.records x y ⊎ (y ≡ x)) (TookOrStayed looked new batch) olds news
      (λ x y u h. ⊎_elim (λ a. inl a) (λ e. inr (e, low)) h) (each-unit olds)
      (zip-first (Took looked.header.id batch.from batch.records) k olds news t.first t.rest),
  omega arith,
)
  where
    each-unit : (xs : List TargetTablet) → AllByRecursion (λ x. Unit {0}) xs
    each-unit [] = tt
    each-unit (x ∷ xs) = (tt, each-unit xs)

refused-came : (looked new : PollerState) (olds news : List TargetTablet) (batch : Batch) (e : NextFail)
    → Refused looked new olds news batch e → Came looked new olds news (step.Batch batch) (Err e)
refused-came looked new olds news batch e g =
    idle-came looked new olds news (step.Batch batch) (Err e) g.1.0
    (first-came looked new olds news batch g.1.1.0 (same-applied looked new g.1.0) g.1.1.1) tt (λ f. cc)

pub given-came : (looked new : PollerState) (olds news : List TargetTablet) (s : Step) (result : Result PollAnswer NextFail)
    → IsGiven looked new olds news s result → Came looked new olds news s result
given-came looked new olds news (step.Batch batch) (Ok answer) g = record {
  at = looked.reader.cursor + length batch.records;
  reader = ap (λ (p : PollerState). p.reader) g.1.0;
  header = ap (λ (p : PollerState). p.header) g.1.0;
  is_open = ap (λ (p : PollerState). p.is_open) g.1.0;
  tablets = (
    zip-with (λ x. Unit {0}) (Took looked.header.id batch.from batch.records) (TookOrStayed looked new batch) olds news (λ x y u t. inl t)
        (each-unit olds) g.1.1,
    let a = ap (λ (p : PollerState). p.applied) g.1.0 in omega arith,
  );
  answer = g.0;
  quiet = λ e. cc;
}
  where
    each-unit : (xs : List TargetTablet) → AllByRecursion (λ x. Unit {0}) xs
    each-unit [] = tt
    each-unit (x ∷ xs) = (tt, each-unit xs)
given-came looked new olds news (step.Batch batch) (Err e) g = refused-came looked new olds news batch e g
given-came looked new olds news s result g = stayed-came looked new olds news s result g (g.1.1, same-applied looked new g.1.0)

pub cut-came : (last : ℕ) (looked new : PollerState) (olds news : List TargetTablet) (s : Step) (result : Result PollAnswer NextFail)
    → IsCutOff last looked new olds news s result → Came looked new olds news s result
cut-came last looked new olds news (step.Batch batch) (Ok answer) g = record {
  at = looked.acknowledged;
  reader = ap (λ (p : PollerState). p.reader) g.1.0;
  header = ap (λ (p : PollerState). p.header) g.1.0;
  is_open = ap (λ (p : PollerState). p.is_open) g.1.0;
  tablets = first-came looked new olds news batch (last + 1) (let a = ap (λ (p : PollerState). p.applied) g.1.0 in omega arith) g.1.1;
  answer = g.0;
  quiet = λ e. cc;
}
cut-came last looked new olds news (step.Batch batch) (Err e) g = refused-came looked new olds news batch e g
cut-came last looked new olds news s result g = stayed-came looked new olds news s result g (g.1.1, same-applied looked new g.1.0)

-- ---- whatever the feed tells

tablets-still : (headers : List Header) (counts : List ℕ) (asked : ℕ) (old looked new : PollerState) (olds news : List TargetTablet)
    (s : Step) (result : Result PollAnswer NextFail)
    → Ready headers counts asked old looked olds s → Came looked new olds news s result
    → All (CanPoll headers counts new) news
tablets-still headers counts asked old looked new olds news s result r c =
    All-from_recursion (CanPoll headers counts new) news (go s r c.tablets)
  where
    header : new.header ≡ old.header
    header = c.header ∙ header-same old looked r.looked_is

    is_open : new.is_open ≡ old.is_open
    is_open = c.is_open ∙ ap (λ (p : PollerState). p.is_open) r.looked_is.is

    applied : looked.applied ≡ old.applied
    applied = ap (λ (p : PollerState). p.applied) r.looked_is.is

    before : AllByRecursion (CanPoll headers counts old) olds
    before = recursion_from_All (CanPoll headers counts old) olds r.tablets

    same : (news ≡ olds) × (new.applied ≤ looked.applied) → AllByRecursion (CanPoll headers counts new) news
    same h =
        let low : new.applied ≤ old.applied = let a = applied in let b = h.1 in omega arith in
        subst (AllByRecursion (CanPoll headers counts new)) (sym h.0)
        (zip-to (CanPoll headers counts old) (λ x y. y ≡ x) (CanPoll headers counts new) olds olds
        (λ x y p e. subst (CanPoll headers counts new) (sym e) (still-same headers counts old new x p header is_open low)) before
        (zip-refl (λ x y. y ≡ x) olds (λ x. refl)))

    go : (s : Step) → Ready headers counts asked old looked olds s → TabletsCame looked new olds news s
        → AllByRecursion (CanPoll headers counts new) news
    go (step.Batch batch) r t =
        let o = offered headers counts asked old looked olds batch r in
        let most : new.applied ≤ max old.applied (old.reader.cursor + length batch.records) =
        let a = applied in let b = t.1 in let d = r.looked_is.reader.cursor in omega arith in
        zip-to (CanPoll headers counts old) (TookOrStayed looked new batch) (CanPoll headers counts new) olds news
        (λ x y p h. ⊎_elim
        (λ took. still-took headers counts asked old looked new batch x y o p
        (subst (λ i. Took i batch.from batch.records x y) (id-same old looked r.looked_is) took) header is_open most)
        (λ e. let low : new.applied ≤ old.applied = let a = applied in let b = e.1 in omega arith in
        subst (CanPoll headers counts new) (sym e.0) (still-same headers counts old new x p header is_open low)) h) before t.0
    go s r t = same t

can-again : (headers : List Header) (counts : List ℕ) (asked : ℕ) (old looked new : PollerState) (olds news : List TargetTablet) (s : Step)
    (result : Result PollAnswer NextFail)
    → Ready headers counts asked old looked olds s → Came looked new olds news s result → CanPollAll headers counts new news
can-again headers counts asked old looked new olds news s result r c = record {
  reader = subst (FitsFeed headers counts) (sym c.reader) (record { tablet = r.fits.tablet; within = r.fits.within; split = r.fits.split });
  tablets = tablets-still headers counts asked old looked new olds news s result r c;
}

stood : (headers : List Header) (counts : List ℕ) (asked : ℕ) (old looked new : PollerState) (olds news : List TargetTablet) (s : Step)
    → Ready headers counts asked old looked olds s → new ≡ looked → news ≡ olds
    → Stood headers counts asked old new olds news s
stood headers counts asked old looked new olds news s r e t = record {
  looked = subst (Looked old) (sym e) r.looked_is;
  tablets = t;
  step = subst (λ p. IsStep headers counts asked old p s) (sym e) r.step_is;
}

moved : (headers : List Header) (counts : List ℕ) (asked : ℕ) (old looked : PollerState) (olds : List TargetTablet) (batch : Batch)
    → Ready headers counts asked old looked olds (step.Batch batch) → Moved headers counts asked old looked batch
moved headers counts asked old looked olds batch r = record { started = r.step_is.0; reader = r.looked_is; given = r.step_is.1 }

refused : (headers : List Header) (counts : List ℕ) (asked : ℕ) (old looked new : PollerState) (olds news : List TargetTablet)
    (batch : Batch) (e : NextFail)
    → Ready headers counts asked old looked olds (step.Batch batch) → Refused looked new olds news batch e
    → OutOfMemory headers counts asked old new olds news
refused headers counts asked old looked new olds news batch e r g =
    inr (
      batch,
      (
        g.1.1.0,
        record {
          moved = subst (λ p. Moved headers counts asked old p batch) (sym g.1.0) (moved headers counts asked old looked olds batch r);
          tablets = subst (λ i. TookFirst i batch.from batch.records g.1.1.0 olds news) (id-same old looked r.looked_is) g.1.1.1;
        },
      ),
    )

pub polled : (headers : List Header) (counts : List ℕ) (asked : ℕ) (old looked new : PollerState) (olds news : List TargetTablet) (s : Step)
    (result : Result PollAnswer NextFail)
    → Ready headers counts asked old looked olds s → IsGiven looked new olds news s result
    → IsPolled headers counts asked old new olds news result
polled headers counts asked old looked new olds news (step.Batch batch) (Ok answer) r g =
    subst (λ a. IsPolled headers counts asked old new olds news (Ok a)) (sym g.0) (
      looked,
      (
        batch,
        (
          moved headers counts asked old looked olds batch r,
          (refl, (g.1.0, subst (λ i. TookAll i batch.from batch.records olds news) (id-same old looked r.looked_is) g.1.1)),
        ),
      ),
    )
polled headers counts asked old looked new olds news (step.Batch batch) (Err e) r g =
    subst (λ a. IsPolled headers counts asked old new olds news (Err a)) (sym g.0)
    (refused headers counts asked old looked new olds news batch e r g)
polled headers counts asked old looked new olds news s result r g =
    subst (IsPolled headers counts asked old new olds news) (sym g.0)
    (stood headers counts asked old looked new olds news s r g.1.0 g.1.1)

pub stopped : (headers : List Header) (counts : List ℕ) (asked last : ℕ) (old looked new : PollerState) (olds news : List TargetTablet)
    (s : Step) (result : Result PollAnswer NextFail)
    → Ready headers counts asked old looked olds s → IsCutOff last looked new olds news s result
    → IsStopped headers counts asked last old new olds news result
stopped headers counts asked last old looked new olds news (step.Batch batch) (Ok answer) r g =
    subst (λ a. IsStopped headers counts asked last old new olds news (Ok a)) (sym g.0) (
      looked,
      (
        batch,
        (
          moved headers counts asked old looked olds batch r,
          (
            refl,
            (
              g.1.0,
              subst (λ i. TookFirst i batch.from batch.records (last + 1) olds news) (id-same old looked r.looked_is)
                  g.1.1,
            ),
          ),
        ),
      ),
    )
stopped headers counts asked last old looked new olds news (step.Batch batch) (Err e) r g =
    subst (λ a. IsStopped headers counts asked last old new olds news (Err a)) (sym g.0)
    (refused headers counts asked old looked new olds news batch e r g)
stopped headers counts asked last old looked new olds news s result r g =
    subst (IsStopped headers counts asked last old new olds news) (sym g.0)
    (stood headers counts asked old looked new olds news s r g.1.0 g.1.1)

-- ---- where the feed tells its logs

unmoved : (logs : Logs) (olds news : List TargetTablet) → news ≡ olds → KeepStanding logs olds news
unmoved logs olds news e =
    subst (KeepStanding logs olds) (sym e)
    (zip-refl (λ x y. (u : ℕ) → TabletStandsFor logs u x → TabletStandsFor logs u y) olds (λ x u stands. stands))

-- the tablets that were delivered to stand as before
tablets-stand : (logs : Logs) (b : AcceptedTablet) (headers : List Header) (counts : List ℕ) (asked : ℕ) (old looked new : PollerState)
    (olds news : List TargetTablet) (s : Step)
    → Ready headers counts asked old looked olds s → StandsFor logs old b → IsStepOf logs b asked old s → TabletsCame looked new olds news s
    → KeepStanding logs olds news
tablets-stand logs b headers counts asked old looked new olds news (step.Batch batch) r st of came =
    let o = offered headers counts asked old looked olds batch r in
    let from : batch.from - 1 ≡ old.reader.cursor = let e = o.given.from in omega arith in
    let there : accepted logs old.header.id ≡ b.records =
    subst (λ i. accepted logs i ≡ b.records) r.id (ap (λ q. option_map_or (λ (d : AcceptedTablet). d.records) q []) st.reads.tablet) in
    let are : batch.records ≡ take (length batch.records) (drop (batch.from - 1) (accepted logs old.header.id)) =
    of.records_are ∙ ap (λ n. take (length batch.records) (drop n b.records)) (sym from)
    ∙ ap (λ w. take (length batch.records) (drop (batch.from - 1) w)) (sym there) in
    zip-with (CanPoll headers counts old) (TookOrStayed looked new batch)
    (λ x y. (u : ℕ) → TabletStandsFor logs u x → TabletStandsFor logs u y) olds news
    (λ x y p h u stands. ⊎_elim
    (λ took. let can = can-take headers counts asked old looked batch x o p in
    batches-keep logs x y u old.header.id batch.from batch.records stands can.started can.first can.next are
    (subst (λ i. Took i batch.from batch.records x y) (id-same old looked r.looked_is) took).taken)
    (λ e. subst (TabletStandsFor logs u) (sym e.0) stands) h)
    (recursion_from_All (CanPoll headers counts old) olds r.tablets) came.0
tablets-stand logs b headers counts asked old looked new olds news s r st of came = unmoved logs olds news came.0

pub given-stands : (logs : Logs) (b : AcceptedTablet) (headers : List Header) (counts : List ℕ) (asked : ℕ) (old looked new : PollerState)
    (olds news : List TargetTablet) (s : Step) (result : Result PollAnswer NextFail)
    → Ready headers counts asked old looked olds s → StandsFor logs looked b → IsStepOf logs b asked old s
    → IsGiven looked new olds news s result → StandsFor logs new b
given-stands logs b headers counts asked old looked new olds news (step.Batch batch) (Ok answer) r st of g =
    let same = r.looked_is.reader.cursor in
    let applied = ap (λ (p : PollerState). p.applied) r.looked_is.is in
    let low = r.cursor in
    let high = r.applied in
    let more = r.looked_is.reader.checked in
    let given = r.step_is.1.checked in
    subst (λ (p : PollerState). StandsFor logs p b) (sym g.1.0)
    (done-stands logs looked b batch.records (omega arith) (omega arith) (omega arith) st (of.records_are
    ∙ ap (λ n. take (length batch.records) (drop n b.records)) (sym same)))
given-stands logs b headers counts asked old looked new olds news (step.Batch batch) (Err e) r st of g =
    subst (λ (p : PollerState). StandsFor logs p b) (sym g.1.0) st
given-stands logs b headers counts asked old looked new olds news s result r st of g =
    subst (λ (p : PollerState). StandsFor logs p b) (sym g.1.0) st

pub cut-stands : (logs : Logs) (b : AcceptedTablet) (last : ℕ) (looked new : PollerState) (olds news : List TargetTablet) (s : Step)
    (result : Result PollAnswer NextFail)
    → StandsFor logs looked b → IsCutOff last looked new olds news s result → StandsFor logs new b
cut-stands logs b last looked new olds news (step.Batch batch) (Ok answer) st g =
    let r = st.reads in
    subst (λ (p : PollerState). StandsFor logs p b) (sym g.1.0)
    (record { reads = record { tablet = r.tablet; reached = r.reached; checked = r.checked; order = r.order }; floor = st.floor })
cut-stands logs b last looked new olds news (step.Batch batch) (Err e) st g = subst (λ (p : PollerState). StandsFor logs p b) (sym g.1.0) st
cut-stands logs b last looked new olds news s result st g = subst (λ (p : PollerState). StandsFor logs p b) (sym g.1.0) st

-- what a poll makes of logs, where its step leaves the poller standing for them
polls-logs : (o : Option Logs) (headers : List Header) (counts : List ℕ) (asked : ℕ) (old looked new : PollerState)
    (olds news : List TargetTablet) (s : Step) (result : Result PollAnswer NextFail)
    → Ready headers counts asked old looked olds s → Came looked new olds news s result
    → ((logs : Logs) (b : AcceptedTablet) → StandsFor logs looked b → IsStepOf logs b asked old s → StandsFor logs new b)
    → IfSome o (λ logs. (b : AcceptedTablet) → StandsFor logs old b → StandsFor logs looked b)
    → IfSome o (λ logs. (b : AcceptedTablet) → StandsFor logs old b → IsStepOf logs b asked old s)
    → IfSome o (λ logs. (b : AcceptedTablet) → StandsFor logs old b → PollsLogs logs b asked old new olds news result)
polls-logs None headers counts asked old looked new olds news s result r c stays stood is = tt
polls-logs (Some logs) headers counts asked old looked new olds news s result r c stays stood is = λ b st. record {
  answer = λ is_open. answer-is (answer_of s) _ result c.answer ((is b st).answer is_open);
  stands = stays logs b (stood b st) (is b st);
  tablets = tablets-stand logs b headers counts asked old looked new olds news s r st (is b st) c.tablets;
}
  where
    answer-is : (x y : PollAnswer) (result : Result PollAnswer NextFail) → IfOk result (λ a. a ≡ x) → x ≡ y → IfOk result (λ a. a ≡ y)
    answer-is x y (Ok a) h e = h ∙ e
    answer-is x y (Err f) h e = tt

-- and where it fails before anything is delivered
fails-logs : (o : Option Logs) (asked : ℕ) (old new : PollerState) (xs : List TargetTablet) (e : NextFail)
    → IfSome o (λ logs. (b : AcceptedTablet) → StandsFor logs old b → StandsFor logs new b)
    → IfSome o (λ logs. (b : AcceptedTablet) → StandsFor logs old b → PollsLogs logs b asked old new xs xs (Err e))
fails-logs None asked old new xs e stood = tt
fails-logs (Some logs) asked old new xs e stood =
    λ b st. record { answer = λ is_open. tt; stands = stood b st; tablets = unmoved logs xs xs refl }

-- ---- a call

module _ {Of : Type 0} (headers : Of → List Header) (counts : Of → List ℕ) (logs : Of → Option Logs) (faults : Of → ℕ) (asked : ℕ)
    (before after : Of) (old : PollerState) (olds : List TargetTablet) (same : SameFeed headers counts logs faults before after) where
  can-now : (p : PollerState) (xs : List TargetTablet) → CanPollAll (headers before) (counts before) p xs
      → CanPollAll (headers after) (counts after) p xs
  can-now p xs can = subst (λ hs. CanPollAll hs (counts after) p xs) (sym same.same_headers)
      (subst (λ cs. CanPollAll (headers before) cs p xs) (sym same.same_counts) can)

  pub poll-call : (looked new : PollerState) (news : List TargetTablet) (s : Step) (result : Result PollAnswer NextFail)
      → Ready (headers before) (counts before) asked old looked olds s → Came looked new olds news s result
      → ((told : Logs) (b : AcceptedTablet) → StandsFor told looked b → IsStepOf told b asked old s → StandsFor told new b)
      → IfSome (logs before) (λ told. (b : AcceptedTablet) → StandsFor told old b → StandsFor told looked b)
      → IfSome (logs before) (λ told. (b : AcceptedTablet) → StandsFor told old b → IsStepOf told b asked old s)
      → faults after ≡ faults before
      → PollCall headers counts logs faults asked before after old new olds news result
  poll-call looked new news s result r c stays stood is quiet = record {
    can = can-now new news (can-again (headers before) (counts before) asked old looked new olds news s result r c);
    told = polls-logs (logs before) (headers before) (counts before) asked old looked new olds news s result r c stays stood is;
    fault = record { rose = λ e. absurd (c.quiet e); quiet = λ _. quiet };
    feed = same;
  }

  pub failed-call : (new : PollerState) (e : NextFail) → new ≡ old → CanPollAll (headers before) (counts before) old olds
      → IfSome (logs before) (λ told. (b : AcceptedTablet) → StandsFor told old b → StandsFor told new b)
      → CountsFault (IsErrOf {T = Step} (Err e) fail.ReadFault) (faults before) (faults after)
      → PollCall headers counts logs faults asked before after old new olds olds (Err e)
  failed-call new e is can stood fault = record {
    can = can-now new olds (subst (λ p. CanPollAll (headers before) (counts before) p olds) (sym is) can);
    told = fails-logs (logs before) asked old new olds e stood;
    fault = record { rose = λ h. fault.rose (err-of e fail.ReadFault h); quiet = λ n. fault.quiet (λ h. n (err-of e fail.ReadFault h)) };
    feed = same;
  }
    where
      err-of : {S T : Type 0} (e f : NextFail) → IsErrOf {T = S} (Err e) f → IsErrOf {T = T} (Err e) f
      err-of e f h = let is : e ≡ f = cc in ap Err is

-- ---- the premises, as a call has them

pub ready-of : (headers headers' : List Header) (counts counts' : List ℕ) (asked : ℕ) (logs : Option Logs) (old looked : PollerState)
    (olds : List TargetTablet) (s : Step)
    → IsFeed headers counts logs → IsPoller old → headers' ≡ headers → counts' ≡ counts → Looked old looked
    → FitsFeed headers' counts' looked.reader → IsStep headers counts asked old looked s
    → CanPollAll headers counts old olds → Ready headers counts asked old looked olds s
ready-of headers headers' counts counts' asked logs old looked olds s feed is same_headers same_counts look fits steps can = record {
  small = feed.small old.reader.id;
  id = is.id;
  cursor = is.cursor;
  applied = is.applied;
  looked_is = look;
  fits = subst (λ hs. FitsFeed hs counts looked.reader) same_headers (subst (λ cs. FitsFeed headers' cs looked.reader) same_counts fits);
  step_is = steps;
  tablets = can.tablets;
}

rises-same : (old looked new : PollerState) → Looked old looked → new ≡ looked → Rises old new
rises-same old looked new look e =
    let applied = ap (λ (p : PollerState). p.applied) e ∙ ap (λ (p : PollerState). p.applied) look.is in
    let floor = ap (λ (p : PollerState). p.floor) e ∙ ap (λ (p : PollerState). p.floor) look.is in
    record { applied = omega arith; floor = omega arith }

pub given-rises : (old looked new : PollerState) (olds news : List TargetTablet) (s : Step) (result : Result PollAnswer NextFail)
    → Looked old looked → IsGiven looked new olds news s result → Rises old new
given-rises old looked new olds news (step.Batch batch) (Ok answer) look g =
    let applied = ap (λ (p : PollerState). p.applied) look.is in
    let floor = ap (λ (p : PollerState). p.floor) look.is in
    let up = done-rises batch.records looked in
    let more = up.applied in
    let above = up.floor in
    subst (Rises old) (sym g.1.0) (record { applied = omega arith; floor = omega arith })
given-rises old looked new olds news (step.Batch batch) (Err e) look g = rises-same old looked new look g.1.0
given-rises old looked new olds news s result look g = rises-same old looked new look g.1.0
