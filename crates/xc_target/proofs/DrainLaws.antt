-- What polls of one source tablet make of a session, until nothing is left to deliver.
use Rattle.std.proofs.Common.{◌≡◌, ◌≢◌, ℕ, zero, suc, ◌-◌, ◌<◌, ◌≤◌, min, Bool, true, false, List, [], ◌∷◌, ◌++◌, length, Option, Some}
use Rattle.std.proofs.Common.{None, Result, Ok, Err, refl, ap, sym, ◌∙◌, subst, arith, inl, inr, ◌⊎◌, ⊎_elim}
use Rattle.std.specs.Prelude.{◌==◌, IfSome, is_none, option_and_then, slice_get, slice_index, slice_set, if◌then◌else◌}
use Rattle.std.specs.Option.{option_map, option_map_or}
use Rattle.std.proofs.lemmas.Bool.{cases_Bool, true≢false, eqb-true, eq-eqb}
use Rattle.std.proofs.lemmas.List.{length-map, map-set, get_or-set_other}
use Rattle.std.proofs.lemmas.Option.{none-some, same_Some, slice_get_within}
use Rattle.xc_record.specs.declared.record.Break.{Break}
use Rattle.xc_record.specs.declared.record.Header.{Header}
use Rattle.xc_record.specs.declared.record.Logs.{Logs}
use Rattle.xc_record.specs.declared.record.Record.{Record}
use Rattle.xc_record.specs.declared.session.Command.TheVariants as command
use Rattle.xc_record.specs.declared.session.Line.{Line}
use Rattle.xc_record.specs.declared.session.PollAnswer.{PollAnswer}
use Rattle.xc_record.specs.declared.session.PollAnswer.TheVariants as poll
use Rattle.xc_record.specs.Accepted.{AcceptedTablet, accepted_tablets, accepted_tablet, records, halt, halt_of}
use Rattle.xc_record.specs.SafeTime.{place, is_closed as is_closed_logs, is_closed_at, is_started}
use Rattle.xc_record.specs.Session.{Position, Session, new_position, position, places_of, IsInOrder, IsSession}
use Rattle.xc_record.specs.Step.{answer_from, poll_answer, poll_step, with_position, moved, drained_to, open_step}
use Rattle.xc_record.specs.Valid.{is_valid}
use Rattle.xc_record.proofs.AcceptedLaws.{accepted-records}
use Rattle.xc_record.proofs.ListLaws.{Each}
use Rattle.xc_record.proofs.OrderLaws.{accepted-length}
use Rattle.xc_model.proofs.Parents.{length-logs, get-id, get-under, closed-of, none-closed, each-get}
use Rattle.xc_model.proofs.SessionLaws.{places-at, steps-keep, is-open}
use Rattle.xc_logs.proofs.FeedFacts.{same-on}
use Rattle.xc_poller.specs.Poller.{PollerState, new_poller}
use Rattle.xc_target.specs.declared.answers.TargetFail.{TargetFail}
use Rattle.xc_target.specs.declared.answers.TargetFail.TheVariants as fail
use Rattle.xc_target.specs.Target.{TargetState, FitsFeed}
use Rattle.xc_target.specs.Stands.{Polls, StandsForSession}
use Rattle.xc_target.specs.Answers.{Keeps, Made, IsPolled, halt_named, halted_at, halt_at, polled_on, ArePolls, IsDrainedOne, IsDrainFail}
use Rattle.xc_target.proofs.SessionLaws.{get-there, length-pollers, position-is, poller-there}
use Rattle.xc_target.proofs.MoveLaws.{get-set-there}
use Rattle.xc_target.proofs.PollFacts.{waits-answer, open-answer, IsIdle}

-- ---- positions

set-own : (ps : List Position) (s : ℕ) → slice_set ps s (option_map_or (λ p. p) (slice_get ps s) new_position) ≡ ps
set-own [] s = refl
set-own (p ∷ ps) zero = refl
set-own (p ∷ ps) (suc s) = ap (λ w. p ∷ w) (set-own ps s)

set-twice : (ps : List Position) (s : ℕ) (p q : Position) → slice_set (slice_set ps s q) s p ≡ slice_set ps s p
set-twice [] s p q = refl
set-twice (r ∷ ps) zero p q = refl
set-twice (r ∷ ps) (suc s) p q = ap (λ w. r ∷ w) (set-twice ps s p q)

with-own : (m : Session) (s : ℕ) → with_position s (position m s) m ≡ m
with-own m s = ap (λ (w : List Position). record m { positions = w }) (set-own m.positions s)

with-twice : (m : Session) (s : ℕ) (p q : Position) → with_position s p (with_position s q m) ≡ with_position s p m
with-twice m s p q = ap (λ (w : List Position). record m { positions = w }) (set-twice m.positions s p q)

get-within : (ps : List Position) (s : ℕ) (p : Position) → s < length ps
    → option_map_or (λ q. q) (slice_get (slice_set ps s p) s) new_position ≡ p
get-within [] s p h = absurd (omega arith)
get-within (q ∷ ps) zero p h = refl
get-within (q ∷ ps) (suc s) p h = get-within ps s p (omega arith)

pub position-with : (m : Session) (s : ℕ) (p : Position) → s < length m.positions → position (with_position s p m) s ≡ p
position-with m s p h = get-within m.positions s p h

pub position-other : (m : Session) (s j : ℕ) (p : Position) → j ≢ s → position (with_position s p m) j ≡ position m j
position-other m s j p n = ap (λ o. option_map_or (λ (q : Position). q) o new_position) (get-set-there m.positions s j p n)

pub same-position : (p q : Position) → p.place ≡ q.place → p.cursor ≡ q.cursor → p.acknowledged ≡ q.acknowledged → p ≡ q
same-position p q e f g =
    ap (λ (x : ℕ). record p { place = x }) e ∙ ap (λ (x : ℕ). record q { cursor = x; acknowledged = p.acknowledged }) f
    ∙ ap (λ (x : ℕ). record q { acknowledged = x }) g

pub place-within : (logs : Logs) (m : Session) (s : ℕ) (b : AcceptedTablet) → is_valid logs ≡ true → IsSession logs m
    → accepted_tablet logs s ≡ Some b → (position m s).place ≤ length b.records
place-within logs m s b valid is e =
    let within : place (places_of m) b ≤ length b.records =
    each-get (λ b. place (places_of m) b ≤ length b.records) (accepted_tablets logs) s b is.places.within e in
    let at = places-at m.positions s in
    let here : slice_index (places_of m) s ≤ length b.records =
    subst (λ (i : ℕ). slice_index (places_of m) i ≤ length b.records) (get-id logs s b valid e) within in
    omega arith

pub in-order : (ps : List Position) (s : ℕ) → Each IsInOrder ps → IsInOrder (option_map_or (λ p. p) (slice_get ps s) new_position)
in-order [] s h = record { cursor = omega arith; acknowledged = omega arith }
in-order (p ∷ ps) zero h = h.0
in-order (p ∷ ps) (suc s) h = in-order ps s h.1

-- ---- polls

pub polled_on-append : (logs : Logs) (n : ℕ) (ids more : List ℕ) (m : Session)
    → polled_on logs n (ids ++ more) m ≡ polled_on logs n more (polled_on logs n ids m)
polled_on-append logs n [] more m = refl
polled_on-append logs n (id ∷ ids) more m = polled_on-append logs n ids more (poll_step m id (poll_answer logs m id n)).0

-- a target stands for one session
pub stands-one : (logs : Logs) (m n : Session) (t : TargetState) → StandsForSession logs m t → StandsForSession logs n t → m ≡ n
stands-one logs m n t a b =
    ap (λ (x : List Position). record m { positions = x }) (sym a.positions ∙ b.positions)
    ∙ ap (λ (x : ℕ). record n { cutoff = x; closed = m.closed }) (sym a.cutoff ∙ b.cutoff)
    ∙ ap (λ (x : Option ℕ). record n { closed = x }) (sym a.closed ∙ b.closed)

poll-session : (logs : Logs) (m : Session) (s n : ℕ) → is_valid logs ≡ true → m.closed ≡ None → IsSession logs m
    → IsSession logs (poll_step m s (poll_answer logs m s n)).0
unfolding open_step
poll-session logs m s n valid free is =
    subst (λ (w : Session × List Line). IsSession logs w.0) (is-open logs m (command.Poll s n) free)
    (steps-keep logs m (command.Poll s n) valid is)

poll-closed : (m : Session) (s : ℕ) (a : PollAnswer) → (poll_step m s a).0.closed ≡ m.closed
poll-closed m s (poll.Polled k) = refl
poll-closed m s (poll.Waits parent) = refl
poll-closed m s poll.AtEnd = refl
poll-closed m s (poll.Halted number kind) = refl

pub polls-session : (logs : Logs) (n : ℕ) (ids : List ℕ) (m : Session) → is_valid logs ≡ true → m.closed ≡ None → IsSession logs m
    → IsSession logs (polled_on logs n ids m)
polls-session logs n [] m valid free is = is
polls-session logs n (id ∷ ids) m valid free is =
    polls-session logs n ids (poll_step m id (poll_answer logs m id n)).0 valid (poll-closed m id (poll_answer logs m id n) ∙ free)
    (poll-session logs m id n valid free is)

-- ---- one tablet

module _ (logs : Logs) (s : ℕ) (b : AcceptedTablet) (valid : is_valid logs ≡ true) (there : accepted_tablet logs s ≡ Some b) where
  -- whether it has started doesn't hang on its own position
  started-alone : (m : Session) (p : Position)
      → is_started logs (places_of (with_position s p m)) b.header.parent ≡ is_started logs (places_of m) b.header.parent
  started-alone m p = go b.header.parent refl
    where
      places-next : places_of (with_position s p m) ≡ slice_set (places_of m) s p.place
      places-next = map-set (λ (p : Position). p.place) m.positions s p

      closed-there : (j : ℕ) → j ≢ s → (o : Option AcceptedTablet) → slice_get (accepted_tablets logs) j ≡ o
          → is_closed_logs logs (places_of (with_position s p m)) j ≡ is_closed_logs logs (places_of m) j
      closed-there j n None e = none-closed logs (places_of (with_position s p m)) j e ∙ sym (none-closed logs (places_of m) j e)
      closed-there j n (Some d) e =
          let id : d.header.id ≡ j = get-id logs j d valid e in
          let same : slice_index (places_of (with_position s p m)) j ≡ slice_index (places_of m) j =
          ap (λ w. slice_index w j) places-next ∙ get_or-set_other (places_of m) s j p.place 0 n in
          closed-of logs (places_of (with_position s p m)) j d e
          ∙ ap (is_closed_at d) (ap (slice_index (places_of (with_position s p m))) id ∙ same ∙ ap (slice_index (places_of m)) (sym id))
          ∙ sym (closed-of logs (places_of m) j d e)

      go : (q : Option ℕ) → b.header.parent ≡ q → is_started logs (places_of (with_position s p m)) q ≡ is_started logs (places_of m) q
      go None e = refl
      go (Some j) e =
          let low = (get-under logs s b valid there j e).below in
          let own = get-id logs s b valid there in
          closed-there j (λ q. omega (arith, q)) (slice_get (accepted_tablets logs) j) refl

  -- ---- what a poll answers

  record Started (m : Session) (a : PollAnswer) : Type 0 where
    started : is_started logs (places_of m) b.header.parent ≡ true
    reached : b.reached ≡ true
    answer : a ≡ answer_from b (records logs s) (position m s).cursor 64

  record Waiting (m : Session) (a : PollAnswer) : Type 0 where
    waits : is_started logs (places_of m) b.header.parent ≡ false
    parent : ℕ
    answer : a ≡ poll.Waits parent

  has-parent : (h : Header) → (new_poller h).is_open ≡ false → (parent : ℕ) × (h.parent ≡ Some parent)
  has-parent h e = go h.parent refl
    where
      go : (o : Option ℕ) → h.parent ≡ o → (parent : ℕ) × (h.parent ≡ Some parent)
      go None q = absurd (true≢false (sym (ap is_none q) ∙ e))
      go (Some parent) q = (parent, q)

  which : (m : Session) (t : TargetState) (a : PollAnswer) → IsSession logs m → StandsForSession logs m t → a ≡ poll_answer logs m s 64
      → Started m a ⊎ Waiting m a
  which m t a is st e =
      let found = poller-there logs m t is st s b there in
      let p : PollerState = found.0 in
      let at = found.1.0 in
      let polls : Polls logs m b p = found.1.1 in
      ⊎_elim
      (λ o. inl (record {
        started = sym polls.opened ∙ o;
        reached = (polls.stands o).reads.reached;
        answer = e ∙ open-answer logs m t s p b st at there 64 o
            ∙ ap (λ (w : Position). answer_from b (records logs s) w.cursor 64) (sym (position-is t.pollers m s p st.positions at));
      }))
      (λ o.
      let new = polls.waits o in
      let parent = has-parent b.header (ap (λ (p : PollerState). p.is_open) (sym new) ∙ o) in
      inr (record {
        waits = sym polls.opened ∙ o;
        parent = parent.0;
        answer = e ∙ waits-answer logs m t s p b st at there 64 parent.0 o (ap (λ (h : Header). h.parent) polls.header ∙ parent.1);
      }))
      (cases_Bool p.is_open)

pub halts-here : (logs : Logs) (s : ℕ) (b : AcceptedTablet) → accepted_tablet logs s ≡ Some b
    → halt_at logs s ≡ option_map (halt_named s) (halt_of b (records logs s))
unfolding halt
halts-here logs s b e = ap (λ o. option_map (halt_named s) (option_and_then (λ b. halt_of b (records logs s)) o)) e

-- ---- so far

-- polls of this source tablet alone made the session m what it is now
pub record PolledAlone (logs : Logs) (m : Session) (s : ℕ) (t : TargetState) : Type 0 where
  pub tablet : AcceptedTablet
  pub there : accepted_tablet logs s ≡ Some tablet
  pub now : Session
  pub polls : List ℕ
  pub is : now ≡ polled_on logs 64 polls m
  pub session : IsSession logs now
  pub stands : StandsForSession logs now t
  pub alone : now ≡ with_position s (position now s) m
  pub acknowledged : (position now s).acknowledged ≡ (position m s).acknowledged
  pub starts : is_started logs (places_of now) tablet.header.parent ≡ is_started logs (places_of m) tablet.header.parent
  pub before : (now ≡ m) ⊎ ((m.closed ≡ None) × (is_started logs (places_of m) tablet.header.parent ≡ true))

abbrev pub Polling : ℕ → TargetState → TargetState → Logs → Type 0
Polling s old t logs = (m : Session) → IsSession logs m → StandsForSession logs m old → PolledAlone logs m s t

-- what one poll of it makes of the session
abbrev pub PollsOnce : ℕ → TargetState → Result PollAnswer TargetFail → TargetState → Logs → Type 0
PollsOnce s t r new logs = (m : Session) → IsSession logs m → StandsForSession logs m t → IsPolled logs m s 64 new r

begin : (logs : Logs) (s : ℕ) (t : TargetState) → s < length t.pollers → Polling s t t logs
begin logs s t known m is st =
    let long = length-pollers logs m t is st in
    let found = get-there (accepted_tablets logs) s (omega arith) in
    record {
      tablet = found.0;
      there = found.1;
      now = m;
      polls = [];
      is = refl;
      session = is;
      stands = st;
      alone = sym (with-own m s);
      acknowledged = refl;
      starts = refl;
      before = inl refl;
    }

module _ (logs : Logs) (m : Session) (s : ℕ) (t new : TargetState) (w : PolledAlone logs m s t) where
  abbrev now : Session
  now = w.now

  valid : is_valid logs ≡ true
  valid = w.stands.valid

  same-closed : now.closed ≡ m.closed
  same-closed = ap (λ (w : Session). w.closed) w.alone

  long : s < length now.positions
  long =
      let a = slice_get_within (accepted_tablets logs) s w.tablet w.there in
      let b = length-logs logs in
      let c = w.session.places.count in
      let d = length-map now.positions (λ (p : Position). p.place) in
      omega arith

  -- one more poll delivered records
  goes-on : (k : ℕ) → IsPolled logs now s 64 new (Ok (poll.Polled k)) → PolledAlone logs m s new
  goes-on k h =
      let free : now.closed ≡ None = h.1.still_open in
      let p : Position = moved k (position now s) in
      let next : Session = with_position s p now in
      let here : position next s ≡ p = position-with now s p long in
      let same : next ≡ (poll_step now s (poll_answer logs now s 64)).0 = ap (λ a. (poll_step now s a).0) h.0 in
      let path : next ≡ polled_on logs 64 (w.polls ++ s ∷ []) m =
      same ∙ ap (λ (v : Session). (poll_step v s (poll_answer logs v s 64)).0) w.is ∙ sym (polled_on-append logs 64 w.polls (s ∷ []) m) in
      let alone : next ≡ with_position s p m = ap (with_position s p) w.alone ∙ with-twice m s p (position now s) in
      let started : is_started logs (places_of now) w.tablet.header.parent ≡ true =
      ⊎_elim (λ a. a.started) (λ a. absurd (polled-waits k a.parent a.answer))
      (which logs s w.tablet valid w.there now t (poll.Polled k) w.session w.stands h.0) in
      record {
        tablet = w.tablet;
        there = w.there;
        now = next;
        polls = w.polls ++ s ∷ [];
        is = path;
        session = subst (IsSession logs) (sym same) (poll-session logs now s 64 valid free w.session);
        stands = h.1.stands;
        alone = alone ∙ ap (λ q. with_position s q m) (sym here);
        acknowledged = ap (λ (q : Position). q.acknowledged) here ∙ w.acknowledged;
        starts = started-alone logs s w.tablet valid w.there now p ∙ w.starts;
        before = inr (sym same-closed ∙ free, sym w.starts ∙ started);
      }
    where
      polled-waits : (k parent : ℕ) → poll.Polled k ≡ poll.Waits parent → ⊥
      polled-waits k parent e = cc

  -- the session that it is now, said otherwise
  made-by : (next : Session) → now ≡ next → Made logs now now new → Made logs m next new
  made-by next e h = record {
    still_open = sym same-closed ∙ h.still_open;
    stands = subst (λ (v : Session). StandsForSession logs v new) e h.stands;
  }

  -- the polls that were made
  are-polls : Made logs now now new → ArePolls logs m new
  are-polls h = (w.polls, made-by (polled_on logs 64 w.polls m) w.is h)

  fails : (e : TargetFail) → IsPolled logs now s 64 new (Err e) → IsDrainFail logs m new e
  fails (fail.Closed at) h = record {
    closed = sym same-closed ∙ h.closed;
    stands = ⊎_elim (λ e. subst (λ (v : Session). StandsForSession logs v new) e h.stands)
        (λ o. absurd (none-some at (sym o.0 ∙ sym same-closed ∙ h.closed))) w.before;
  }
  fails fail.ReadFault h = are-polls h
  fails fail.NoMemory h = are-polls h

  -- ---- nothing is left

  idle-made : (a : PollAnswer) → IsIdle (Ok a) → Made logs now (poll_step now s a).0 new → Made logs now now new
  idle-made (poll.Polled k) i h = absurd i
  idle-made (poll.Waits parent) i h = h
  idle-made poll.AtEnd i h = h
  idle-made (poll.Halted at kind) i h = h

  -- a poll of the tablet from within its accepted records delivers nothing only behind all of them
  stops-at : (rs : List Record) (c : ℕ) (a : PollAnswer) → IsIdle (Ok a) → a ≡ answer_from w.tablet rs c 64 → c ≤ length w.tablet.records
      → length w.tablet.records ≤ length rs
      → (c ≡ length w.tablet.records) × (halted_at s a ≡ option_map (halt_named s) (halt_of w.tablet rs))
  stops-at rs c a i e low all = behind (c == length w.tablet.records) refl
    where
      delivers : (k : ℕ) → a ≡ poll.Polled k → ⊥
      delivers k f = subst (λ x. IsIdle (Ok x)) f i

      given : Bool → PollAnswer
      given q = if q then poll.AtEnd else poll.Polled (min 64 (length w.tablet.records - c))

      rest : (q : Bool) → (c == length rs) ≡ q → a ≡ given q → (c ≡ length rs) × (a ≡ poll.AtEnd)
      rest true f g = (eqb-true _ _ f, g)
      rest false f g = absurd (delivers (min 64 (length w.tablet.records - c)) g)

      answered : Option (ℕ × Break) → PollAnswer
      answered o = option_map_or (λ found. poll.Halted found.0 found.1) o (given (c == length rs))

      halted : (o : Option (ℕ × Break)) → halt_of w.tablet rs ≡ o → a ≡ answered o
          → halted_at s a ≡ option_map (halt_named s) (halt_of w.tablet rs)
      halted None g h = ap (halted_at s) (rest (c == length rs) refl h).1 ∙ sym (ap (option_map (halt_named s)) g)
      halted (Some found) g h = ap (halted_at s) h ∙ sym (ap (option_map (halt_named s)) g)

      behind : (q : Bool) → (c == length w.tablet.records) ≡ q
          → (c ≡ length w.tablet.records) × (halted_at s a ≡ option_map (halt_named s) (halt_of w.tablet rs))
      behind true f =
          let here : a ≡ answered (halt_of w.tablet rs) = e ∙ ap (λ x. answered (if x then halt_of w.tablet rs else None)) f in
          (eqb-true _ _ f, halted (halt_of w.tablet rs) refl here)
      behind false f =
          let here : a ≡ given (c == length rs) = e ∙ ap (λ x. answered (if x then halt_of w.tablet rs else None)) f in
          let ended = (rest (c == length rs) refl here).0 in
          let same : c ≡ length w.tablet.records = omega arith in
          absurd (true≢false (sym (eq-eqb c (length w.tablet.records) same) ∙ f))

  nothing-left : (a : PollAnswer) → IsIdle (Ok a) → IsPolled logs now s 64 new (Ok a) → IsDrainedOne logs m s w.tablet new (halted_at s a)
  nothing-left a i h =
      let made : Made logs now now new = idle-made a i h.1 in
      ⊎_elim (started a i made) (waiting a made) (which logs s w.tablet valid w.there now t a w.session w.stands h.0)
    where
      started : (a : PollAnswer) → IsIdle (Ok a) → Made logs now now new → Started logs s w.tablet valid w.there now a
          → IsDrainedOne logs m s w.tablet new (halted_at s a)
      started a i made k =
          let p : Position = position now s in
          let placed : p.place ≤ length w.tablet.records = place-within logs now s w.tablet valid w.session w.there in
          let order : p.cursor ≤ p.place = (in-order now.positions s w.session.order).cursor in
          let rs = records logs s in
          let all : length w.tablet.records ≤ length rs =
          subst (λ (xs : List Record). length xs ≤ length rs) (sym (accepted-records logs s w.tablet w.there k.reached))
          (accepted-length w.tablet.start rs) in
          let ends = stops-at rs p.cursor a i k.answer (omega arith) all in
          let cursor = ends.0 in
          let place : p.place ≡ length w.tablet.records = omega arith in
          let end : Position = drained_to w.tablet (position m s) in
          let drained : p ≡ end = same-position p end place cursor w.acknowledged in
          let session : now ≡ with_position s end m = w.alone ∙ ap (λ q. with_position s q m) drained in
          let halted : halted_at s a ≡ halt_at logs s = ends.1 ∙ sym (halts-here logs s w.tablet w.there) in
          record {
            started = λ _. (halted, made-by (with_position s end m) session made);
            waits = λ q. absurd (true≢false (sym (sym w.starts ∙ k.started) ∙ q));
          }

      waiting : (a : PollAnswer) → Made logs now now new → Waiting logs s w.tablet valid w.there now a
          → IsDrainedOne logs m s w.tablet new (halted_at s a)
      waiting a made k =
          let shut : is_started logs (places_of m) w.tablet.header.parent ≡ false = sym w.starts ∙ k.waits in
          let same : now ≡ m = ⊎_elim (λ e. e) (λ o. absurd (true≢false (sym o.1 ∙ shut))) w.before in
          record {
            started = λ q. absurd (true≢false (sym q ∙ shut));
            waits = λ _. (ap (halted_at s) k.answer, made-by m same made);
          }

-- ---- as the calls give it, whether the feed tells its logs or not

pub idle-answer : (a : PollAnswer) → ((k : ℕ) → a ≡ poll.Polled k → ⊥) → IsIdle (Ok a)
idle-answer (poll.Polled k) n = n k refl
idle-answer (poll.Waits parent) n = tt
idle-answer poll.AtEnd n = tt
idle-answer (poll.Halted at kind) n = tt

pub polling-starts : (o : Option Logs) (s : ℕ) (t : TargetState) → s < length t.pollers → IfSome o (Polling s t t)
polling-starts None s t known = tt
polling-starts (Some logs) s t known = begin logs s t known

pub polling-goes-on : (o o' : Option Logs) (s k : ℕ) (a : PollAnswer) (old t new : TargetState) → o' ≡ o → a ≡ poll.Polled k
    → IfSome o (Polling s old t) → IfSome o' (PollsOnce s t (Ok a) new) → IfSome o (Polling s old new)
polling-goes-on None o' s k a old t new e is w h = tt
polling-goes-on (Some logs) o' s k a old t new e is w h =
    λ m p st. let so = w m p st in
    let once = subst (λ a. IfSome o' (PollsOnce s t (Ok a) new)) is h in
    goes-on logs m s t new so k (subst (λ o. IfSome o (PollsOnce s t (Ok (poll.Polled k)) new)) e once so.now so.session so.stands)

pub polling-fails : (o o' : Option Logs) (s : ℕ) (f : TargetFail) (old t new : TargetState) → o' ≡ o → IfSome o (Polling s old t)
    → IfSome o' (PollsOnce s t (Err f) new)
    → IfSome o (λ logs. (m : Session) → IsSession logs m → StandsForSession logs m old → IsDrainFail logs m new f)
polling-fails None o' s f old t new e w h = tt
polling-fails (Some logs) o' s f old t new e w h =
    λ m is st. let so = w m is st in
    fails logs m s t new so f (subst (λ o. IfSome o (PollsOnce s t (Err f) new)) e h so.now so.session so.stands)

pub polling-ends : (o o' : Option Logs) (s : ℕ) (a : PollAnswer) (old t new : TargetState) → o' ≡ o → IsIdle (Ok a)
    → IfSome o (Polling s old t) → IfSome o' (PollsOnce s t (Ok a) new)
    → IfSome o (λ logs. (m : Session) (b : AcceptedTablet) → IsSession logs m → StandsForSession logs m old
    → accepted_tablet logs s ≡ Some b → IsDrainedOne logs m s b new (halted_at s a))
polling-ends None o' s a old t new e i w h = tt
polling-ends (Some logs) o' s a old t new e i w h =
    λ m b is st there. let so = w m is st in
    subst (λ (b : AcceptedTablet). IsDrainedOne logs m s b new (halted_at s a)) (same_Some so.tablet b (sym so.there ∙ there))
    (nothing-left logs m s t new so a i (subst (λ o. IfSome o (PollsOnce s t (Ok a) new)) e h so.now so.session so.stands))

pub polls-end : (o o' : Option Logs) (s : ℕ) (a : PollAnswer) (old t new : TargetState) → o' ≡ o → IsIdle (Ok a)
    → IfSome o (Polling s old t) → IfSome o' (PollsOnce s t (Ok a) new)
    → IfSome o (λ logs. (m : Session) → IsSession logs m → StandsForSession logs m old → ArePolls logs m new)
polls-end None o' s a old t new e i w h = tt
polls-end (Some logs) o' s a old t new e i w h =
    λ m is st. let so = w m is st in
    let once = subst (λ o. IfSome o (PollsOnce s t (Ok a) new)) e h so.now so.session so.stands in
    are-polls logs m s t new so (idle-made logs m s t new so a i once.1)

-- the source tablets stay as many
-- what two calls keep after one another
pub keeps-on : {Of : Type 0} (headers : Of → List Header) (counts : Of → List ℕ) (logs : Of → Option Logs) (faults : Of → ℕ)
    (first next last : Of) (old mid new : TargetState)
    → Keeps headers counts logs faults first next old mid → Keeps headers counts logs faults next last mid new
    → Keeps headers counts logs faults first last old new
keeps-on headers counts logs faults first next last old mid new a b = record {
  fits = b.fits;
  ranges = b.ranges ∙ a.ranges;
  closed = b.closed ∙ a.closed;
  feed = same-on _ _ _ a.feed b.feed;
}

pub count-still : (hs hs' : List Header) (cs cs' : List ℕ) (t new : TargetState) → hs' ≡ hs → FitsFeed hs cs t → FitsFeed hs' cs' new
    → length new.pollers ≡ length t.pollers
count-still hs hs' cs cs' t new e f g =
    sym (length-map new.pollers (λ (p : PollerState). p.header)) ∙ ap length (g.headers_are ∙ e ∙ sym f.headers_are)
    ∙ length-map t.pollers (λ (p : PollerState). p.header)

pub known-still : (hs hs' : List Header) (cs cs' : List ℕ) (t new : TargetState) (id : ℕ) → hs' ≡ hs → FitsFeed hs cs t
    → FitsFeed hs' cs' new → id < length t.pollers → id < length new.pollers
known-still hs hs' cs cs' t new id e f g low = let same = count-still hs hs' cs cs' t new e f g in omega arith
