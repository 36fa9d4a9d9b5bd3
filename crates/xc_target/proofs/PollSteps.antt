-- The step of a session that a poll makes, whole or cut off, from what is known of one call of its poller.
use Rattle.std.proofs.Common.{◌≡◌, ℕ, ◌<◌, true, false, cond, List, [], ◌∷◌, map, length, Option, Some, None, Result, Ok, Err, refl, ap}
use Rattle.std.proofs.Common.{sym, ◌∙◌, subst, arith, get_or}
use Rattle.std.specs.Prelude.{IfOk, IfSome, MatchResult, IsErrAnd, slice_get, slice_set}
use Rattle.std.specs.List.{AllZip}
use Rattle.std.proofs.lemmas.List.Elements.{recursion_from_All, length_all_zip}
use Rattle.std.proofs.lemmas.Option.{slice_get_within}
use Rattle.xc_record.specs.declared.record.Header.{Header}
use Rattle.xc_record.specs.declared.record.Logs.{Logs}
use Rattle.xc_record.specs.declared.session.PollAnswer.{PollAnswer}
use Rattle.xc_record.specs.declared.session.PollAnswer.TheVariants as poll
use Rattle.xc_record.specs.Accepted.{AcceptedTablet, accepted_tablets, accepted_tablet, records}
use Rattle.xc_record.specs.Session.{Position, Session, IsSession}
use Rattle.xc_record.specs.Step.{answer_from, poll_answer, poll_step, stop_step, with_position, moved, set_back}
use Rattle.xc_record.specs.Bounds.{IsPartition}
use Rattle.xc_record.proofs.ListLaws.{Each}
use Rattle.xc_model.specs.Rows.{range_of}
use Rattle.xc_model.specs.Stands.{TargetTablet}
use Rattle.xc_model.proofs.Parents.{each-get, get-id}
use Rattle.xc_logs.specs.Feed.{IsFeed}
use Rattle.xc_change.specs.declared.batch.NextFail.{NextFail}
use Rattle.xc_change.specs.declared.batch.NextFail.TheVariants as next
use Rattle.xc_poller.specs.Poller.{PollerState, position_of, is_closed, StandsFor as PollerStandsFor}
use Rattle.xc_poller.specs.Polled.{CanPoll, CanPollAll, PollsLogs, PollCall, KeepStanding}
use Rattle.xc_poller.specs.Polled.{IsPolled as PollerPolled, IsStopped as PollerStopped}
use Rattle.xc_target.specs.declared.answers.TargetFail.{TargetFail}
use Rattle.xc_target.specs.Target.{TargetState, headers_of_pollers, opened_by, FitsFeed, Opens}
use Rattle.xc_target.specs.Stands.{Polls, StandsForSession}
use Rattle.xc_target.specs.Answers.{Made, IsPolled, IsStopped, GaveFirst, fail_of}
use Rattle.xc_target.proofs.SessionLaws.{get-there, length-pollers, position-is}
use Rattle.xc_target.proofs.MoveLaws.{get-set-here, poller-read}
use Rattle.xc_target.proofs.PollFacts.{IsIdle, Rested, Says, Ended, Delivered, delivered, CutOff, cut-off, grows-of, ranges-of}
use Rattle.xc_target.proofs.PollFacts.{waits-answer, open-answer, rested-made, same-session}
use Rattle.xc_target.proofs.PollFits.{fits-polled, fits-opened, opens-all}
use Rattle.xc_target.proofs.PollLaws.{Grows, Left, after_poll, polled-made}

-- one call of the poller p of the number id, which left q and the tablets ys
pub record Called (hs : List Header) (cs : List ℕ) (o : Option Logs) (n id : ℕ) (t : TargetState) (p q : PollerState)
    (ys : List TargetTablet) (r : Result PollAnswer NextFail) : Type 0 where
  pub still_open : t.closed ≡ None
  pub at : slice_get t.pollers id ≡ Some p
  pub can : CanPollAll hs cs q ys
  pub ended : Ended p q t.tablets ys r
  pub polls : IfSome o (λ logs. (b : AcceptedTablet) → PollerStandsFor logs p b → PollsLogs logs b n p q t.tablets ys r)

abbrev pub put_in : TargetState → ℕ → PollerState → List TargetTablet → TargetState
put_in t id q ys = record { tablets = ys; pollers = slice_set t.pollers id q; cutoff = t.cutoff; closed = t.closed }

-- the same, but for the pollers
abbrev pub with_pollers : TargetState → List TargetTablet → List PollerState → TargetState
with_pollers t ys ps = record { tablets = ys; pollers = ps; cutoff = t.cutoff; closed = t.closed }

-- the tablet of the poller
there : (logs : Logs) (m : Session) (t : TargetState) (id : ℕ) (p : PollerState) → IsSession logs m → StandsForSession logs m t
    → slice_get t.pollers id ≡ Some p → (b : AcceptedTablet) × (accepted_tablet logs id ≡ Some b)
there logs m t id p is st at =
    let l = slice_get_within t.pollers id p at in
    let e = length-pollers logs m t is st in
    get-there (accepted_tablets logs) id (omega arith)

left-all : (logs : Logs) (hs : List Header) (cs : List ℕ) (q : PollerState) (xs ys : List TargetTablet) → AllZip Grows xs ys
    → KeepStanding logs xs ys → Each (CanPoll hs cs q) ys → AllZip (Left logs q) xs ys
left-all logs hs cs q [] [] g k c = tt
left-all logs hs cs q [] (y ∷ ys) g k c = absurd g
left-all logs hs cs q (x ∷ xs) [] g k c = absurd g
left-all logs hs cs q (x ∷ xs) (y ∷ ys) g k c =
    (record { grows = g.0; stands = k.0; has = c.0.applied }, left-all logs hs cs q xs ys g.1 k.1 c.1)

-- what a target tells of a call of its poller
abbrev pub told : Result PollAnswer NextFail → Result PollAnswer TargetFail
told (Ok answer) = Ok answer
told (Err e) = Err (fail_of e)

-- the pollers after a poll of q, by what it told
abbrev pub after_call : Result PollAnswer TargetFail → PollerState → List PollerState → List PollerState
after_call (Ok (poll.Polled k)) q ps = after_poll q ps
after_call (Ok (poll.Waits parent)) q ps = ps
after_call (Ok poll.AtEnd) q ps = ps
after_call (Ok (poll.Halted number kind)) q ps = ps
after_call (Err e) q ps = ps

pub after-idle : (a : PollAnswer) (q : PollerState) (ps : List PollerState) → ((k : ℕ) → a ≡ poll.Polled k → ⊥)
    → after_call (Ok a) q ps ≡ ps
after-idle (poll.Polled k) q ps n = absurd (n k refl)
after-idle (poll.Waits parent) q ps n = refl
after-idle poll.AtEnd q ps n = refl
after-idle (poll.Halted number kind) q ps n = refl

pub after-open : (q : PollerState) (ps rs : List PollerState) → is_closed q ≡ true → AllZip (Opens q) ps rs → after_poll q ps ≡ rs
after-open q ps rs closed z = ap (λ b. cond b (map (opened_by q) ps) ps) closed ∙ sym (opens-all q ps rs z)

pub after-shut : (q : PollerState) (ps : List PollerState) → is_closed q ≡ false → after_poll q ps ≡ ps
after-shut q ps shut = ap (λ b. cond b (map (opened_by q) ps) ps) shut

module _ (hs : List Header) (cs : List ℕ) (n id : ℕ) (t : TargetState) (p q : PollerState) (ys : List TargetTablet) where
  can : (o : Option Logs) (r : Result PollAnswer NextFail) → Called hs cs o n id t p q ys r → Each (CanPoll hs cs q) ys
  can o r c = recursion_from_All (CanPoll hs cs q) ys c.can.tablets

  grows : (o : Option Logs) (r : Result PollAnswer NextFail) → Called hs cs o n id t p q ys r → AllZip Grows t.tablets ys
  grows o r c = grows-of p q t.tablets ys c.ended.kept

  -- ---- what holds whatever the feed tells

  pub length-called : (o : Option Logs) (r : Result PollAnswer NextFail) → Called hs cs o n id t p q ys r → length ys ≡ length t.tablets
  length-called o r c = sym (length_all_zip Grows t.tablets ys (grows o r c))

  pub same-ranges : (o : Option Logs) (r : Result PollAnswer NextFail) → Called hs cs o n id t p q ys r
      → map range_of ys ≡ map range_of t.tablets
  same-ranges o r c = ranges-of p q t.tablets ys c.ended.kept

  pub ranges-called : (o : Option Logs) (r : Result PollAnswer NextFail) → Called hs cs o n id t p q ys r
      → IsPartition (map range_of t.tablets) → IsPartition (map range_of ys)
  ranges-called o r c w = subst IsPartition (sym (same-ranges o r c)) w

  pub fits-called : (o : Option Logs) (r : Result PollAnswer NextFail) → IsFeed hs cs o → Called hs cs o n id t p q ys r
      → FitsFeed hs cs t → FitsFeed hs cs (put_in t id q ys)
  fits-called o r feed c f =
      let k = c.ended.kept in
      fits-polled hs cs o feed t id p q c.at k.header k.reader c.can.reader f ys (can o r c) (grows o r c)

  -- its children are opened
  pub fits-children : (o : Option Logs) (r : Result PollAnswer NextFail) → IsFeed hs cs o → Called hs cs o n id t p q ys r
      → FitsFeed hs cs t → is_closed q ≡ true → (rs : List PollerState) → AllZip (Opens q) (slice_set t.pollers id q) rs
      → FitsFeed hs cs (with_pollers t ys rs)
  fits-children o r feed c f closed rs z =
      let before = fits-called o r feed c f in
      let here = get-set-here t.pollers id p q c.at in
      let own = each-get (λ (p : PollerState). p.reader.id ≡ p.header.id) (slice_set t.pollers id q) id q before.numbers here in
      fits-opened hs cs o feed q own closed c.can.reader (put_in t id q ys) id rs here z before

  -- ---- where it tells logs

  module _ (logs : Logs) (m : Session) (is : IsSession logs m) (st : StandsForSession logs m t) where
    -- what it answers
    answer-is : (a : PollAnswer) → Called hs cs (Some logs) n id t p q ys (Ok a) → a ≡ poll_answer logs m id n
    answer-is a c =
        let found = there logs m t id p is st c.at in
        let b = found.0 in
        let polls : Polls logs m b p = st.pollers id b p found.1 c.at in
        let number : p.header.id ≡ id = ap (λ (h : Header). h.id) polls.header ∙ get-id logs id b st.valid found.1 in
        which a c.ended.says
        (λ parent w e. waits-answer logs m t id p b st c.at found.1 n parent w e)
        (λ o. (c.polls b (polls.stands o)).answer o ∙ ap (λ i. answer_from b (records logs i) p.reader.cursor n) number
        ∙ sym (open-answer logs m t id p b st c.at found.1 n o))
      where
        which : (a : PollAnswer) → Says p a
            → ((parent : ℕ) → p.is_open ≡ false → p.header.parent ≡ Some parent → poll_answer logs m id n ≡ poll.Waits parent)
            → (p.is_open ≡ true → a ≡ poll_answer logs m id n) → a ≡ poll_answer logs m id n
        which (poll.Polled k) s w f = f s
        which (poll.Waits parent) s w f = sym (w parent s.0 s.1)
        which poll.AtEnd s w f = f s
        which (poll.Halted number kind) s w f = f s

    -- the place stayed
    rested-step : (r : Result PollAnswer NextFail) → Rested p q t.tablets ys → Called hs cs (Some logs) n id t p q ys r
        → Made logs m (with_position id (position_of q) m) (put_in t id q ys)
    rested-step r i c =
        let found = there logs m t id p is st c.at in
        rested-made logs m t id p q found.0 st c.still_open c.at found.1 ys i (λ st. (c.polls found.0 st).stands)
        (λ st. (c.polls found.0 st).tablets)

    idle-step : (r : Result PollAnswer NextFail) → IsIdle r → Called hs cs (Some logs) n id t p q ys r → Made logs m m (put_in t id q ys)
    idle-step r i c =
        let e = c.ended.idle i in
        subst (λ w. Made logs m w (put_in t id q ys)) (same-session m t.pollers id p q st.positions c.at e.position)
        (rested-step r e.rested c)

    -- a batch was delivered
    delivered-step : (k : ℕ) → Delivered p q k t.tablets ys → Called hs cs (Some logs) n id t p q ys (Ok (poll.Polled k))
        → Made logs m (poll_step m id (poll.Polled k)).0 (with_pollers t ys (after_poll q (slice_set t.pollers id q)))
    delivered-step k d c =
        let found = there logs m t id p is st c.at in
        let b = found.0 in
        let polls : Polls logs m b p = st.pollers id b p found.1 c.at in
        let before : PollerStandsFor logs p b = polls.stands d.was_open in
        let after = c.polls b before in
        let left = left-all logs hs cs q t.tablets ys (grows (Some logs) (Ok (poll.Polled k)) c) after.tablets
        (can (Some logs) (Ok (poll.Polled k)) c) in
        let made = polled-made logs m t id p q b is st c.still_open c.at found.1 d.kept.header d.was_open
        (d.kept.is_open ∙ d.was_open) d.rises
        (d.checked polls.found) after.stands ys left in
        subst (λ (w : Position). Made logs m (with_position id w m) (with_pollers t ys (after_poll q (slice_set t.pollers id q))))
        (d.position ∙ ap (moved k) (sym (position-is t.pollers m id p st.positions c.at))) made

    -- a batch was cut off
    cut-step : (k : ℕ) → CutOff p q t.tablets ys → Called hs cs (Some logs) n id t p q ys (Ok (poll.Polled k))
        → Made logs m (stop_step m id (poll.Polled k)).0 (put_in t id q ys)
    cut-step k d c = subst (λ (w : Position). Made logs m (with_position id w m) (put_in t id q ys))
        (d.position ∙ ap set_back (sym (position-is t.pollers m id p st.positions c.at))) (rested-step (Ok (poll.Polled k)) d.rested c)

    is-polled : (r : Result PollAnswer NextFail) → Called hs cs (Some logs) n id t p q ys r → PollerPolled hs cs n p q t.tablets ys r
        → IsPolled logs m id n (with_pollers t ys (after_call (told r) q (slice_set t.pollers id q))) (told r)
    is-polled (Ok (poll.Polled k)) c h =
        (answer-is (poll.Polled k) c, delivered-step k (delivered hs cs n k p q t.tablets ys h) c)
    is-polled (Ok (poll.Waits parent)) c h = (answer-is (poll.Waits parent) c, idle-step (Ok (poll.Waits parent)) tt c)
    is-polled (Ok poll.AtEnd) c h = (answer-is poll.AtEnd c, idle-step (Ok poll.AtEnd) tt c)
    is-polled (Ok (poll.Halted number kind)) c h =
        (answer-is (poll.Halted number kind) c, idle-step (Ok (poll.Halted number kind)) tt c)
    is-polled (Err next.ReadFault) c h = idle-step (Err next.ReadFault) tt c
    is-polled (Err next.NoMemory) c h = idle-step (Err next.NoMemory) tt c

    is-stopped : (last : ℕ) (r : Result PollAnswer NextFail) → Called hs cs (Some logs) n id t p q ys r
        → PollerStopped hs cs n last p q t.tablets ys r → IsStopped logs m id n (put_in t id q ys) (told r)
    is-stopped last (Ok (poll.Polled k)) c h =
        (answer-is (poll.Polled k) c, cut-step k (cut-off hs cs n last k p q t.tablets ys h) c)
    is-stopped last (Ok (poll.Waits parent)) c h = (answer-is (poll.Waits parent) c, idle-step (Ok (poll.Waits parent)) tt c)
    is-stopped last (Ok poll.AtEnd) c h = (answer-is poll.AtEnd c, idle-step (Ok poll.AtEnd) tt c)
    is-stopped last (Ok (poll.Halted number kind)) c h =
        (answer-is (poll.Halted number kind) c, idle-step (Ok (poll.Halted number kind)) tt c)
    is-stopped last (Err next.ReadFault) c h = idle-step (Err next.ReadFault) tt c
    is-stopped last (Err next.NoMemory) c h = idle-step (Err next.NoMemory) tt c

  pub polled-step : (o : Option Logs) (r : Result PollAnswer NextFail) (xs : List TargetTablet) → Called hs cs o n id t p q ys r
      → xs ≡ t.tablets → PollerPolled hs cs n p q xs ys r
      → IfSome o (λ logs. (m : Session) → IsSession logs m → StandsForSession logs m t
      → IsPolled logs m id n (with_pollers t ys (after_call (told r) q (slice_set t.pollers id q))) (told r))
  polled-step None r xs c e h = tt
  polled-step (Some logs) r xs c e h = λ m is st. is-polled logs m is st r c (subst (λ w. PollerPolled hs cs n p q w ys r) e h)

  pub stopped-step : (o : Option Logs) (last : ℕ) (r : Result PollAnswer NextFail) (xs : List TargetTablet)
      → Called hs cs o n id t p q ys r → xs ≡ t.tablets → PollerStopped hs cs n last p q xs ys r
      → IfSome o (λ logs. (m : Session) → IsSession logs m → StandsForSession logs m t
      → IsStopped logs m id n (put_in t id q ys) (told r))
  stopped-step None last r xs c e h = tt
  stopped-step (Some logs) last r xs c e h = λ m is st.
      is-stopped logs m is st last r c (subst (λ w. PollerStopped hs cs n last p q w ys r) e h)

-- ---- the facts of a call, as the call gives them

pub make-called : {Of : Type 0} (headers : Of → List Header) (counts : Of → List ℕ) (logs : Of → Option Logs) (faults : Of → ℕ) (n id : ℕ)
    (before after : Of) (t now : TargetState) (p q : PollerState) (xs ys : List TargetTablet) (r : Result PollAnswer NextFail)
    → t ≡ now → t.closed ≡ None → id < length now.pollers → p ≡ get_or t.pollers id p → xs ≡ t.tablets
    → PollCall headers counts logs faults n before after p q xs ys r → Ended p q xs ys r
    → Called (headers before) (counts before) (logs before) n id t p q ys r
make-called headers counts logs faults n id before after t now p q xs ys r view still_open known here same call ended =
    record {
      still_open = still_open;
      at = poller-read t now id p view known here;
      can = subst (λ hs. CanPollAll hs (counts before) q ys) call.feed.same_headers
          (subst (λ cs. CanPollAll (headers after) cs q ys) call.feed.same_counts call.can);
      ended = subst (λ w. Ended p q w ys r) same ended;
      polls = subst
          (λ w. IfSome (logs before) (λ told. (b : AcceptedTablet) → PollerStandsFor told p b → PollsLogs told b n p q w ys r)) same
          call.told;
    }

-- a failure told as the target's own
pub told-is : (r : Result PollAnswer NextFail) (s : Result PollAnswer TargetFail)
    → MatchResult r (λ x. s ≡ Ok x) (λ e. IsErrAnd s (λ f. f ≡ fail_of e)) → told r ≡ s
told-is (Ok x) s e = sym e
told-is (Err e) (Ok x) h = absurd h
told-is (Err e) (Err f) h = ap Err (sym h)

pub told-ok : (r : Result PollAnswer NextFail) (a : PollAnswer) → told r ≡ Ok a → r ≡ Ok a
told-ok (Ok b) a e = cc
told-ok (Err f) a e = cc

pub fits-now : (hs hs' : List Header) (cs cs' : List ℕ) (t : TargetState) → hs' ≡ hs → cs' ≡ cs → FitsFeed hs cs t → FitsFeed hs' cs' t
fits-now hs hs' cs cs' t eh ec f = subst (λ h. FitsFeed h cs' t) (sym eh) (subst (λ c. FitsFeed hs c t) (sym ec) f)

-- the headers that a tablet keeps are those of the pollers
pub headers-here : (hs : List Header) (cs : List ℕ) (t : TargetState) (id : ℕ) (q : PollerState) (x : TargetTablet) → FitsFeed hs cs t
    → slice_get t.pollers id ≡ Some q → IsPartition (map range_of t.tablets) → x ≡ get_or t.tablets 0 x
    → x.floors.headers ≡ headers_of_pollers t.pollers
headers-here hs cs t id q x f at whole is = go t.tablets f.tablets whole is
  where
    go : (xs : List TargetTablet) → Each (λ x. Each (λ p. CanPoll hs cs p x) t.pollers) xs → IsPartition (map range_of xs)
        → x ≡ get_or xs 0 x → x.floors.headers ≡ headers_of_pollers t.pollers
    go [] h w e = let none : ◌≡◌ {A = ℕ} 0 65536 = w in absurd (omega arith)
    go (y ∷ xs) h w e =
        let can : CanPoll hs cs q y = each-get (λ (p : PollerState). CanPoll hs cs p y) t.pollers id q h.0 at in
        ap (λ (z : TargetTablet). z.floors.headers) e ∙ can.fits.same ∙ sym f.headers_are

-- ---- where the records of a poll cut off went

pub gave-first : (hs : List Header) (cs : List ℕ) (n last id : ℕ) (p q : PollerState) (t u : TargetState) (r : Result PollAnswer NextFail)
    → slice_get t.pollers id ≡ Some p → PollerStopped hs cs n last p q t.tablets u.tablets r → IfOk (told r) (GaveFirst id last t u)
gave-first hs cs n last id p q t u (Ok (poll.Polled k)) at h =
    let batch = h.1.0 in
    (p, (batch.from, (batch.records, (at, (h.1.1.1.0, h.1.1.1.1.1)))))
gave-first hs cs n last id p q t u (Ok (poll.Waits parent)) at h = h.tablets
gave-first hs cs n last id p q t u (Ok poll.AtEnd) at h = h.tablets
gave-first hs cs n last id p q t u (Ok (poll.Halted number kind)) at h = h.tablets
gave-first hs cs n last id p q t u (Err e) at h = tt
