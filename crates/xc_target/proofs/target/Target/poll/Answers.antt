-- A poll makes the step of the session that one call of its poller makes; where that closes its tablet, the children are
-- opened.
use Rattle.std.proofs.Common.{◌≡◌, ◌∙◌, true, false, map, get_or, ap, sym, refl, subst, ℕ, List, Some, Result, Ok}
use Rattle.std.specs.Prelude.{slice_get, slice_set, IfSome}
use Rattle.std.specs.List.{AllZip}
use Rattle.std.specs.Vec.{with_items, with_item}
use Rattle.std.specs.declared.vec.Vec.{Vec}
use Rattle.std.proofs.lemmas.List.{with_items_is}
use Rattle.std.proofs.lemmas.List.Elements.{length_all_zip}
use Rattle.std.proofs.lemmas.Option.{IfSome_then}
use Rattle.std.proofs.lemmas.Result.{err_from_is_err_and}
use Rattle.xc_record.specs.declared.session.PollAnswer.{PollAnswer}
use Rattle.xc_record.specs.declared.session.PollAnswer.TheVariants as poll
use Rattle.xc_record.specs.Session.{Session, IsSession}
use Rattle.xc_record.specs.Bounds.{IsPartition}
use Rattle.xc_model.specs.Rows.{range_of}
use Rattle.xc_model.specs.Stands.{TargetTablet}
use Rattle.xc_poller.specs.Poller.{PollerState, is_closed}
use Rattle.xc_target.specs.declared.answers.TargetFail.{TargetFail}
use Rattle.xc_target.specs.Target.{TargetState, headers_of_pollers, FitsFeed, Opens}
use Rattle.xc_target.specs.Stands.{StandsForSession}
use Rattle.xc_target.specs.Answers.{Keeps, IsPolled, MovesOn}
use Rattle.xc_target.proofs.CursorLaws.{moves-there, opened-there}
use Rattle.xc_target.proofs.MoveLaws.{seen, get-set-here}
use Rattle.xc_target.proofs.PollFacts.{polled-ended}
use Rattle.xc_target.proofs.PollSteps.{Called, make-called, put_in, with_pollers, told, told-ok, length-called, same-ranges}
use Rattle.xc_target.proofs.PollSteps.{ranges-called}
use Rattle.xc_target.proofs.PollSteps.{fits-called, fits-children, fits-now, headers-here, after-open, after-shut, after-idle, polled-step}
use Rattle.xc_target.proofs.PollSteps.{after_call}
use Rattle.xc_target.proofs.target.Target.poll.Given.{Over}
use Rattle.xc_target.proofs.target.Target.poll.Goals as goal
use Rattle.xc_target.proofs.target.Target.poll.Goals.{After-poll-polled}

abbrev before : (g : Over) → After-poll-polled g → TargetState
before g c = seen c.self.inside

called : (g : Over) (c : After-poll-polled g)
    → Called (g.F.Feed.headers c.args.feed.now) (g.F.Feed.counts c.args.feed.now) (g.F.Feed.logs c.args.feed.now) c.args.n c.args.id
    (before g c) c.index_mut-poller.result.now c.poll-polled.new.self c.poll-polled.new.tablets c.poll-polled.result
called g c =
    let k = c.poll-polled.ensures in
    make-called _ _ _ _ _ _ _ _ (before g c) c.args.self.now _ _ c.deref_mut.result.now _ _ c.self.view_is c.in_default.is
    c.requires.known c.index_mut-poller.ensures.value c.deref_mut.ensures.value k.call (polled-ended _ _ _ _ _ _ _ _ k.polled)

-- the tablets after it
abbrev tablets : (g : Over) → After-poll-polled g → List TargetTablet
tablets g c = (with_items c.self.inside.tablets c.poll-polled.new.tablets).items

tablets-are : (g : Over) (c : After-poll-polled g) → tablets g c ≡ c.poll-polled.new.tablets
tablets-are g c = with_items_is c.self.inside.tablets c.poll-polled.new.tablets
    (length-called _ _ _ _ _ _ _ _ _ _ (called g c) ∙ sym c.self.inside.tablets.ok.0)

shares-out : (g : Over) (c : After-poll-polled g) → IsPartition (map range_of (tablets g c))
shares-out g c = subst (λ (w : List TargetTablet). IsPartition (map range_of w)) (sym (tablets-are g c))
    (ranges-called _ _ _ _ _ _ _ _ _ _ (called g c) c.self.invariant.ranges)

ranges-are : (g : Over) (c : After-poll-polled g) → map range_of (tablets g c) ≡ map range_of c.args.self.now.tablets
ranges-are g c = ap (map range_of) (tablets-are g c) ∙ same-ranges _ _ _ _ _ _ _ _ _ _ (called g c)
    ∙ ap (λ (t : TargetState). map range_of t.tablets) c.self.view_is

-- the poller is put back
abbrev put : (g : Over) → After-poll-polled g → List PollerState
put g c = slice_set c.self.inside.pollers.items c.args.id c.poll-polled.new.self

fitted : (g : Over) (c : After-poll-polled g) → FitsFeed (g.F.Feed.headers c.args.feed.now) (g.F.Feed.counts c.args.feed.now) (before g c)
fitted g c = subst (FitsFeed (g.F.Feed.headers c.args.feed.now) (g.F.Feed.counts c.args.feed.now)) (sym c.self.view_is) c.requires.fits

-- the pollers after children were opened
pollers-are : {Z : Type 0} (v : Vec PollerState Z) (q : PollerState) (rs : List PollerState) → AllZip (Opens q) v.items rs
    → (with_items v rs).items ≡ rs
pollers-are v q rs z = with_items_is v rs (sym (length_all_zip (Opens q) v.items rs z) ∙ sym v.ok.0)

-- a target with these pollers fits the feed as it is now, where it fitted the feed before
fits-after : (g : Over) (c : After-poll-polled g) (ps : List PollerState)
    → FitsFeed (g.F.Feed.headers c.args.feed.now) (g.F.Feed.counts c.args.feed.now) (with_pollers (before g c) c.poll-polled.new.tablets ps)
    → FitsFeed (g.F.Feed.headers c.poll-polled.new.feed) (g.F.Feed.counts c.poll-polled.new.feed)
    (with_pollers (before g c) (tablets g c) ps)
fits-after g c ps f =
    let k = c.poll-polled.ensures.call in
    fits-now _ _ _ _ _ k.feed.same_headers k.feed.same_counts
    (subst (λ (w : List TargetTablet). FitsFeed (g.F.Feed.headers c.args.feed.now) (g.F.Feed.counts c.args.feed.now)
    (with_pollers (before g c) w ps)) (sym (tablets-are g c)) f)

-- what the call keeps, where the target fits the feed with these pollers
keeps : (g : Over) (c : After-poll-polled g) (ps : List PollerState)
    → FitsFeed (g.F.Feed.headers c.args.feed.now) (g.F.Feed.counts c.args.feed.now) (with_pollers (before g c) c.poll-polled.new.tablets ps)
    → Keeps g.F.Feed.headers g.F.Feed.counts g.F.Feed.logs g.F.Feed.faults c.args.feed.now c.poll-polled.new.feed c.args.self.now
    (with_pollers (before g c) (tablets g c) ps)
keeps g c ps fits = record {
  fits = fits-after g c ps fits;
  ranges = ranges-are g c;
  closed = ap (λ (t : TargetState). t.closed) c.self.view_is;
  feed = c.poll-polled.ensures.call.feed;
}

keeps-put : (g : Over) (c : After-poll-polled g)
    → Keeps g.F.Feed.headers g.F.Feed.counts g.F.Feed.logs g.F.Feed.faults c.args.feed.now c.poll-polled.new.feed c.args.self.now
    (with_pollers (before g c) (tablets g c) (put g c))
keeps-put g c = keeps g c (put g c) (fits-called _ _ _ _ _ _ _ _ _ _ (g.met.F.Feed.shape c.args.feed.now) (called g c) (fitted g c))

-- the step of the session, by what it told
steps : (g : Over) (c : After-poll-polled g) (s : Result PollAnswer TargetFail) → told c.poll-polled.result ≡ s
    → IfSome (g.F.Feed.logs c.args.feed.now) (λ logs. (m : Session) → IsSession logs m → StandsForSession logs m c.args.self.now
    → IsPolled logs m c.args.id c.args.n (with_pollers (before g c) (tablets g c) (after_call s c.poll-polled.new.self (put g c))) s)
steps g c s e =
    let o = g.F.Feed.logs c.args.feed.now in
    let q = c.poll-polled.new.self in
    let r = c.poll-polled.result in
    IfSome_then o
    (polled-step _ _ _ _ _ _ _ _ o r c.deref_mut.result.now (called g c) c.deref_mut.ensures.value c.poll-polled.ensures.polled)
    (λ logs f m session st.
    subst (λ s. IsPolled logs m c.args.id c.args.n (with_pollers (before g c) (tablets g c) (after_call s q (put g c))) s) e
    (subst (λ (w : List TargetTablet). IsPolled logs m c.args.id c.args.n (with_pollers (before g c) w (after_call (told r) q (put g c)))
    (told r))
    (sym (tablets-are g c)) (f m session (subst (StandsForSession logs m) (sym c.self.view_is) st))))

-- the same, where its pollers are these in the end
steps-to : (g : Over) (c : After-poll-polled g) (s : Result PollAnswer TargetFail) (ps : List PollerState)
    → told c.poll-polled.result ≡ s → after_call s c.poll-polled.new.self (put g c) ≡ ps
    → IfSome (g.F.Feed.logs c.args.feed.now) (λ logs. (m : Session) → IsSession logs m → StandsForSession logs m c.args.self.now
    → IsPolled logs m c.args.id c.args.n (with_pollers (before g c) (tablets g c) ps) s)
steps-to g c s ps e f =
    IfSome_then (g.F.Feed.logs c.args.feed.now) (steps g c s e)
    (λ logs h m session st. subst (λ ps. IsPolled logs m c.args.id c.args.n (with_pollers (before g c) (tablets g c) ps) s) f
    (h m session st))

-- a batch was delivered: the cursor moved on, as far as the pollers in the end are these
moves : (g : Over) (c : After-poll-polled g) (k : ℕ) (ps : List PollerState) → told c.poll-polled.result ≡ Ok (poll.Polled k)
    → slice_get ps c.args.id ≡ Some c.poll-polled.new.self
    → MovesOn (g.F.Feed.counts c.args.feed.now) c.args.id c.args.self.now (with_pollers (before g c) (tablets g c) ps) (poll.Polled k)
moves g c k ps e there =
    subst (λ (w : TargetState). MovesOn (g.F.Feed.counts c.args.feed.now) c.args.id w (with_pollers (before g c) (tablets g c) ps)
    (poll.Polled k))
    c.self.view_is
    (moves-there _ _ _ _ _ k _ _ _ c.deref_mut.result.now _ c.poll-polled.result (told-ok c.poll-polled.result (poll.Polled k) e)
    (called g c)
    c.deref_mut.ensures.value c.poll-polled.ensures.polled (g.met.F.Feed.shape c.args.feed.now) (fitted g c)
    (with_pollers (before g c) (tablets g c) ps) there)

pub invariant_of-self : goal.invariant_of-self
invariant_of-self g c = record { ranges = shares-out g (goal.at.invariant_of-self g c).After-poll-polled }

pub invariant_of-self-then-closed : goal.invariant_of-self-then-closed
invariant_of-self-then-closed g c = record { ranges = shares-out g (goal.at.invariant_of-self-then-closed g c).After-poll-polled }

pub invariant_of-self-else-closed : goal.invariant_of-self-else-closed
invariant_of-self-else-closed g c = record { ranges = shares-out g (goal.at.invariant_of-self-else-closed g c).After-poll-polled }

pub returns-in_err-answer-clause-keeps : goal.returns-in_err-answer-clause-keeps
returns-in_err-answer-clause-keeps g c = keeps-put g (goal.at.returns-in_err-answer-clause-keeps g c).After-poll-polled

pub returns-in_default-answer-clause-keeps : goal.returns-in_default-answer-clause-keeps
returns-in_default-answer-clause-keeps g c = keeps-put g (goal.at.returns-in_default-answer-clause-keeps g c).After-poll-polled

pub returns-else-closed-clause-keeps : goal.returns-else-closed-clause-keeps
returns-else-closed-clause-keeps g c = keeps-put g (goal.at.returns-else-closed-clause-keeps g c).After-poll-polled

pub returns-in_err-answer-clause-step : goal.returns-in_err-answer-clause-step
returns-in_err-answer-clause-step g c =
    let a = (goal.at.returns-in_err-answer-clause-step g c).After-poll-polled in
    let p = err_from_is_err_and c.from_residual.result c.from_residual.ensures.1 in
    rw (p.1, p.2) (steps-to g a _ _ (ap told c.in_err-answer.was) refl)

pub returns-in_default-answer-clause-step : goal.returns-in_default-answer-clause-step
returns-in_default-answer-clause-step g c =
    let a = (goal.at.returns-in_default-answer-clause-step g c).After-poll-polled in
    steps-to g a _ _ (ap told c.in_ok-answer.was)
    (after-idle c.in_ok-answer.answer a.poll-polled.new.self (put g a) c.in_default-answer.not-Polled)

pub open_children-requires-clause-headers : goal.open_children-requires-clause-headers
open_children-requires-clause-headers g c =
    let a = (goal.at.open_children-requires-clause-headers g c).After-poll-polled in
    let q = a.poll-polled.new.self in
    let x = c.index.result.now in
    let fits = fits-called _ _ _ _ _ _ _ _ _ _ (g.met.F.Feed.shape a.args.feed.now) (called g a) (fitted g a) in
    let whole = ranges-called _ _ _ _ _ _ _ _ _ _ (called g a) a.self.invariant.ranges in
    let here : x ≡ get_or a.poll-polled.new.tablets 0 x = subst (λ (w : List TargetTablet). x ≡ get_or w 0 x)
    (tablets-are g a) c.index.ensures in
    c.headers.ensures.headers
    ∙ headers-here _ _ (put_in (before g a) a.args.id q a.poll-polled.new.tablets) a.args.id q x fits
    (get-set-here _ a.args.id _ q (called g a).at) whole here
    ∙ ap headers_of_pollers (sym c.deref_mut-then-closed.ensures.value)

pub returns-then-closed-clause-keeps : goal.returns-then-closed-clause-keeps
returns-then-closed-clause-keeps g c =
    let a = (goal.at.returns-then-closed-clause-keeps g c).After-poll-polled in
    let q = a.poll-polled.new.self in
    let rs = c.open_children.new.pollers in
    let opens = subst (λ (w : List PollerState). AllZip (Opens q) w rs) c.deref_mut-then-closed.ensures.value c.open_children.ensures in
    let shut : is_closed q ≡ true = sym c.closed.ensures.closed ∙ c.if-closed.true in
    subst (λ (w : List PollerState). Keeps g.F.Feed.headers g.F.Feed.counts g.F.Feed.logs g.F.Feed.faults a.args.feed.now
    a.poll-polled.new.feed a.args.self.now (with_pollers (before g a) (tablets g a) w))
    (sym (pollers-are (with_item a.self.inside.pollers a.args.id q) q rs opens))
    (keeps g a rs (fits-children _ _ _ _ _ _ _ _ _ _ (g.met.F.Feed.shape a.args.feed.now) (called g a) (fitted g a) shut rs opens))

pub returns-then-closed-clause-step : goal.returns-then-closed-clause-step
returns-then-closed-clause-step g c =
    let a = (goal.at.returns-then-closed-clause-step g c).After-poll-polled in
    let q = a.poll-polled.new.self in
    let rs = c.open_children.new.pollers in
    let opens = subst (λ (w : List PollerState). AllZip (Opens q) w rs) c.deref_mut-then-closed.ensures.value c.open_children.ensures in
    let shut : is_closed q ≡ true = sym c.closed.ensures.closed ∙ c.if-closed.true in
    steps-to g a (Ok (poll.Polled c.in-Polled.count)) _
    (ap told c.in_ok-answer.was ∙ ap Ok c.in-Polled.is)
    (after-open q (put g a) rs shut opens ∙ sym (pollers-are (with_item a.self.inside.pollers a.args.id q) q rs opens))

pub returns-else-closed-clause-step : goal.returns-else-closed-clause-step
returns-else-closed-clause-step g c =
    let a = (goal.at.returns-else-closed-clause-step g c).After-poll-polled in
    let q = a.poll-polled.new.self in
    let shut : is_closed q ≡ false = sym c.closed.ensures.closed ∙ c.if-closed.false in
    steps-to g a (Ok (poll.Polled c.in-Polled.count)) _
    (ap told c.in_ok-answer.was ∙ ap Ok c.in-Polled.is)
    (after-shut q (put g a) shut)

pub returns-then-closed-clause-moves : goal.returns-then-closed-clause-moves
returns-then-closed-clause-moves g c =
    let a = (goal.at.returns-then-closed-clause-moves g c).After-poll-polled in
    let q = a.poll-polled.new.self in
    let rs = c.open_children.new.pollers in
    let opens = subst (λ (w : List PollerState). AllZip (Opens q) w rs) c.deref_mut-then-closed.ensures.value c.open_children.ensures in
    let polled = ap told c.in_ok-answer.was ∙ ap Ok c.in-Polled.is in
    let there = opened-there _ _ _ _ _ c.in-Polled.count _ _ q a.deref_mut.result.now _ a.poll-polled.result
    (told-ok a.poll-polled.result (poll.Polled c.in-Polled.count) polled) (called g a) a.deref_mut.ensures.value
    a.poll-polled.ensures.polled (g.met.F.Feed.shape a.args.feed.now) (fitted g a) rs opens in
    moves g a c.in-Polled.count _ polled
    (ap (λ w. slice_get w a.args.id) (pollers-are (with_item a.self.inside.pollers a.args.id q) q rs opens) ∙ there)

pub returns-else-closed-clause-moves : goal.returns-else-closed-clause-moves
returns-else-closed-clause-moves g c =
    let a = (goal.at.returns-else-closed-clause-moves g c).After-poll-polled in
    moves g a c.in-Polled.count (put g a) (ap told c.in_ok-answer.was ∙ ap Ok c.in-Polled.is)
    (get-set-here _ a.args.id _ a.poll-polled.new.self (called g a).at)
