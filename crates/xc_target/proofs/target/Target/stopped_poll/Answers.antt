-- A poll cut off makes the step of the session that one call of its poller makes.
use Rattle.std.proofs.Common.{◌≡◌, ◌∙◌, ◌+◌, drop, ap, sym, subst, map, List}
use Rattle.std.specs.Prelude.{IfOk}
use Rattle.std.specs.Vec.{with_items}
use Rattle.std.proofs.lemmas.List.{with_items_is}
use Rattle.std.proofs.lemmas.Option.{IfSome_then}
use Rattle.xc_record.specs.Bounds.{IsPartition}
use Rattle.xc_model.specs.Rows.{range_of}
use Rattle.xc_model.specs.Stands.{TargetTablet}
use Rattle.xc_target.specs.Target.{TargetState, FitsFeed}
use Rattle.xc_target.specs.Stands.{StandsForSession}
use Rattle.xc_poller.specs.Polled.{IsStopped as PollerStopped}
use Rattle.xc_target.specs.Answers.{IsStopped, GaveFirst}
use Rattle.xc_target.proofs.MoveLaws.{seen}
use Rattle.xc_target.proofs.PollFacts.{stopped-ended}
use Rattle.xc_target.proofs.PollSteps.{Called, make-called, put_in, told, told-is, length-called, same-ranges, ranges-called, fits-called}
use Rattle.xc_target.proofs.PollSteps.{fits-now, stopped-step, gave-first}
use Rattle.xc_target.proofs.target.Target.stopped_poll.Given.{Over}
use Rattle.xc_target.proofs.target.Target.stopped_poll.Goals as goal
use Rattle.xc_target.proofs.target.Target.stopped_poll.Goals.{After-stopped_poll-stopped}

abbrev before : (g : Over) → After-stopped_poll-stopped g → TargetState
before g c = seen c.self.inside

called : (g : Over) (c : After-stopped_poll-stopped g)
    → Called (g.F.Feed.headers c.args.feed.now) (g.F.Feed.counts c.args.feed.now) (g.F.Feed.logs c.args.feed.now) c.args.n c.args.id
    (before g c) c.index_mut-poller.result.now c.stopped_poll-stopped.new.self c.stopped_poll-stopped.new.tablets
    c.stopped_poll-stopped.result
called g c =
    let k = c.stopped_poll-stopped.ensures in
    make-called _ _ _ _ _ _ _ _ (before g c) c.args.self.now _ _ c.deref_mut.result.now _ _ c.self.view_is c.in_default.is
    c.requires.known c.index_mut-poller.ensures.value c.deref_mut.ensures.value k.call (stopped-ended _ _ _ _ _ _ _ _ _ k.stopped)

-- the tablets after it
tablets-are : (g : Over) (c : After-stopped_poll-stopped g)
    → (with_items c.self.inside.tablets c.stopped_poll-stopped.new.tablets).items ≡ c.stopped_poll-stopped.new.tablets
tablets-are g c = with_items_is c.self.inside.tablets c.stopped_poll-stopped.new.tablets
    (length-called _ _ _ _ _ _ _ _ _ _ (called g c) ∙ sym c.self.inside.tablets.ok.0)

pub invariant_of-self : goal.invariant_of-self
invariant_of-self g c =
    let a = (goal.at.invariant_of-self g c).After-stopped_poll-stopped in
    record {
      ranges = subst (λ (w : List TargetTablet). IsPartition (map range_of w)) (sym (tablets-are g a))
          (ranges-called _ _ _ _ _ _ _ _ _ _ (called g a) a.self.invariant.ranges);
    }

pub returns-clause-keeps : goal.returns-clause-keeps
returns-clause-keeps g c =
    let a = (goal.at.returns-clause-keeps g c).After-stopped_poll-stopped in
    let q = a.stopped_poll-stopped.new.self in
    let k = a.stopped_poll-stopped.ensures.call in
    let fitted = subst (FitsFeed (g.F.Feed.headers a.args.feed.now) (g.F.Feed.counts a.args.feed.now))
    (sym a.self.view_is) a.requires.fits in
    record {
      fits = subst (λ (w : List TargetTablet). FitsFeed (g.F.Feed.headers a.stopped_poll-stopped.new.feed)
          (g.F.Feed.counts a.stopped_poll-stopped.new.feed) (put_in (before g a) a.args.id q w)) (sym (tablets-are g a))
          (fits-now _ _ _ _ _ k.feed.same_headers k.feed.same_counts
          (fits-called _ _ _ _ _ _ _ _ _ _ (g.met.F.Feed.shape a.args.feed.now) (called g a) fitted));
      ranges = ap (map range_of) (tablets-are g a) ∙ same-ranges _ _ _ _ _ _ _ _ _ _ (called g a)
          ∙ ap (λ (t : TargetState). map range_of t.tablets) a.self.view_is;
      closed = ap (λ (t : TargetState). t.closed) a.self.view_is;
      feed = k.feed;
    }

pub returns-clause-step : goal.returns-clause-step
returns-clause-step g c =
    let a = (goal.at.returns-clause-step g c).After-stopped_poll-stopped in
    let o = g.F.Feed.logs a.args.feed.now in
    let q = a.stopped_poll-stopped.new.self in
    let k = a.stopped_poll-stopped.ensures in
    IfSome_then o
    (stopped-step _ _ _ _ _ _ _ _ o a.args.last a.stopped_poll-stopped.result a.deref_mut.result.now (called g a)
    a.deref_mut.ensures.value k.stopped)
    (λ logs f m session st.
    subst (IsStopped logs m a.args.id a.args.n _) (told-is _ _ c.map_err.ensures.cases)
    (subst (λ (w : List TargetTablet). IsStopped logs m a.args.id a.args.n (put_in (before g a) a.args.id q w)
    (told a.stopped_poll-stopped.result)) (sym (tablets-are g a))
    (f m session (subst (StandsForSession logs m) (sym a.self.view_is) st))))

pub returns-clause-given : goal.returns-clause-given
returns-clause-given g c =
    let a = (goal.at.returns-clause-given g c).After-stopped_poll-stopped in
    let q = a.stopped_poll-stopped.new.self in
    let r = a.stopped_poll-stopped.result in
    let hs = g.F.Feed.headers a.args.feed.now in
    let cs = g.F.Feed.counts a.args.feed.now in
    let p = a.index_mut-poller.result.now in
    let ys = a.stopped_poll-stopped.new.tablets in
    let after = put_in (before g a) a.args.id q (with_items a.self.inside.tablets ys).items in
    let went = gave-first hs cs a.args.n a.args.last a.args.id p q (before g a) (put_in (before g a) a.args.id q ys) r (called g a).at
    (subst (λ (w : List TargetTablet). PollerStopped hs cs a.args.n a.args.last p q w ys r) a.deref_mut.ensures.value
    a.stopped_poll-stopped.ensures.stopped) in
    subst (λ (r : _). IfOk r (GaveFirst a.args.id a.args.last a.args.self.now after)) (told-is _ _ c.map_err.ensures.cases)
    (subst (λ (t : TargetState). IfOk (told r) (GaveFirst a.args.id a.args.last t after)) a.self.view_is
    (subst (λ (w : List TargetTablet). IfOk (told r) (GaveFirst a.args.id a.args.last (before g a) (put_in (before g a) a.args.id q w)))
    (sym (tablets-are g a)) went))

pub returns-clause-others : goal.returns-clause-others
returns-clause-others g c =
    let a = (goal.at.returns-clause-others g c).After-stopped_poll-stopped in
    let past = a.args.last + 1 in
    ap (drop past) (tablets-are g a) ∙ a.stopped_poll-stopped.ensures.others ∙ ap (drop past) a.deref_mut.ensures.value
    ∙ ap (λ (t : TargetState). drop past t.tablets) a.self.view_is
