use Rattle.std.proofs.Common.{subst}
use Rattle.std.proofs.lemmas.Result.{err_from_is_err_and}
use Rattle.xc_poller.specs.Poller.{IsPoller}
use Rattle.xc_poller.proofs.PollLaws.{Ready, ready-of, Came, can-give, poll-call, failed-call, cut-came, cut-stands}
use Rattle.xc_poller.proofs.poller.Poller.stopped_poll.Given.{Over}
use Rattle.xc_poller.proofs.poller.Poller.stopped_poll.Goals as goal
use Rattle.xc_poller.proofs.poller.Poller.stopped_poll.Goals.{In_ok-step, After-cut_off}

ready : (g : Over) (c : In_ok-step g)
    → Ready (g.F.Feed.headers c.args.feed.now) (g.F.Feed.counts c.args.feed.now) c.args.n c.args.self.now c.next_batch.new.self
    c.args.tablets.now c.in_ok-step.step
ready g c =
    let k = c.next_batch.ensures in
    ready-of _ _ _ _ _ _ _ _ _ _ (g.met.F.Feed.shape c.args.feed.now) (subst IsPoller c.self.view_is c.self.invariant)
    k.feed.same_headers k.feed.same_counts k.looked k.fits c.in_ok-step.ensures.step c.requires.can

came : (g : Over) (c : After-cut_off g)
    → Came c.next_batch.new.self c.cut_off.new.self c.args.tablets.now c.cut_off.new.tablets c.in_ok-step.step c.cut_off.result
came g c = cut-came c.args.last _ _ _ _ _ _ c.cut_off.ensures.cut_off

pub returns-in_err-step-clause-call : goal.returns-in_err-step-clause-call
returns-in_err-step-clause-call g c =
    let k = c.in_err-step.ensures in
    let p = err_from_is_err_and c.from_residual.result c.from_residual.ensures.1 in
    rw (p.1, p.2) (failed-call _ _ _ _ _ _ _ _ _ k.feed _ _ k.failed c.requires.can k.stands k.fault)

pub cut_off-requires-clause-can : goal.cut_off-requires-clause-can
cut_off-requires-clause-can g c = can-give _ _ _ _ _ _ _ (ready g (goal.at.cut_off-requires-clause-can g c).In_ok-step)

pub returns-clause-call : goal.returns-clause-call
returns-clause-call g c =
    let a = goal.at.returns-clause-call g c in
    let k = c.in_ok-step.ensures in
    let r = ready g a.In_ok-step in
    poll-call _ _ _ _ _ _ _ _ _ k.feed _ _ _ _ _ r (came g a.After-cut_off)
    (λ logs b st of. cut-stands logs b c.args.last _ _ c.args.tablets.now c.cut_off.new.tablets _ c.cut_off.result st
    c.cut_off.ensures.cut_off)
    k.stands k.step_of (k.fault.quiet (λ e. cc))
