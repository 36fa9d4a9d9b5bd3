use Rattle.std.proofs.Common.{◌∙◌, min, ap, sym, arith}
use Rattle.std.proofs.lemmas.List.{at_drop_all}
use Rattle.xc_target.specs.Target.{least_open}
use Rattle.xc_target.proofs.LookLaws.{least-start, least-end}
use Rattle.xc_target.proofs.looks.least_open.Goals as goal

pub loop-poller-init : goal.loop-poller-init
loop-poller-init c = record {
  so_far = least-start c.args.pollers.now;
  within = omega arith;
}

pub returns : goal.returns
returns c =
    let none = at_drop_all least_open c.args.pollers.now c.loop-poller.poller-index (omega arith) in
    sym (least-end c.loop-poller.least c.loop-poller.invariant.within) ∙ ap (min c.loop-poller.least) (sym none)
    ∙ c.loop-poller.invariant.so_far
