use Rattle.std.proofs.Common.{take, arith}
use Rattle.std.specs.Prelude.{fold}
use Rattle.xc_agree.specs.Seen.{see}
use Rattle.xc_agree.proofs.LookLaws.{look-more}
use Rattle.xc_agree.specs.Slots.{undone_of}
use Rattle.xc_agree.proofs.look.Look.take_all.Goals as goal

pub loop-r-preserved : goal.loop-r-preserved
loop-r-preserved c = (
  omega (arith, c.in_ok-take.ensures.place),
  λ seen h.
      look-more c.take.new.self c.args.commits.now seen c.args.records.now c.loop-r.r-index c.r-item.result c.loop-r-test.true c.r-item.is
      (c.in_ok-take.ensures.taken
      (λ n x. fold (see n x (undone_of c.args.commits.now n)) (seen n x) (take c.loop-r.r-index c.args.records.now))
      (c.loop-r.invariant.1 seen h)),
)
