use Rattle.xc_source.proofs.WorkloadLaws.{next_pair}
use Rattle.xc_source.proofs.workload.apply_pending.Goals as goal

pub loop-pair-preserved : goal.loop-pair-preserved
loop-pair-preserved c =
    next_pair c.deref-pair-items.result.now c.loop-pair.pair-index (0, 0) c.loop-pair.u c.apply.new.self _ _ c.loop-pair-test.true
    c.in_ok-apply.ensures c.loop-pair.invariant
