use Rattle.std.proofs.Common.{arith}
use Rattle.xc_source.proofs.WorkloadLaws.{next_step, last_step}
use Rattle.xc_source.proofs.workload.do_steps.Goals as goal

pub loop-step-preserved : goal.loop-step-preserved
loop-step-preserved c =
    next_step c.args.size c.loop-step.step c.loop-step.rng c.next_word.result c.next_word.new.self c.loop-step.u c.do_step.new.u _
    (omega arith) c.next_word.ensures c.in_ok-do_step.ensures c.loop-step.invariant

pub returns : goal.returns
returns c =
    last_step c.args.size c.loop-step.step c.loop-step.rng c.loop-step.u c.finish.new.self _ c.loop-step-test.false c.in_ok-finish.ensures
    c.loop-step.invariant
