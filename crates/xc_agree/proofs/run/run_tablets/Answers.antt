use Rattle.xc_agree.proofs.RunLaws.{add_run}
use Rattle.xc_agree.proofs.run.run_tablets.Goals as goal

pub loop-t-preserved : goal.loop-t-preserved
loop-t-preserved c =
    add_run c.loop-t.runs.items c.push.new.self.items c.args.tablets.now c.loop-t.t-index c.t-item.result c.run_of.result
    c.start_of-start.result c.as_slice.result.now c.as_slice-in-loop-t.result.now c.loop-t-test.true c.t-item.is c.loop-t.invariant
    c.as_slice.ensures.value c.start_of-start.ensures c.as_slice-in-loop-t.ensures
    (record {
      reached = c.run_of.ensures.reached;
      accepted = c.run_of.ensures.accepted;
      order = c.run_of.ensures.order;
      halt =
          c.run_of.ensures.halt;
    }) c.in_ok-push.ensures.items
