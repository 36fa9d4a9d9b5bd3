use Rattle.xc_poller.specs.Polled.{TookFirst}
use Rattle.xc_poller.proofs.delivery.deliver_first.Given as goal

abbrev pub invariant-loop-i : goal.invariant-loop-i
invariant-loop-i l = TookFirst l.id l.from l.records l.i l.fn.tablets l.tablets
