use Rattle.xc_text.proofs.PlainFronts.{IsFront}
use Rattle.xc_text.proofs.plain_op.plain_front.Given as goal

abbrev pub invariant-loop-i : goal.invariant-loop-i
invariant-loop-i l = IsFront l.i l.hash l.bytes
