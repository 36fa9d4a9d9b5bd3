use Rattle.xc_base.proofs.EscapeLaws.{Counts}
use Rattle.xc_base.proofs.word.count.Given as goal

-- The places so far are right, and the bytes so far are counted.
abbrev pub invariant-loop-at : goal.invariant-loop-at
invariant-loop-at l = Counts l.word l.at l.digits l.len
