use Rattle.xc_base.proofs.EscapeLaws.{Fills}
use Rattle.xc_base.proofs.word.fill.Given as goal

abbrev pub invariant-loop-at : goal.invariant-loop-at
invariant-loop-at l = Fills l.word l.out l.at l.digits l.len
