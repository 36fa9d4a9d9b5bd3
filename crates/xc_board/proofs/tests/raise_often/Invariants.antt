use Rattle.xc_board.specs.Seats.{KeepsSeat}
use Rattle.xc_board.proofs.tests.raise_often.Given as goal

abbrev pub invariant-loop-turn : goal.invariant-loop-turn
invariant-loop-turn l = KeepsSeat l.board l.fn.seat l.seat
