use Rattle.xc_board.specs.Seats.{KeepsSeat}
use Rattle.xc_board.proofs.tests.watch.Given as goal

abbrev pub invariant-loop : goal.invariant-loop
invariant-loop l = KeepsSeat l.board l.fn.seat l.seat
