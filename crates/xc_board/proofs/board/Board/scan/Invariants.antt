use Rattle.std.proofs.Common.{◌≤◌}
use Rattle.xc_board.specs.Tree.{unbounded}
use Rattle.xc_board.specs.Scans.{Scanning}
use Rattle.xc_board.proofs.board.Board.scan.Given as goal

abbrev pub invariant-loop-next : goal.invariant-loop-next
invariant-loop-next l = Scanning l.fn.seat l.seat l.next l.bound × (l.bound ≤ unbounded)
