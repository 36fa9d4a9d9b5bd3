use Rattle.xc_board.proofs.KeepLaws.{keeps_active}
use Rattle.xc_board.proofs.tests.raise_often.Goals as goal

pub raise-requires-clause-known : goal.raise-requires-clause-known
raise-requires-clause-known c = keeps_active c.args.board.now c.args.seat c.loop-turn.seat c.args.id c.loop-turn.invariant c.requires.known
