use Rattle.std.proofs.Common.{◌∙◌, arith}
use Rattle.xc_board.specs.Seats.{known_at}
use Rattle.xc_board.proofs.WordLaws.{may_retire}
use Rattle.xc_board.proofs.ValueLaws.{gone_put}
use Rattle.xc_board.proofs.board.Board.retire.Goals as goal

pub raise_word-requires-clause-may : goal.raise_word-requires-clause-may
raise_word-requires-clause-may c = may_retire _ (known_at c.args.seat.now) c.args.id c.requires.id c.requires.children c.requires.active

pub returns-clause-known : goal.returns-clause-known
returns-clause-known c = c.raise_word.ensures.here ∙ gone_put c.raise_word.result (omega (arith, c.raise_word.type_inv))
