use Rattle.std.proofs.Common.{sym, subst, arith}
use Rattle.xc_board.specs.declared.tablet.WordState.TheVariants.{At}
use Rattle.xc_board.specs.Tree.{IsTree}
use Rattle.xc_board.specs.Seats.{BoardValue, known_at}
use Rattle.xc_board.specs.States.{IsPast}
use Rattle.xc_board.proofs.WordLaws.{may_raise}
use Rattle.xc_board.proofs.ValueLaws.{past_put}
use Rattle.xc_board.proofs.board.Board.raise.Goals as goal

pub raise_word-requires-clause-may : goal.raise_word-requires-clause-may
raise_word-requires-clause-may c =
    may_raise _ (known_at c.args.seat.now) c.args.id c.args.t c.requires.id c.requires.ends c.requires.known

pub returns-clause-known : goal.returns-clause-known
returns-clause-known c =
    let end = (subst (λ (b : BoardValue). IsTree b.tablets) c.self.view_is c.self.invariant.2).ends c.args.id in
    subst (IsPast (At c.args.t)) (sym c.raise_word.ensures.here)
    (past_put c.raise_word.result c.args.t (omega (arith, c.raise_word.type_inv)) (omega (arith, c.requires.ends, end)))
