use Rattle.std.proofs.Common.{sym, ◌∙◌, subst, arith}
use Rattle.xc_board.specs.declared.tablet.WordState.TheVariants.{At}
use Rattle.xc_board.specs.Seats.{known_at}
use Rattle.xc_board.specs.States.{IsPast}
use Rattle.xc_board.proofs.WordLaws.{may_start}
use Rattle.xc_board.proofs.ValueLaws.{past_put, active_put}
use Rattle.xc_board.proofs.board.Board.activate.Goals as goal

pub raise_word-requires-clause-may : goal.raise_word-requires-clause-may
raise_word-requires-clause-may c = rw c.start_of-start.ensures.0 (may_start _ (known_at c.args.seat.now) c.args.id c.requires.id)

pub returns-clause-active : goal.returns-clause-active
returns-clause-active c waits =
    active_put c.raise_word.result c.start_of-start.result (sym c.raise_word.ensures.here ∙ waits)

pub returns-clause-known : goal.returns-clause-known
returns-clause-known c =
    let start = c.start_of-start.ensures in
    subst (λ t. IsPast (At t) (known_at c.raise_word.new.seat c.args.id)) start.0
    (subst (IsPast (At c.start_of-start.result)) (sym c.raise_word.ensures.here)
    (past_put c.raise_word.result c.start_of-start.result (omega (arith, c.raise_word.type_inv)) (omega (arith, start.1))))
