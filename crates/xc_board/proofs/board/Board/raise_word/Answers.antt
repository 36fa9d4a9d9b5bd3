use Rattle.std.proofs.Common.{◌<◌, length, sym, ◌∙◌, ap, subst, arith}
use Rattle.xc_board.specs.Tree.{IsTree}
use Rattle.xc_board.specs.Seats.{BoardValue, SeatValue}
use Rattle.xc_board.proofs.StepLaws.{raises}
use Rattle.xc_board.proofs.ValueLaws.{may_of, raised_seat}
use Rattle.xc_board.proofs.board.Board.raise_word.Goals as goal

pub fetch_max-requires : goal.fetch_max-requires
fetch_max-requires c =
    let board = c.self.invariant in
    let key = board.0 ∙ ap (λ (b : BoardValue). b.tablets) c.self.view_is in
    let size = ap length key in
    let within : c.args.id < length c.self.inside.table.shared.key = omega (arith, size, c.requires.id) in (
      ap (λ (s : SeatValue). s.id) c.seat.view_is ∙ c.requires.seat.0 ∙ sym (ap (λ (b : BoardValue). b.id) c.self.view_is),
      omega (arith, board.1, ap length board.0),
      raises _ _ _ c.seat.inside.seat.me c.args.id c.args.number within c.seat.invariant.1
          (may_of _ _ _ _ c.seat.inside.seat.me.0 c.args.id c.args.number key c.seat.view_is c.requires.may),
    )

pub returns : goal.returns
returns c =
    raised_seat c.args.self.now c.args.seat.now c.seat.inside.seat.table_id c.fetch_max.new.seat.table_id
    c.self.inside.table.shared.table_id.slots c.args.id c.args.number c.fetch_max.result c.seat.inside.seat.me c.fetch_max.new.seat.me
    (subst (λ (b : BoardValue). IsTree b.tablets) c.self.view_is c.self.invariant.2) c.seat.view_is c.requires.seat c.seat.invariant.4
    c.requires.id c.fetch_max.ensures.0 c.fetch_max.ensures.2
