use Rattle.std.proofs.Common.{length, sym, ◌∙◌, ap, arith}
use Rattle.xc_board.specs.Seats.{BoardValue, SeatValue}
use Rattle.xc_board.proofs.StepLaws.{observes}
use Rattle.xc_board.proofs.board.Board.observe.Goals as goal

pub load-requires : goal.load-requires
load-requires c =
    let board = c.self.invariant in
    let seat = c.seat.invariant in
    let count = ap length (c.as_slice-count.ensures ∙ sym board.0) in (
      ap (λ (s : SeatValue). s.id) c.seat.view_is ∙ c.requires.seat.0 ∙ sym (ap (λ (b : BoardValue). b.id) c.self.view_is),
      omega (arith, board.1, ap length board.0, count),
      observes _ _ _ c.seat.inside.seat.me _ count seat.1,
    )
