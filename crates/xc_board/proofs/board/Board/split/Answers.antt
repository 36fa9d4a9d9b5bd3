use Rattle.std.proofs.Common.{sym, ◌∙◌, ap, arith}
use Rattle.xc_board.specs.Seats.{BoardValue, SeatValue}
use Rattle.xc_board.proofs.StepLaws.{splits}
use Rattle.xc_board.proofs.board.Board.split.Goals as goal

pub split_seat-second-requires : goal.split_seat-second-requires
split_seat-second-requires c = (
  ap (λ (s : SeatValue). s.id) c.seat.view_is ∙ c.requires.seat.0 ∙ sym (ap (λ (b : BoardValue). b.id) c.self.view_is),
  omega (arith, c.self.invariant.1),
  splits _ _ _,
)
