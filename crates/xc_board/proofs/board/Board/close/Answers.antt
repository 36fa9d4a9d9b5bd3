use Rattle.std.proofs.Common.{◌≤◌, length, sym, ◌∙◌, ap, subst, arith}
use Rattle.xc_board.specs.Tree.{IsBelowEnds}
use Rattle.xc_board.specs.Seats.{BoardValue, SeatValue}
use Rattle.xc_board.proofs.StepLaws.{closes}
use Rattle.xc_board.proofs.board.Board.close.Goals as goal

pub close_with-closed-requires : goal.close_with-closed-requires
close_with-closed-requires c = ap (λ (s : SeatValue). s.id) c.seat.view_is ∙ c.requires.seat.0
    ∙ sym (ap (λ (b : BoardValue). b.id) c.self.view_is)

pub free-requires : goal.free-requires
free-requires c k under = absurd (omega (arith, under, c.close_with-closed.ensures.counts.1, c.self.invariant.3))

pub returns-clause-seen : goal.returns-clause-seen
returns-clause-seen c =
    let last = ap length (c.as_slice.ensures ∙ sym c.self.invariant.0) in
    let r = closes _ _ _ _ _ _ c.word-last.result c.seat.invariant.1 last c.word-last.ensures c.close_with-closed.ensures.values.2 in
    subst (λ (s : SeatValue). s.seen ≤ c.word-last.result) c.seat.view_is r.0

pub returns-clause-ends : goal.returns-clause-ends
returns-clause-ends c =
    let last = ap length (c.as_slice.ensures ∙ sym c.self.invariant.0) in
    let r = closes _ _ _ _ _ _ c.word-last.result c.seat.invariant.1 last c.word-last.ensures c.close_with-closed.ensures.values.2 in
    subst (λ ts. IsBelowEnds ts c.word-last.result) (c.self.invariant.0 ∙ ap (λ (b : BoardValue). b.tablets) c.self.view_is) r.1
