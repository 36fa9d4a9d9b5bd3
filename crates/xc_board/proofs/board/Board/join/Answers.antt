use Rattle.std.proofs.Common.{◌≡◌, List, length, refl, sym, ◌∙◌, ap, subst, arith}
use Rattle.std.specs.Prelude.{slice_index}
use Rattle.xc_board.specs.declared.tablet.BoardTablet.{BoardTablet}
use Rattle.xc_board.specs.Tree.{IsTree}
use Rattle.xc_board.specs.Rule.{AreWords}
use Rattle.xc_board.specs.Steps.{Seated, greater, merged}
use Rattle.xc_board.specs.Seats.{BoardValue, SeatValue, KeepsSeat, known_at}
use Rattle.xc_board.specs.States.{later}
use Rattle.xc_board.specs.Inside.{value_of_view, IsSeated}
use Rattle.xc_board.proofs.SeatLaws.{words_greater, length-greater, greater_at}
use Rattle.xc_board.proofs.StepLaws.{joins}
use Rattle.xc_board.proofs.ValueLaws.{keeps_seat, joined_known}
use Rattle.xc_board.proofs.board.Board.join.Goals as goal

pub join_seat-requires : goal.join_seat-requires
join_seat-requires c =
    let id = sym (ap (λ (b : BoardValue). b.id) c.self.view_is) in (
      ap (λ (s : SeatValue). s.id) c.into.view_is ∙ c.requires.into.0 ∙ id,
      ap (λ (s : SeatValue). s.id) c.from.view_is ∙ c.requires.from.0 ∙ id,
      c.from.invariant.0,
      omega (arith, c.self.invariant.1),
      joins _ _ _ _ _ c.into.invariant.1 c.from.invariant.1,
    )

tree : (c : goal.After-join_seat) → IsTree c.args.self.now.tablets
tree c = subst (λ (b : BoardValue). IsTree b.tablets) c.self.view_is c.self.invariant.2

-- both seats have the tablets of the board
into-tablets : (c : goal.After-join_seat) → c.into.inside.seat.me.0.tablets ≡ c.args.self.now.tablets
into-tablets c = ap (λ (s : SeatValue). s.tablets) c.into.view_is ∙ c.requires.into.1

from-tablets : (c : goal.After-join_seat) → c.from.inside.seat.me.0.tablets ≡ c.args.self.now.tablets
from-tablets c = ap (λ (s : SeatValue). s.tablets) c.from.view_is ∙ c.requires.from.1

size : (c : goal.After-join_seat)
    → length (greater c.into.inside.seat.me.0.known c.from.inside.seat.me.0.known) ≡ length c.into.inside.seat.me.0.tablets
size c =
    length-greater _ _ (c.into.invariant.4 ∙ ap length (into-tablets c ∙ sym (from-tablets c)) ∙ sym c.from.invariant.4)
    ∙ c.into.invariant.4

words : (c : goal.After-join_seat)
    → AreWords c.into.inside.seat.me.0.tablets (slice_index (greater c.into.inside.seat.me.0.known c.from.inside.seat.me.0.known))
words c =
    let w = c.from.inside.seat.me.0 in
    words_greater _ _ w.known c.into.invariant.5
    (subst (λ (ts : List BoardTablet). AreWords ts (slice_index w.known)) (from-tablets c ∙ sym (into-tablets c)) c.from.invariant.5)

pub invariant_of-into : goal.invariant_of-into
invariant_of-into c =
    subst IsSeated (sym c.join_seat.ensures.2)
    (c.into.invariant.0, c.into.invariant.1, c.into.invariant.2, c.into.invariant.3, size c, words c)

pub returns-clause-seat : goal.returns-clause-seat
returns-clause-seat c =
    let v = c.into.inside.seat.me.0 in
    let w = c.from.inside.seat.me.0 in
    subst (λ (m : Seated). KeepsSeat c.args.self.now c.args.into.now (value_of_view c.join_seat.new.seat.table_id m.0))
    (sym c.join_seat.ensures.2)
    (keeps_seat c.args.self.now c.args.into.now _ _ v (merged v w) (tree c) c.into.view_is c.requires.into c.join_seat.ensures.0 refl
    (omega arith) (size c) (words c)
    (λ i. let e = greater_at v.known w.known i in omega (arith, e)))

pub returns-clause-known : goal.returns-clause-known
returns-clause-known c =
    let v = c.into.inside.seat.me.0 in
    let w = c.from.inside.seat.me.0 in
    λ i.
    ap (λ (m : Seated). known_at (value_of_view c.join_seat.new.seat.table_id m.0) i) c.join_seat.ensures.2
    ∙ joined_known c.args.self.now c.join_seat.new.seat.table_id v w (tree c) (into-tablets c) (from-tablets c) c.into.invariant.4
    c.from.invariant.4 c.into.invariant.5 c.from.invariant.5 i
    ∙ ap (λ (s : SeatValue). later (known_at s i) (known_at (value_of_view c.join_seat.new.seat.table_id w) i)) c.into.view_is
    ∙ ap (λ (s : SeatValue). later (known_at c.args.into.now i) (known_at s i)) c.from.view_is
