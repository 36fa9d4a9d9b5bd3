-- How contracts see the fields of a board and of a seat, and what holds of these.
use Rattle.std.specs.Prelude.{◌≡◌, ◌+◌, true, [], map, length, slice_index}
use Rattle.atomic_table.specs.Seated.{TableId}
use Rattle.xc_board.specs.declared.board.Board.TheInside.{Inside as BoardFields}
use Rattle.xc_board.specs.declared.board.BoardSeat.TheInside.{Inside as SeatFields}
use Rattle.xc_board.specs.declared.rule.SeatView.{SeatView}
use Rattle.xc_board.specs.Tree.{unbounded, IsTree}
use Rattle.xc_board.specs.Words.{state_of}
use Rattle.xc_board.specs.Rule.{AreWords}
use Rattle.xc_board.specs.Steps.{Seated}
use Rattle.xc_board.specs.Seats.{BoardValue, SeatValue}

abbrev pub value_of_board : BoardFields → BoardValue
value_of_board b = record { id = b.table.shared.table_id; tablets = b.tablets }

-- the table's key is the tablets, and it has a word for each and one for the watermark
abbrev pub IsBoard : BoardFields → Type 0
IsBoard b = (b.table.shared.key ≡ b.tablets) × (b.table.shared.table_id.words ≡ length b.tablets + 1) × IsTree b.tablets
    × (b.table.shared.table_id.slots ≡ 0)

abbrev pub value_of_view : TableId → SeatView → SeatValue
value_of_view id v = record { id = id; tablets = v.tablets; seen = v.seen; known = map state_of v.known }

abbrev pub value_of_seat : SeatFields → SeatValue
value_of_seat s = value_of_view s.seat.table_id s.seat.me.0

-- no scan is under way, and what the seat knows of each tablet may be its word
abbrev pub IsSeated : Seated → Type 0
IsSeated m = (m.1 ≡ []) × (m.0.live ≡ true) × (m.0.next ≡ 0) × (m.0.bound ≡ unbounded) × (length m.0.known ≡ length m.0.tablets)
    × AreWords m.0.tablets (slice_index m.0.known)

abbrev pub IsSeat : SeatFields → Type 0
IsSeat s = IsSeated s.seat.me
