-- A scan under way.
use Rattle.std.specs.Prelude.{◌≡◌, ℕ, ◌≤◌, true, take, length, slice_index}
use Rattle.atomic_table.specs.declared.shared.Seat.{Seat}
use Rattle.xc_board.specs.declared.rule.SeatView.{SeatView}
use Rattle.xc_board.specs.Tree.{unbounded}
use Rattle.xc_board.specs.Words.{least}
use Rattle.xc_board.specs.Rule.{AreWords}

-- of the seat v at the start of a scan, the seat w now, the next word i, and the least active value b that was loaded so far
pub record Scanning (v w : Seat (Unit {0}) SeatView) (i b : ℕ) : Type 0 where
  pub id : w.table_id ≡ v.table_id
  pub holds : w.me.1 ≡ v.me.1
  pub live : w.me.0.live ≡ true
  pub tablets : w.me.0.tablets ≡ v.me.0.tablets
  pub seen : w.me.0.seen ≡ v.me.0.seen
  pub size : length w.me.0.known ≡ length v.me.0.known
  pub up : (i : ℕ) → slice_index v.me.0.known i ≤ slice_index w.me.0.known i
  pub words : AreWords w.me.0.tablets (slice_index w.me.0.known)
  pub next : w.me.0.next ≡ i
  pub bound : w.me.0.bound ≡ b
  pub loaded : b ≡ least unbounded (take i w.me.0.known)
