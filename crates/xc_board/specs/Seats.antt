-- What contracts see of a board and of a seat at it.
use Rattle.std.specs.Prelude.{◌≡◌, ◌≢◌, ℕ, ◌≤◌, List, max}
use Rattle.atomic_table.specs.Seated.{TableId}
use Rattle.xc_board.specs.declared.tablet.WordState.{WordState}
use Rattle.xc_board.specs.declared.tablet.BoardTablet.{BoardTablet}
use Rattle.xc_board.specs.Tree.{unbounded}
use Rattle.xc_board.specs.Words.{state_of}
use Rattle.xc_board.specs.States.{IsPast, state_at, least_time}

-- which board it is, and the tablets that it was made of
pub record BoardValue : Type 0 where
  pub id : TableId
  pub tablets : List BoardTablet

-- which board it is a seat of, the greatest watermark that it was told, and the last state that it knows of each tablet
pub record SeatValue : Type 0 where
  pub id : TableId
  pub tablets : List BoardTablet
  pub seen : ℕ
  pub known : List WordState

-- the state that a seat knows of the tablet i
abbrev pub known_at : SeatValue → ℕ → WordState
known_at s i = state_at s.known i

-- the least time of the tablets that a seat knows as active, or 2^62 where it knows none
abbrev pub least_known : SeatValue → ℕ
least_known s = least_time unbounded s.known

abbrev pub IsSeatOf : BoardValue → SeatValue → Type 0
IsSeatOf b s = (s.id ≡ b.id) × (s.tablets ≡ b.tablets)

-- it is a seat of the board that has forgotten nothing: what it had seen hasn't fallen, and it knows each tablet as at least the state
-- that it knew
pub record KeepsSeat (b : BoardValue) (v w : SeatValue) : Type 0 where
  pub seat : IsSeatOf b w
  pub seen : v.seen ≤ w.seen
  pub known : (i : ℕ) → IsPast (known_at v i) (known_at w i)

-- the seat v of the board raised the word of the tablet i from n to the greater of n and k, and is w
pub record RaisedSeat (b : BoardValue) (v w : SeatValue) (i k n : ℕ) : Type 0 where
  pub keeps : KeepsSeat b v w
  pub here : known_at w i ≡ state_of (max n k)
  pub others : (j : ℕ) → j ≢ i → known_at w j ≡ known_at v j
  pub seen : w.seen ≡ v.seen
