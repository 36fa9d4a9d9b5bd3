-- For callers: what a seat knew stays true over one call after another.
use Rattle.std.proofs.Common.{◌≢◌, ℕ, refl, le_refl, le_trans}
use Rattle.xc_board.specs.declared.tablet.WordState.{WordState}
use Rattle.xc_board.specs.declared.tablet.WordState.TheVariants.{Waiting, At, Gone}
use Rattle.xc_board.specs.States.{IsPast}
use Rattle.xc_board.specs.Seats.{BoardValue, SeatValue, IsSeatOf, KeepsSeat, known_at}

pub past_refl : (s : WordState) → IsPast s s
past_refl Waiting = tt
past_refl (At t) = le_refl t
past_refl Gone = tt

pub past_trans : (s t u : WordState) → IsPast s t → IsPast t u → IsPast s u
past_trans Waiting t u h k = tt
past_trans (At a) Waiting u h k = absurd h
past_trans (At a) (At b) Waiting h k = absurd k
past_trans (At a) (At b) (At c) h k = le_trans h k
past_trans (At a) (At b) Gone h k = tt
past_trans (At a) Gone Waiting h k = absurd k
past_trans (At a) Gone (At c) h k = absurd k
past_trans (At a) Gone Gone h k = tt
past_trans Gone Waiting u h k = absurd h
past_trans Gone (At b) u h k = absurd h
past_trans Gone Gone u h k = k

-- what doesn't wait doesn't wait later
pub past_active : (s t : WordState) → IsPast s t → s ≢ Waiting → t ≢ Waiting
past_active Waiting t h ne = absurd (ne refl)
past_active (At a) Waiting h ne = absurd h
past_active (At a) (At b) h ne = λ e. absurd (cc)
past_active (At a) Gone h ne = λ e. absurd (cc)
past_active Gone Waiting h ne = absurd h
past_active Gone (At b) h ne = absurd h
past_active Gone Gone h ne = ne

pub keeps_refl : (b : BoardValue) (s : SeatValue) → IsSeatOf b s → KeepsSeat b s s
keeps_refl b s seat = record { seat = seat; seen = le_refl s.seen; known = λ i. past_refl (known_at s i) }

pub keeps_then : (b : BoardValue) (s t u : SeatValue) → KeepsSeat b s t → KeepsSeat b t u → KeepsSeat b s u
keeps_then b s t u h k = record {
  seat = k.seat;
  seen = le_trans h.seen k.seen;
  known =
      λ i. past_trans (known_at s i) (known_at t i) (known_at u i) (h.known i) (k.known i);
}

pub keeps_active : (b : BoardValue) (s t : SeatValue) (i : ℕ) → KeepsSeat b s t → known_at s i ≢ Waiting → known_at t i ≢ Waiting
keeps_active b s t i h ne = past_active (known_at s i) (known_at t i) (h.known i) ne
