-- What the word of a tablet stands for: it waits, is active at a time, or is gone.
use Rattle.std.specs.Prelude.{◌≡◌, ◌≢◌, ℕ, ◌<◌, ◌≤◌, None, Some, List, [], ◌∷◌, map, min, max, length, slice_index_or, ⊤}
use Rattle.xc_board.specs.declared.tablet.WordState.{WordState}
use Rattle.xc_board.specs.declared.tablet.WordState.TheVariants.{Waiting, At, Gone}
use Rattle.xc_board.specs.declared.tablet.BoardTablet.{BoardTablet}
use Rattle.xc_board.specs.Tree.{parent_of, ends_of, start_of, HasChild, IsTree}

-- the second is at or past the first, in the order in which a word changes: it waits, its time rises, it is gone
abbrev pub IsPast : WordState → WordState → Type 0
IsPast Waiting s = ⊤
IsPast (At t) Waiting = ⊥
IsPast (At t) (At u) = t ≤ u
IsPast (At t) Gone = ⊤
IsPast Gone Waiting = ⊥
IsPast Gone (At u) = ⊥
IsPast Gone Gone = ⊤

-- the later of two in that order
abbrev pub later : WordState → WordState → WordState
later Waiting s = s
later (At t) Waiting = At t
later (At t) (At u) = At (max t u)
later (At t) Gone = Gone
later Gone s = Gone

abbrev pub states_of : List BoardTablet → List WordState
states_of ts = map (λ t. t.state) ts

abbrev pub state_at : List WordState → ℕ → WordState
state_at states i = slice_index_or states i Waiting

-- the lesser of a bound and a state's time, where it is active
abbrev pub lesser_time : ℕ → WordState → ℕ
lesser_time b Waiting = b
lesser_time b (At t) = min b t
lesser_time b Gone = b

-- the least time of the active states, or the bound where that is less
abbrev pub least_time : ℕ → List WordState → ℕ
least_time b [] = b
least_time b (s ∷ ss) = least_time (lesser_time b s) ss

-- the number b is at most what the tablet i counts for: its time; while it waits, the end of its parent, at which it will start; once it
-- is gone, nothing bounds b
abbrev pub FitsState : List BoardTablet → ℕ → ℕ → WordState → Type 0
FitsState ts b i Waiting = b ≤ start_of ts i
FitsState ts b i (At t) = b ≤ t
FitsState ts b i Gone = ⊤

-- no root waits, and no child of a tablet that is gone
pub record KnowsAll (ts : List BoardTablet) (state : ℕ → WordState) : Type 0 where
  pub roots : (i : ℕ) → i < length ts → parent_of ts i ≡ None → state i ≢ Waiting
  pub children : (p c : ℕ) → state p ≡ Gone → parent_of ts c ≡ Some p → state c ≢ Waiting

-- states that tablets may be in: a time lies from the end of the parent to the tablet's own, a childless tablet isn't gone, and nothing
-- is missing between a tablet that is gone and its children
pub record AreStates (ts : List BoardTablet) (state : ℕ → WordState) : Type 0 where
  pub ends : (i t : ℕ) → i < length ts → state i ≡ At t → t ≤ ends_of ts i
  pub starts : (i t : ℕ) → i < length ts → state i ≡ At t → start_of ts i ≤ t
  pub childless : (i : ℕ) → i < length ts → state i ≡ Gone → HasChild ts i
  pub all : KnowsAll ts state

-- tablets that a board may be made of
pub record IsStart (ts : List BoardTablet) : Type 0 where
  pub tree : IsTree ts
  pub states : AreStates ts (state_at (states_of ts))
