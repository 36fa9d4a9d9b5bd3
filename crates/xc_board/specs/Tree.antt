-- The tablets of a board: the parent of each and the time at which its word ends, by its number.
use Rattle.std.specs.Prelude.{◌≡◌, ℕ, ◌<◌, ◌≤◌, Option, Some, None, List, length, slice_index_or}
use Rattle.xc_board.specs.declared.tablet.WordState.TheVariants.{Waiting}
use Rattle.xc_board.specs.declared.tablet.BoardTablet.{BoardTablet}
use Rattle.xc_base.specs.declared.limits.TheConstants.{MOST_TABLETS}

-- 2^62, which is above every time
abbrev pub unbounded : ℕ
unbounded = 4611686018427387904

-- what stands past the last tablet
abbrev pub no_tablet : BoardTablet
no_tablet = record { parent = None; state = Waiting; ends = 0 }

module _ (ts : List BoardTablet) where
  abbrev pub parent_of : ℕ → Option ℕ
  parent_of i = (slice_index_or ts i no_tablet).parent

  abbrev pub ends_of : ℕ → ℕ
  ends_of i = (slice_index_or ts i no_tablet).ends

  abbrev pub start_under : Option ℕ → ℕ
  start_under None = 0
  start_under (Some p) = ends_of p

  -- the time at which a tablet's word starts: the end of its parent, and 0 at a root
  abbrev pub start_of : ℕ → ℕ
  start_of i = start_under (parent_of i)

  abbrev pub HasChild : ℕ → Type 0
  HasChild i = (c : ℕ) × (parent_of c ≡ Some i)

-- tablets that a board is made of: a parent has a lower number than its children, and no child ends before its parent
pub record IsTree (ts : List BoardTablet) : Type 0 where
  pub some : 0 < length ts
  pub few : length ts ≤ MOST_TABLETS
  pub ends : (i : ℕ) → ends_of ts i < unbounded
  pub lower : (c p : ℕ) → parent_of ts c ≡ Some p → p < c
  pub rises : (c p : ℕ) → parent_of ts c ≡ Some p → ends_of ts p ≤ ends_of ts c

-- at most the end of each tablet that has no child
abbrev pub IsBelowEnds : List BoardTablet → ℕ → Type 0
IsBelowEnds ts n = (i : ℕ) → i < length ts → ¬ HasChild ts i → n ≤ ends_of ts i
