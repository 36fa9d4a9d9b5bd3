-- The rule of a board, said of what its words stand for.
use Rattle.std.specs.Prelude.{◌≡◌, ◌↔◌, ℕ, ◌<◌, ◌≤◌, true, List, length, slice_index}
use mathlib.Core.Option.{some}
use lib.ListN.{get_elem?}
use Rattle.atomic_table.specs.Table.{State}
use Rattle.xc_board.specs.declared.tablet.WordState.{WordState}
use Rattle.xc_board.specs.declared.tablet.BoardTablet.{BoardTablet}
use Rattle.xc_board.specs.declared.rule.SeatView.{SeatView}
use Rattle.xc_board.specs.Tree.{IsTree}
use Rattle.xc_board.specs.Words.{gone, state_of, word_of}
use Rattle.xc_board.specs.States.{IsPast, FitsState, AreStates}
use Rattle.xc_board.specs.Rule.{Fits, AreWords, AreTogether, Holds}

-- the implication of the rule is the three cases: of a word that an active tablet may have, and a number below the word of a tablet that
-- is gone
abbrev pub FittingHasThreeCases : Type 0
FittingHasThreeCases = (ts : List BoardTablet) (word : ℕ → ℕ) (b i : ℕ) → AreWords ts word → i < length ts → b < gone
    → (Fits ts b i (word i) ↔ FitsState ts b i (state_of (word i)))

-- words that may stand together stand for states that may, and the other way round
pub record WordsAreStates (ts : List BoardTablet) : Type 0 where
  pub states : (word : ℕ → ℕ) → AreTogether ts word → AreStates ts (λ i. state_of (word i))
  pub words : (state : ℕ → WordState) → AreStates ts state → AreTogether ts (λ i. word_of (state i))

abbrev pub WordsStandForStates : Type 0
WordsStandForStates = (ts : List BoardTablet) → IsTree ts → WordsAreStates ts

-- what holds of one seat: what it has seen is at most the watermark, each tablet is at or past what it knows of it, and its bound fits
-- each tablet that its scan has passed
pub record IsSoundView (ts : List BoardTablet) (state : ℕ → WordState) (watermark : ℕ) (v : SeatView) : Type 0 where
  pub seen : v.seen ≤ watermark
  pub known : (i : ℕ) → i < length ts → IsPast (state_of (slice_index v.known i)) (state i)
  pub bound : (i : ℕ) → i < v.next → FitsState ts v.bound i (state i)

-- what holds of a board: the tablets are in states that they may be in, the watermark fits each of them, and each live seat is sound
pub record IsSound (ts : List BoardTablet) (state : ℕ → WordState) (watermark : ℕ) (views : List SeatView) : Type 0 where
  pub states : AreStates ts state
  pub mark : (i : ℕ) → i < length ts → FitsState ts watermark i (state i)
  pub seats : (p : ℕ) (v : SeatView) → get_elem? views p ≡ some v → v.live ≡ true → IsSoundView ts state watermark v

-- so the rule says all this between any two steps
abbrev pub RuleIsSound : Type 0
RuleIsSound = (ts : List BoardTablet) (s : State (Unit {0}) SeatView) → Holds ts s
    → IsSound ts (λ i. state_of (slice_index s.words i)) (slice_index s.words (length ts)) s.views
