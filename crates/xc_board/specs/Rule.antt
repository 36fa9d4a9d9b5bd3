-- What holds of a board between any two steps. Its words are those of the tablets, and last the watermark.
use Rattle.std.specs.Prelude.{◌≡◌, ◌≢◌, ℕ, ◌+◌, ◌<◌, ◌≤◌, max, true, Some, None, List, length, slice_index}
use mathlib.Core.Option.{some}
use lib.ListN.{get_elem?}
use Rattle.atomic_table.specs.Table.{State}
use Rattle.xc_board.specs.declared.tablet.WordState.{WordState}
use Rattle.xc_board.specs.declared.tablet.BoardTablet.{BoardTablet}
use Rattle.xc_board.specs.declared.rule.SeatView.{SeatView}
use Rattle.xc_board.specs.Tree.{unbounded, parent_of, ends_of, start_of, HasChild, IsTree}
use Rattle.xc_board.specs.Words.{gone, state_of, words_of, least}
use Rattle.xc_board.specs.States.{IsPast}

-- the number b is at most what the word x of the tablet i counts for: one implication for the three cases of `FitsState`, which
-- `fitting_has_three_cases` proves to be the same. A word that rises keeps it
abbrev pub Fits : List BoardTablet → ℕ → ℕ → ℕ → Type 0
Fits ts b i x = start_of ts i < b → b < x

-- what the word of a tablet may be, whatever the others are: an active one lies from the end of the parent to the tablet's own
pub record AreWords (ts : List BoardTablet) (word : ℕ → ℕ) : Type 0 where
  pub ends : (i : ℕ) → i < length ts → word i ≢ gone → word i ≤ ends_of ts i + 1
  pub starts : (i : ℕ) → i < length ts → word i ≢ 0 → start_of ts i < word i

-- no root waits, and no child of a tablet that is gone
pub record HasNoGap (ts : List BoardTablet) (word : ℕ → ℕ) : Type 0 where
  pub roots : (i : ℕ) → i < length ts → parent_of ts i ≡ None → word i ≢ 0
  pub children : (p c : ℕ) → word p ≡ gone → parent_of ts c ≡ Some p → word c ≢ 0

-- what the words of all tablets may be at one time
pub record AreTogether (ts : List BoardTablet) (word : ℕ → ℕ) : Type 0 where
  pub words : AreWords ts word
  pub all : HasNoGap ts word
  pub childless : (i : ℕ) → i < length ts → word i ≡ gone → HasChild ts i

-- the word of the tablet i may become n
pub record MayBe (ts : List BoardTablet) (word : ℕ → ℕ) (i n : ℕ) : Type 0 where
  pub up : word i ≤ n
  pub ends : n ≢ gone → n ≤ ends_of ts i + 1
  pub starts : n ≢ 0 → start_of ts i < n
  pub childless : n ≡ gone → HasChild ts i
  pub children : (c : ℕ) → n ≡ gone → parent_of ts c ≡ Some i → word c ≢ 0

-- it may rise to k, whatever the words are, at or past these states
abbrev pub MayRise : List BoardTablet → (ℕ → WordState) → ℕ → ℕ → Type 0
MayRise ts state i k = (word : ℕ → ℕ) → IsTree ts → AreTogether ts word
    → ((j : ℕ) → j < length ts → IsPast (state j) (state_of (word j))) → MayBe ts word i (max (word i) k)

-- what holds of one seat: each word is at or past what it knows of it, and its bound fits each word that its scan has passed
pub record FitsSeat (ts : List BoardTablet) (word : ℕ → ℕ) (mark : ℕ) (v : SeatView) : Type 0 where
  pub tablets : v.tablets ≡ ts
  pub size : length v.known ≡ length ts
  pub past : (i : ℕ) → i < length ts → slice_index v.known i ≤ word i
  pub known : AreWords ts (slice_index v.known)
  pub seen : v.seen ≤ mark
  pub bound : v.bound ≤ unbounded
  pub next : v.next ≤ length ts
  pub scan : (i : ℕ) → i < v.next → Fits ts v.bound i (word i)

-- the rule. A view that a join has left is not live, and nothing is said of it
pub record Holds (ts : List BoardTablet) (s : State (Unit {0}) SeatView) : Type 0 where
  pub tree : IsTree ts
  pub size : length s.words ≡ length ts + 1
  pub together : AreTogether ts (slice_index s.words)
  pub mark : (i : ℕ) → i < length ts → Fits ts (slice_index s.words (length ts)) i (slice_index s.words i)
  pub seats : (p : ℕ) (v : SeatView) → get_elem? s.views p ≡ some v → v.live ≡ true
      → FitsSeat ts (slice_index s.words) (slice_index s.words (length ts)) v

-- what the first seat knows
abbrev pub first_view : List BoardTablet → SeatView
first_view ts = record { live = true; tablets = ts; known = words_of ts; next = 0; bound = unbounded; seen = least unbounded (words_of ts) }
