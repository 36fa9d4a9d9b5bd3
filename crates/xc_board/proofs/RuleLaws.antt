-- The rule of a board, said of words, is the one that is said of states.
use Rattle.std.proofs.Common.{◌≡◌, ◌≢◌, ℕ, ◌+◌, ◌<◌, ◌≤◌, List, length, refl, arith, zero-le, lt_of_not-le}
use Rattle.std.specs.Prelude.{◌↔◌, slice_index}
use mathlib.Core.Logic.{dite}
use native.Mathlib.Decide.{dec_le}
use Rattle.atomic_table.specs.Table.{State}
use Rattle.xc_board.specs.declared.tablet.WordState.{WordState}
use Rattle.xc_board.specs.declared.tablet.WordState.TheVariants.{Waiting, At, Gone}
use Rattle.xc_board.specs.declared.tablet.BoardTablet.{BoardTablet}
use Rattle.xc_board.specs.declared.rule.SeatView.{SeatView}
use Rattle.xc_board.specs.Tree.{ends_of, start_of, IsTree}
use Rattle.xc_board.specs.Words.{gone, word_of, state_of}
use Rattle.xc_board.specs.States.{FitsState, AreStates, KnowsAll}
use Rattle.xc_board.specs.Rule.{Fits, AreWords, HasNoGap, AreTogether, FitsSeat, Holds}
use Rattle.xc_board.specs.Laws.{WordsAreStates, IsSoundView, IsSound}
use Rattle.xc_board.proofs.TreeLaws.{child_inside, start_le-ends}
use Rattle.xc_board.proofs.WordLaws.{word_le-gone}
use Rattle.xc_board.proofs.StateLaws.{by_state, is_waiting, is_gone, is_time, past_of}

-- what fits a word by the implication fits what it stands for
pub fits_state : (ts : List BoardTablet) (b i x : ℕ) → (x ≢ 0 → start_of ts i < x) → Fits ts b i x → FitsState ts b i (state_of x)
fits_state ts b i x starts fits =
    by_state (FitsState ts b i) x
    (λ e. dite (dec_le b (start_of ts i)) (λ le. le) (λ above. let a = fits (lt_of_not-le above) in absurd (omega arith)))
    (λ t e ne. let s = starts (λ zero'. omega arith) in dite (dec_le b (start_of ts i)) (λ le. omega arith)
    (λ above. let a = fits (lt_of_not-le above) in omega arith))
    (λ _. tt)

-- and the other way round
pub fits_word : (ts : List BoardTablet) (b i x : ℕ) → b < gone → FitsState ts b i (state_of x) → Fits ts b i x
fits_word ts b i x small =
    by_state (λ s. FitsState ts b i s → Fits ts b i x) x
    (λ e le low. absurd (omega arith))
    (λ t e ne le low. omega arith)
    (λ e _ low. omega arith)

pub no_gap-states : (ts : List BoardTablet) (word : ℕ → ℕ) → HasNoGap ts word → KnowsAll ts (λ i. state_of (word i))
no_gap-states ts word h = record {
  roots = λ i within root waits. h.roots i within root (is_waiting (word i) waits);
  children = λ p c out child waits. h.children p c (is_gone (word p) out) child (is_waiting (word c) waits);
}

pub together_states : (ts : List BoardTablet) (word : ℕ → ℕ) → AreTogether ts word → AreStates ts (λ i. state_of (word i))
together_states ts word h = record {
  ends = λ i t within at. let is = is_time (word i) t at in let top = h.words.ends i within is.1 in let e = is.0 in omega arith;
  starts = λ i t within at. let e = (is_time (word i) t at).0 in let low = h.words.starts i within (λ zero'. omega arith) in omega arith;
  childless = λ i within out. h.childless i within (is_gone (word i) out);
  all = no_gap-states ts word h.all;
}

module _ (ts : List BoardTablet) (state : ℕ → WordState) (tree : IsTree ts) (h : AreStates ts state) where
  word_ends : (i : ℕ) → i < length ts → (s : WordState) → state i ≡ s → word_of s ≢ gone → word_of s ≤ ends_of ts i + 1
  word_ends i within Waiting at ne = zero-le
  word_ends i within (At t) at ne = let top = h.ends i t within at in omega arith
  word_ends i within Gone at ne = absurd (ne refl)

  word_starts : (i : ℕ) → i < length ts → (s : WordState) → state i ≡ s → word_of s ≢ 0 → start_of ts i < word_of s
  word_starts i within Waiting at ne = absurd (ne refl)
  word_starts i within (At t) at ne = let low = h.starts i t within at in omega arith
  word_starts i within Gone at ne = let low = start_le-ends ts tree i in let top = tree.ends i in omega arith

  word_waits : (s : WordState) → word_of s ≡ 0 → s ≡ Waiting
  word_waits Waiting e = refl
  word_waits (At t) e = absurd (omega arith)
  word_waits Gone e = absurd (omega arith)

  word_out : (i : ℕ) → i < length ts → (s : WordState) → state i ≡ s → word_of s ≡ gone → s ≡ Gone
  word_out i within Waiting at e = absurd (omega arith)
  word_out i within (At t) at e = let top = h.ends i t within at in let end = tree.ends i in absurd (omega arith)
  word_out i within Gone at e = refl

  pub states_together : AreTogether ts (λ i. word_of (state i))
  states_together = record {
    words = record { ends = λ i within. word_ends i within (state i) refl; starts = λ i within. word_starts i within (state i) refl };
    all = record {
      roots = λ i within root e. h.all.roots i within root (word_waits (state i) e);
      children = λ p c out child e.
          let inside = child_inside ts c p child in
          let before = tree.lower c p child in
          h.all.children p c (word_out p (omega arith) (state p) refl out) child (word_waits (state c) e);
    };
    childless = λ i within out. h.childless i within (word_out i within (state i) refl out);
  }

pub view_sound : (ts : List BoardTablet) (word : ℕ → ℕ) (mark : ℕ) (v : SeatView) → IsTree ts → AreTogether ts word
    → FitsSeat ts word mark v → IsSoundView ts (λ i. state_of (word i)) mark v
view_sound ts word mark v tree together h = record {
  seen = h.seen;
  known = λ i within. past_of (slice_index v.known i) (word i) (h.past i within) (word_le-gone ts word i tree together.words within);
  bound = λ i before. fits_state ts v.bound i (word i) (together.words.starts i (let n = h.next in omega arith)) (h.scan i before);
}

pub rule_sound : (ts : List BoardTablet) (s : State (Unit {0}) SeatView) → Holds ts s
    → IsSound ts (λ i. state_of (slice_index s.words i)) (slice_index s.words (length ts)) s.views
rule_sound ts s h =
    let word : ℕ → ℕ = slice_index s.words in
    record {
      states = together_states ts word h.together;
      mark = λ i within. fits_state ts (word (length ts)) i (word i) (h.together.words.starts i within) (h.mark i within);
      seats = λ p v at live. view_sound ts word (word (length ts)) v h.tree h.together (h.seats p v at live);
    }

pub three_cases : (ts : List BoardTablet) (word : ℕ → ℕ) (b i : ℕ) → AreWords ts word → i < length ts → b < gone
    → (Fits ts b i (word i) ↔ FitsState ts b i (state_of (word i)))
three_cases ts word b i words within small = (fits_state ts b i (word i) (words.starts i within), fits_word ts b i (word i) small)

pub words_are_states : (ts : List BoardTablet) → IsTree ts → WordsAreStates ts
words_are_states ts tree = record { states = together_states ts; words = λ state h. states_together ts state tree h }
