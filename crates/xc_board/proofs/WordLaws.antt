-- What the words of a board may become. A board of any words `word : ℕ → ℕ` is meant, on threads or not.
use Rattle.std.proofs.Common.{◌≡◌, ◌≢◌, ℕ, ◌+◌, ◌<◌, ◌≤◌, max, Some, List, length, set, refl, sym, ap, ◌∙◌, subst, arith}
use Rattle.std.proofs.Common.{get_or-set_same, get_or-set_other}
use Rattle.std.specs.Prelude.{slice_index}
use mathlib.Core.Logic.{dite}
use native.Mathlib.Decide.{ℕ_discrete}
use Rattle.xc_board.specs.declared.tablet.WordState.{WordState}
use Rattle.xc_board.specs.declared.tablet.WordState.TheVariants.{Waiting, At, Gone}
use Rattle.xc_board.specs.declared.tablet.BoardTablet.{BoardTablet}
use Rattle.xc_board.specs.Tree.{unbounded, parent_of, ends_of, start_of, HasChild, IsTree}
use Rattle.xc_board.specs.Words.{gone, state_of}
use Rattle.xc_board.specs.States.{IsPast}
use Rattle.xc_board.specs.Rule.{AreWords, AreTogether, MayBe, MayRise}
use Rattle.xc_board.proofs.TreeLaws.{child_inside, start_le-ends}

pub set_same : (l : List ℕ) (i n : ℕ) → i < length l → slice_index (set l i n) i ≡ n
set_same l i n h = get_or-set_same l i n 0 h

pub set_other : (l : List ℕ) (i j n : ℕ) → j ≢ i → slice_index (set l i n) j ≡ slice_index l j
set_other l i j n h = get_or-set_other l i j n 0 h

-- word' is word but at i, where it is n
pub record IsSet (word word' : ℕ → ℕ) (i n : ℕ) : Type 0 where
  pub here : word' i ≡ n
  pub others : (j : ℕ) → j ≢ i → word' j ≡ word j

pub is_set : (l : List ℕ) (i n : ℕ) → i < length l → IsSet (slice_index l) (slice_index (set l i n)) i n
is_set l i n h = record { here = set_same l i n h; others = λ j ne. set_other l i j n ne }

-- a fact of each word holds of the new ones, where it holds of n at i and held of the others
pub at_each : (word word' : ℕ → ℕ) (i n : ℕ) (F : ℕ → ℕ → Type 0) → IsSet word word' i n → F i n → ((j : ℕ) → j ≢ i → F j (word j))
    → (j : ℕ) → F j (word' j)
at_each word word' i n F is mine others j =
    dite (ℕ_discrete j i)
    (λ e. subst (λ k. F k (word' k)) (sym e) (subst (F i) (sym is.here) mine))
    (λ ne. subst (F j) (sym (is.others j ne)) (others j ne))

pub rises : (word word' : ℕ → ℕ) (i n : ℕ) → word i ≤ n → IsSet word word' i n → (j : ℕ) → word j ≤ word' j
rises word word' i n up is j =
    dite (ℕ_discrete j i)
    (λ e. let a : word' j ≡ n = ap word' e ∙ is.here in let b : word j ≡ word i = ap word e in omega arith)
    (λ ne. let a : word' j ≡ word j = is.others j ne in omega arith)

pub words_set : (ts : List BoardTablet) (word word' : ℕ → ℕ) (i n : ℕ) → AreWords ts word → IsSet word word' i n
    → (n ≢ gone → n ≤ ends_of ts i + 1) → (n ≢ 0 → start_of ts i < n) → AreWords ts word'
words_set ts word word' i n h is ends starts = record {
  ends = at_each word word' i n (λ j x. j < length ts → x ≢ gone → x ≤ ends_of ts j + 1) is (λ _. ends) (λ j _. h.ends j);
  starts = at_each word word' i n (λ j x. j < length ts → x ≢ 0 → start_of ts j < x) is (λ _. starts) (λ j _. h.starts j);
}

-- words may stand together still, where one becomes what it may
pub together_set : (ts : List BoardTablet) (word word' : ℕ → ℕ) (i n : ℕ) → AreTogether ts word → IsSet word word' i n → MayBe ts word i n
    → AreTogether ts word'
together_set ts word word' i n h is may =
    let up = rises word word' i n may.up is in
    record {
      words = words_set ts word word' i n h.words is may.ends may.starts;
      all = record {
        roots = λ j within root zero'. h.all.roots j within root (let a = up j in omega arith);
        children = λ j c is_gone e zero'.
            at_each word word' i n (λ k x. x ≡ gone → parent_of ts c ≡ Some k → word c ≢ 0) is (may.children c)
            (λ k _. h.all.children k c) j is_gone e (let a = up c in omega arith);
      };
      childless = at_each word word' i n (λ j x. j < length ts → x ≡ gone → HasChild ts j) is (λ _. may.childless) (λ j _. h.childless j);
    }

-- what may be said of the tablets' words doesn't look past them
pub together_same : (ts : List BoardTablet) (word word' : ℕ → ℕ) → IsTree ts → ((j : ℕ) → j < length ts → word' j ≡ word j)
    → AreTogether ts word → AreTogether ts word'
together_same ts word word' tree same h = record {
  words = record {
    ends = λ i within ne. let e = same i within in subst (λ x. x ≤ ends_of ts i + 1) (sym e) (h.words.ends i within (λ g. ne (e ∙ g)));
    starts = λ i within ne. let e = same i within in subst (λ x. start_of ts i < x) (sym e) (h.words.starts i within (λ g. ne (e ∙ g)));
  };
  all = record {
    roots = λ i within root zero'. h.all.roots i within root (sym (same i within) ∙ zero');
    children = λ p c g e zero'.
        let inside = child_inside ts c p e in
        let before = tree.lower c p e in
        h.all.children p c (sym (same p (omega arith)) ∙ g) e (sym (same c inside) ∙ zero');
  };
  childless = λ i within g. h.childless i within (sym (same i within) ∙ g);
}

-- a word may become an active one, from the start of its tablet to the end
pub may_time : (ts : List BoardTablet) (word : ℕ → ℕ) (i k : ℕ) → i < length ts → IsTree ts → AreTogether ts word → k ≤ ends_of ts i + 1
    → start_of ts i < max (word i) k → MayBe ts word i (max (word i) k)
may_time ts word i k within tree h k_le start =
    let end : ends_of ts i < unbounded = tree.ends i in
    let was : max (word i) k ≡ gone → word i ≡ gone = λ e. omega arith in
    record {
      up = omega arith;
      ends = λ ne. dite (ℕ_discrete (word i) gone) (λ is. absurd (ne (omega arith)))
          (λ other. let a = h.words.ends i within other in omega arith);
      starts = λ _. start;
      childless = λ e. h.childless i within (was e);
      children = λ c e. h.all.children i c (was e);
    }

-- a word at or past a state that doesn't wait isn't 0
past_active : (s : WordState) (x : ℕ) → IsPast s (state_of x) → s ≢ Waiting → x ≢ 0
past_active Waiting x past active = absurd (active refl)
past_active (At t) x past active = λ e. subst (λ y. IsPast (At t) (state_of y)) e past
past_active Gone x past active = λ e. subst (λ y. IsPast Gone (state_of y)) e past

-- a word that is known not to wait may rise to a time
pub may_raise : (ts : List BoardTablet) (state : ℕ → WordState) (i t : ℕ) → i < length ts → t ≤ ends_of ts i → state i ≢ Waiting
    → MayRise ts state i (t + 1)
may_raise ts state i t within end active = λ word tree h past.
    let b : start_of ts i < word i = h.words.starts i within (past_active (state i) (word i) (past i within) active) in
    may_time ts word i (t + 1) within tree h (omega arith) (omega arith)

-- a word may become active at the start of its tablet
pub may_start : (ts : List BoardTablet) (state : ℕ → WordState) (i : ℕ) → i < length ts → MayRise ts state i (start_of ts i + 1)
may_start ts state i within = λ word tree h past.
    let a = start_le-ends ts tree i in
    may_time ts word i (start_of ts i + 1) within tree h (omega arith) (omega arith)

-- a parent may be gone, where none of its children is known to wait
pub may_retire : (ts : List BoardTablet) (state : ℕ → WordState) (i : ℕ) → i < length ts → HasChild ts i
    → ((c : ℕ) → parent_of ts c ≡ Some i → state c ≢ Waiting) → MayRise ts state i gone
may_retire ts state i within has active = λ word tree h past.
    let end : ends_of ts i < unbounded = tree.ends i in
    let start = start_le-ends ts tree i in
    let is : max (word i) gone ≡ gone = dite (ℕ_discrete (word i) gone) (λ e. omega arith)
    (λ other. let a = h.words.ends i within other in omega arith) in
    record {
      up = omega arith;
      ends = λ ne. absurd (ne is);
      starts = λ _. omega arith;
      childless = λ _. has;
      children = λ c _ e. past_active (state c) (word c) (past c (child_inside ts c i e)) (active c e);
    }

-- no word of a tablet is above that of one that is gone
pub word_le-gone : (ts : List BoardTablet) (word : ℕ → ℕ) (i : ℕ) → IsTree ts → AreWords ts word → i < length ts → word i ≤ gone
word_le-gone ts word i tree h within =
    let end : ends_of ts i < unbounded = tree.ends i in
    dite (ℕ_discrete (word i) gone) (λ e. omega arith) (λ other. let a = h.ends i within other in omega arith)
