-- When a number fits the words of a board, and why the bound of a scan does.
use Rattle.std.proofs.Common.{◌≡◌, ◌≢◌, ℕ, ◌-◌, ◌<◌, ◌≤◌, max, min, Bool, true, false, Option, Some, None, List, length, refl, sym, subst}
use Rattle.std.proofs.Common.{arith, lt_of_not-le, ne_eqb}
use Rattle.std.specs.Prelude.{if◌then◌else◌, ◌==◌}
use mathlib.Core.Logic.{dite}
use native.Mathlib.Decide.{dec_le, ℕ_discrete}
use Rattle.xc_board.specs.declared.tablet.BoardTablet.{BoardTablet}
use Rattle.xc_board.specs.Tree.{parent_of, ends_of, start_of, IsTree, IsBelowEnds}
use Rattle.xc_board.specs.Words.{gone, lesser}
use Rattle.xc_board.specs.Rule.{Fits, AreTogether}
use Rattle.xc_board.proofs.TreeLaws.{start_le-ends, start_of-child}

-- what fits a word fits a later one
pub fits_up : (ts : List BoardTablet) (b i x y : ℕ) → Fits ts b i x → x ≤ y → Fits ts b i y
fits_up ts b i x y h up low = let a = h low in omega arith

pub fits_max : (ts : List BoardTablet) (a b i x : ℕ) → Fits ts a i x → Fits ts b i x → Fits ts (max a b) i x
fits_max ts a b i x f g =
    dite (dec_le a b)
    (λ le. let e : b ≡ max a b = omega arith in subst (λ n. Fits ts n i x) e g)
    (λ above. let lt = lt_of_not-le above in let e : a ≡ max a b = omega arith in subst (λ n. Fits ts n i x) e f)

-- what fits a tablet that isn't gone is at most its end
pub fits_end : (ts : List BoardTablet) (word : ℕ → ℕ) (b i : ℕ) → IsTree ts → AreTogether ts word → i < length ts → word i ≢ gone
    → Fits ts b i (word i) → b ≤ ends_of ts i
fits_end ts word b i tree h within stays fits =
    let start = start_le-ends ts tree i in
    let top = h.words.ends i within stays in
    dite (dec_le b (start_of ts i)) (λ le. omega arith) (λ above. let a = fits (lt_of_not-le above) in omega arith)

-- what fits all words is at most the end of each tablet that has no child
pub fits_below-ends : (ts : List BoardTablet) (word : ℕ → ℕ) (b : ℕ) → IsTree ts → AreTogether ts word
    → ((i : ℕ) → i < length ts → Fits ts b i (word i)) → IsBelowEnds ts b
fits_below-ends ts word b tree h fits i within childless = fits_end ts word b i tree h within (λ g. childless (h.childless i within g))
    (fits i within)

either_lesser : (c : Bool) (b y : ℕ) → (if c then b else min b y) ≤ b
either_lesser true b y = omega arith
either_lesser false b y = omega arith

pub lesser_le : (b x : ℕ) → lesser b x ≤ b
lesser_le b x = either_lesser (x == 0) b (x - 1)

pub lesser_waiting : (b x : ℕ) → x ≡ 0 → lesser b x ≡ b
lesser_waiting b x e = subst (λ n. lesser b n ≡ b) (sym e) refl

pub lesser_active : (b x : ℕ) → x ≢ 0 → lesser b x ≡ min b (x - 1)
lesser_active b x ne = subst (λ c. (if c then b else min b (x - 1)) ≡ min b (x - 1)) (sym (ne_eqb x 0 ne)) refl

pub lesser_lt : (b x : ℕ) → x ≢ 0 → lesser b x < x
lesser_lt b x ne = let e = lesser_active b x ne in omega arith

-- a scan upwards: a child that waits when it is passed has a parent that was passed before and isn't gone, so the bound is at most the
-- time at which the child will start
pub fits_next : (ts : List BoardTablet) (word : ℕ → ℕ) (b i : ℕ) → IsTree ts → AreTogether ts word → i < length ts
    → ((j : ℕ) → j < i → Fits ts b j (word j)) → Fits ts (lesser b (word i)) i (word i)
fits_next ts word b i tree h within scan =
    dite (ℕ_discrete (word i) 0)
    (λ waits. waiting (parent_of ts i) refl waits)
    (λ active _. lesser_lt b (word i) active)
  where
    waiting : (o : Option ℕ) → parent_of ts i ≡ o → word i ≡ 0 → Fits ts (lesser b (word i)) i (word i)
    waiting None root waits = absurd (h.all.roots i within root waits)
    waiting (Some p) child waits = λ low.
        let before = tree.lower i p child in
        let top = fits_end ts word b p tree h (omega arith) (λ g. h.all.children p i g child waits) (scan p before) in
        let e = start_of-child ts i p child in
        let same = lesser_waiting b (word i) waits in
        absurd (omega arith)
