-- What numbers in words stand for.
use Rattle.std.proofs.Common.{◌≡◌, ◌≢◌, ℕ, zero, suc, ◌+◌, ◌-◌, ◌≤◌, max, min, List, [], ◌∷◌, map, refl, sym, ap, ◌∙◌, subst, arith}
use Rattle.std.proofs.Common.{ne_eqb, add-one}
use Rattle.std.specs.Prelude.{slice_index, if◌then◌else◌}
use mathlib.Core.Logic.{dite}
use native.Mathlib.Decide.{dec_le, ℕ_discrete}
use Rattle.std.proofs.Math.ListN.{get_or-map}
use Rattle.xc_board.specs.declared.tablet.WordState.{WordState}
use Rattle.xc_board.specs.declared.tablet.WordState.TheVariants.{Waiting, At, Gone}
use Rattle.xc_board.specs.Tree.{unbounded}
use Rattle.xc_board.specs.Words.{gone, word_of, state_of, lesser, least}
use Rattle.xc_board.specs.States.{IsPast, later, state_at, lesser_time, least_time}
use Rattle.xc_board.proofs.FitLaws.{lesser_le, lesser_waiting, lesser_active}

pub state_time : (x t : ℕ) → x ≡ t + 1 → x ≢ gone → state_of x ≡ At t
state_time x t e ne =
    let is : x ≡ suc t = e ∙ add-one t in
    let other : suc t ≢ gone = λ g. ne (is ∙ g) in
    ap state_of is ∙ subst (λ c. (if c then Gone else At t) ≡ At t) (sym (ne_eqb (suc t) gone other)) refl

pub state_gone : (x : ℕ) → x ≡ gone → state_of x ≡ Gone
state_gone x e = ap state_of e ∙ refl

-- a word is 0, a time and 1, or the greatest number
pub by_state : (F : WordState → Type 0) (x : ℕ) → (x ≡ 0 → F Waiting) → ((t : ℕ) → x ≡ t + 1 → x ≢ gone → F (At t)) → (x ≡ gone → F Gone)
    → F (state_of x)
by_state F zero waits active out = waits refl
by_state F (suc t) waits active out =
    dite (ℕ_discrete (suc t) gone)
    (λ e. subst F (sym (state_gone (suc t) e)) (out e))
    (λ ne. subst F (sym (state_time (suc t) t (sym (add-one t)) ne)) (active t (sym (add-one t)) ne))

pub is_waiting : (x : ℕ) → state_of x ≡ Waiting → x ≡ 0
is_waiting x = by_state (λ s. s ≡ Waiting → x ≡ 0) x (λ e _. e) (λ t e ne is. absurd (cc)) (λ e is. absurd (cc))

pub is_gone : (x : ℕ) → state_of x ≡ Gone → x ≡ gone
is_gone x = by_state (λ s. s ≡ Gone → x ≡ gone) x (λ e is. absurd (cc)) (λ t e ne is. absurd (cc)) (λ e _. e)

abbrev time_in : WordState → ℕ
time_in Waiting = 0
time_in (At t) = t
time_in Gone = 0

pub is_time : (x t : ℕ) → state_of x ≡ At t → (x ≡ t + 1) × (x ≢ gone)
is_time x t = by_state (λ s. s ≡ At t → (x ≡ t + 1) × (x ≢ gone)) x (λ e is. absurd (cc))
    (λ u e ne is. (let same : u ≡ t = ap time_in is in omega arith, ne)) (λ e is. absurd (cc))

pub waiting_word : (x : ℕ) → x ≢ 0 → state_of x ≢ Waiting
waiting_word x ne is = ne (is_waiting x is)

-- a greater word stands for a later state
pub past_of : (x y : ℕ) → x ≤ y → y ≤ gone → IsPast (state_of x) (state_of y)
past_of x y le top =
    by_state (λ s. IsPast s (state_of y)) x
    (λ _. tt)
    (λ t e ne. by_state (λ s. IsPast (At t) s) y (λ zero'. absurd (omega arith)) (λ u e' _. omega arith) (λ _. tt))
    (λ e. subst (λ s. IsPast Gone s) (sym (state_gone y (omega arith))) tt)

-- and the greater of two words for the later of their states
pub later_of : (x y : ℕ) → x ≤ gone → y ≤ gone → state_of (max x y) ≡ later (state_of x) (state_of y)
later_of x y x_top y_top =
    by_state (λ s. state_of (max x y) ≡ later s (state_of y)) x
    (λ e. let same : max x y ≡ y = omega arith in ap state_of same)
    (λ t e ne. by_state (λ s. state_of (max x y) ≡ later (At t) s) y
    (λ e'. state_time (max x y) t (omega arith) (λ g. ne (omega arith)))
    (λ u e' ne'. state_time (max x y) (max t u) (omega arith) (λ g. dite (dec_le x y) (λ le. ne' (omega arith)) (λ gt. ne (omega arith))))
    (λ e'. state_gone (max x y) (omega arith)))
    (λ e. state_gone (max x y) (omega arith))

-- the state of a word of a list
pub state_at-words : (xs : List ℕ) (i : ℕ) → state_at (map state_of xs) i ≡ state_of (slice_index xs i)
state_at-words xs i = get_or-map state_of xs i 0

lesser_state : (b x : ℕ) → b ≤ unbounded → lesser_time b (state_of x) ≡ lesser b x
lesser_state b x small =
    by_state (λ s. lesser_time b s ≡ lesser b x) x
    (λ e. sym (lesser_waiting b x e))
    (λ t e ne. let is : lesser b x ≡ min b (x - 1) = lesser_active b x (λ zero'. omega arith) in omega arith)
    (λ e. let is : lesser b x ≡ min b (x - 1) = lesser_active b x (λ zero'. omega arith) in omega arith)

-- the least active word has the least active time
pub least_states : (b : ℕ) (xs : List ℕ) → b ≤ unbounded → least_time b (map state_of xs) ≡ least b xs
least_states b [] small = refl
least_states b (x ∷ xs) small =
    let le = lesser_le b x in
    ap (λ c. least_time c (map state_of xs)) (lesser_state b x small) ∙ least_states (lesser b x) xs (omega arith)

-- a state that isn't of a time past all numbers is what its word stands for
pub state_word : (s : WordState) → ((t : ℕ) → s ≡ At t → t + 1 ≢ gone) → state_of (word_of s) ≡ s
state_word Waiting h = refl
state_word (At t) h = state_time (t + 1) t refl (h t refl)
state_word Gone h = refl
