-- A new board keeps the rule.
use Rattle.std.proofs.Common.{◌≡◌, ◌≢◌, ℕ, zero, suc, ◌+◌, ◌<◌, ◌≤◌, true, List, [], ◌∷◌, ◌++◌, map, take, length, refl, sym, ap, ◌∙◌}
use Rattle.std.proofs.Common.{subst, arith, zero-le, le_refl, length-append, get_or, add-one, lt_of_not-le}
use Rattle.std.proofs.lemmas.List.{length-map, get_or_append_left, get_or_push, get_or_past}
use Rattle.std.specs.Prelude.{slice_index}
use mathlib.Core.Logic.{dite}
use mathlib.Core.Option.{some, some-ne-none, some-injective}
use native.Mathlib.Decide.{dec_le}
use lib.ListN.{get_elem?}
use Rattle.atomic_table.specs.Table.{opening}
use Rattle.xc_board.specs.declared.tablet.WordState.TheVariants.{Waiting, At}
use Rattle.xc_board.specs.declared.tablet.BoardTablet.{BoardTablet}
use Rattle.xc_board.specs.declared.rule.SeatView.{SeatView}
use Rattle.xc_board.specs.Tree.{unbounded}
use Rattle.xc_board.specs.Words.{gone, word_of, state_of, words_of, lesser, least}
use Rattle.xc_board.specs.States.{IsStart, states_of, state_at, least_time}
use Rattle.xc_board.specs.Rule.{Fits, AreTogether, FitsSeat, Holds, first_view}
use Rattle.xc_board.proofs.WordLaws.{together_same}
use Rattle.xc_board.proofs.LeastLaws.{least_fits, least_snoc}
use Rattle.xc_board.proofs.StateLaws.{state_word, least_states}
use Rattle.xc_board.proofs.RuleLaws.{states_together}

-- the word of a tablet is that of its state
word_at : (ts : List BoardTablet) (i : ℕ) → slice_index (words_of ts) i ≡ word_of (state_at (states_of ts) i)
word_at [] i = refl
word_at (t ∷ ts) zero = refl
word_at (t ∷ ts) (suc i) = word_at ts i

length-words : (ts : List BoardTablet) → length (words_of ts) ≡ length ts
length-words ts = length-map ts (λ (t : BoardTablet). word_of t.state)

state_past : (ts : List BoardTablet) (i : ℕ) → length ts ≤ i → state_at (states_of ts) i ≡ Waiting
state_past ts i past = get_or_past (states_of ts) i Waiting (let e = length-map ts (λ (t : BoardTablet). t.state) in omega arith)

pub start_together : (ts : List BoardTablet) → IsStart ts → AreTogether ts (slice_index (words_of ts))
start_together ts start =
    together_same ts (λ i. word_of (state_at (states_of ts) i)) (slice_index (words_of ts)) start.tree (λ i _. word_at ts i)
    (states_together ts (state_at (states_of ts)) start.tree start.states)

-- each word stands for its tablet's state
back : (ts : List BoardTablet) → ((i t : ℕ) → state_at (states_of ts) i ≡ At t → t + 1 ≢ gone) → map state_of (words_of ts) ≡ states_of ts
back [] h = refl
back (t ∷ ts) h = λ k. state_word t.state (h 0) k ∷ back ts (λ i. h (suc i)) k

start_small : (ts : List BoardTablet) → IsStart ts → (i t : ℕ) → state_at (states_of ts) i ≡ At t → t + 1 ≢ gone
start_small ts start i t at out =
    dite (dec_le (i + 1) (length ts))
    (λ inside. let top = start.states.ends i t (omega arith) at in let end = start.tree.ends i in omega arith)
    (λ outside. let e = state_past ts i (let a = lt_of_not-le outside in omega arith) in let clash : Waiting ≡ At t = sym e ∙ at in
    absurd (cc))

pub start_known : (ts : List BoardTablet) → IsStart ts → map state_of (words_of ts) ≡ states_of ts
start_known ts start = back ts (start_small ts start)

pub start_seen : (ts : List BoardTablet) → IsStart ts → least unbounded (words_of ts) ≡ least_time unbounded (states_of ts)
start_seen ts start = sym (least_states unbounded (words_of ts) (le_refl unbounded)) ∙ ap (least_time unbounded) (start_known ts start)

pub starts : (ts : List BoardTablet) → IsStart ts → Holds ts
    (opening {S = Unit {0}} (words_of ts ++ least unbounded (words_of ts) ∷ []) [] (first_view ts))
starts ts start =
    let ws : List ℕ = words_of ts in
    let m : ℕ = least unbounded ws in
    let all : List ℕ = ws ++ m ∷ [] in
    let size : length ws ≡ length ts = length-words ts in
    let same : (i : ℕ) → i < length ts → slice_index all i ≡ slice_index ws i =
    λ i within. get_or_append_left ws (m ∷ []) 0 i (omega arith) in
    let last : slice_index all (length ts) ≡ m = get_or_push ws m 0 (length ts) size in
    let h = start_together ts start in
    let fits = least_fits ts ws start.tree h.words h.all (slice_index ws) (λ i. le_refl (slice_index ws i)) in
    let mine : FitsSeat ts (slice_index all) (slice_index all (length ts)) (first_view ts) =
    record {
      tablets = refl;
      size = size;
      past = λ i within. let e = same i within in omega arith;
      known = h.words;
      seen = omega arith;
      bound = le_refl unbounded;
      next = zero-le;
      scan = λ i none. absurd (omega arith);
    } in
    record {
      tree = start.tree;
      size = length-append ws (m ∷ []) ∙ ap (λ n. n + 1) size;
      together = together_same ts (slice_index ws) (slice_index all) start.tree same h;
      mark = λ i within. subst (λ b. Fits ts b i (slice_index all i)) (sym last)
          (subst (Fits ts m i) (sym (same i within)) (fits i within));
      seats = only (FitsSeat ts (slice_index all) (slice_index all (length ts))) (first_view ts) mine;
    }
  where
    only : (F : SeatView → Type 0) (v : SeatView) → F v → (p : ℕ) (w : SeatView) → get_elem? (v ∷ []) p ≡ some w → w.live ≡ true → F w
    only F v mine zero w at _ = subst F (some-injective v w at) mine
    only F v mine (suc p) w at _ = absurd (some-ne-none w (sym at))

words_take : (ts : List BoardTablet) (i : ℕ) (d : BoardTablet) → i < length ts
    → words_of (take (suc i) ts) ≡ words_of (take i ts) ++ word_of (get_or ts i d).state ∷ []
words_take [] i d h = absurd (omega arith)
words_take (t ∷ ts) zero d h = refl
words_take (t ∷ ts) (suc i) d h = ap (λ xs. word_of t.state ∷ xs) (words_take ts i d (omega arith))

-- one more word of a new board
pub start_goes : (ts : List BoardTablet) (i : ℕ) (d : BoardTablet) (xs ys : List ℕ) (b c x : ℕ) → i < length ts
    → (xs ≡ words_of (take i ts)) × (b ≡ least unbounded xs) → x ≡ word_of (get_or ts i d).state → ys ≡ xs ++ x ∷ [] → c ≡ lesser b x
    → (ys ≡ words_of (take (i + 1) ts)) × (c ≡ least unbounded ys)
start_goes ts i d xs ys b c x within h is pushed less = (
  pushed ∙ (λ k. h.0 k ++ is k ∷ []) ∙ sym (words_take ts i d within) ∙ sym (ap (λ k. words_of (take k ts)) (add-one i)),
  less ∙ ap (λ m. lesser m x) h.1 ∙ sym (least_snoc unbounded xs x) ∙ sym (ap (least unbounded) pushed),
)
