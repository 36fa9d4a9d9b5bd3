-- What callers see of a seat after a step.
use Rattle.std.proofs.Common.{◌≡◌, ◌≢◌, ℕ, ◌+◌, ◌<◌, ◌≤◌, max, List, length, set, refl, sym, ap, ◌∙◌, subst, arith, length-set, le_refl}
use Rattle.std.proofs.Common.{lt_of_not-le}
use Rattle.std.proofs.lemmas.List.{get_or_past}
use Rattle.std.specs.Prelude.{slice_index}
use mathlib.Core.Logic.{dite}
use mathlib.Core.Option.{none}
use native.Mathlib.Decide.{dec_le}
use Rattle.atomic_table.specs.Seated.{TableId}
use Rattle.atomic_table.specs.Table.{step}
use Rattle.xc_board.specs.declared.tablet.WordState.TheVariants.{Waiting, At, Gone}
use Rattle.xc_board.specs.declared.tablet.BoardTablet.{BoardTablet}
use Rattle.xc_board.specs.declared.rule.SeatView.{SeatView}
use Rattle.xc_board.specs.Tree.{unbounded, IsTree}
use Rattle.xc_board.specs.Words.{gone, state_of, least}
use Rattle.xc_board.specs.States.{IsPast, KnowsAll, later}
use Rattle.xc_board.specs.Rule.{AreWords, HasNoGap, AreTogether, MayBe, MayRise}
use Rattle.xc_board.specs.Steps.{Seated, Raised, merged}
use Rattle.xc_board.specs.Seats.{BoardValue, SeatValue, IsSeatOf, KeepsSeat, RaisedSeat, known_at, least_known}
use Rattle.xc_board.specs.Inside.{value_of_view}
use Rattle.xc_board.proofs.WordLaws.{is_set, rises, word_le-gone}
use Rattle.xc_board.proofs.StateLaws.{state_at-words, state_gone, state_time, waiting_word, past_of, later_of, least_states}
use Rattle.xc_board.proofs.SeatLaws.{greater_at}

pub known_word : (id : TableId) (v : SeatView) (i : ℕ) → known_at (value_of_view id v) i ≡ state_of (slice_index v.known i)
known_word id v i = state_at-words v.known i

-- a tablet that is known not to wait has another word than 0
known_active : (id : TableId) (v : SeatView) (i : ℕ) → known_at (value_of_view id v) i ≢ Waiting → slice_index v.known i ≢ 0
known_active id v i ne e = ne (known_word id v i ∙ ap state_of e)

-- what a seat knows of a tablet is a word
pub known_le-gone : (ts : List BoardTablet) (xs : List ℕ) (i : ℕ) → IsTree ts → AreWords ts (slice_index xs) → length xs ≡ length ts
    → slice_index xs i ≤ gone
known_le-gone ts xs i tree words size =
    dite (dec_le (i + 1) (length ts))
    (λ inside. word_le-gone ts (slice_index xs) i tree words (omega arith))
    (λ outside. let e = get_or_past xs i 0 (let a = lt_of_not-le outside in omega arith) in omega arith)

-- a seat s of the board b, which was seen as the view v, has forgotten nothing, where no word that it knows fell
pub keeps_seat : (b : BoardValue) (s : SeatValue) (id id' : TableId) (v w : SeatView) → IsTree b.tablets → value_of_view id v ≡ s
    → IsSeatOf b s → id' ≡ id → w.tablets ≡ v.tablets → v.seen ≤ w.seen → length w.known ≡ length w.tablets
    → AreWords w.tablets (slice_index w.known)
    → ((i : ℕ) → slice_index v.known i ≤ slice_index w.known i) → KeepsSeat b s (value_of_view id' w)
keeps_seat b s id id' v w tree is seat same tablets seen size words up =
    let ts : w.tablets ≡ b.tablets = tablets ∙ ap (λ (t : SeatValue). t.tablets) is ∙ seat.1 in
    record {
      seat = (same ∙ ap (λ (t : SeatValue). t.id) is ∙ seat.0, ts);
      seen = subst (λ (t : SeatValue). t.seen ≤ w.seen) is seen;
      known = λ i. subst (λ (t : SeatValue). IsPast (known_at t i) (known_at (value_of_view id' w) i)) is
          (subst (λ t. IsPast t (known_at (value_of_view id' w) i)) (sym (known_word id v i))
          (subst (IsPast (state_of (slice_index v.known i))) (sym (known_word id' w i))
          (past_of (slice_index v.known i) (slice_index w.known i) (up i)
          (known_le-gone b.tablets w.known i tree (subst (λ l. AreWords l (slice_index w.known)) ts words) (size ∙ ap length ts)))));
    }

-- what a seat s allows a word in states, it allows it in words
pub may_of : (ts ts' : List BoardTablet) (s : SeatValue) (id : TableId) (v : SeatView) (i k : ℕ) → ts' ≡ ts → value_of_view id v ≡ s
    → MayRise ts (known_at s) i k
    → (word : ℕ → ℕ) → IsTree ts' → AreTogether ts' word → ((j : ℕ) → j < length ts' → slice_index v.known j ≤ word j)
    → MayBe ts' word i (max (word i) k)
may_of ts ts' s id v i k same is may word =
    subst
    (λ l. IsTree l → AreTogether l word → ((j : ℕ) → j < length l → slice_index v.known j ≤ word j) → MayBe l word i (max (word i) k))
    (sym same)
    (λ tree h past. may word tree h
    (λ j within. subst (λ (t : SeatValue). IsPast (known_at t j) (state_of (word j))) is
    (subst (λ t. IsPast t (state_of (word j))) (sym (known_word id v j))
    (past_of (slice_index v.known j) (word j) (past j within) (word_le-gone ts word j tree h.words within)))))

pub raised_seat : (b : BoardValue) (s : SeatValue) (id id' : TableId) (slots i k n : ℕ) (me me' : Seated) → IsTree b.tablets
    → value_of_view id me.0 ≡ s → IsSeatOf b s → length me.0.known ≡ length me.0.tablets → i < length b.tablets → id' ≡ id
    → Raised (step slots i k 0 none) me n me'
    → RaisedSeat b s (value_of_view id' me'.0) i k n
raised_seat b s id id' slots i k n me me' tree is seat size inside same told =
    let mine = ap (λ (t : SeatValue). length t.tablets) is in
    let its = ap length seat.1 in
    let put = is_set me.0.known i (max n k) (omega arith) in
    let known : me'.0.known ≡ set me.0.known i (max n k) = ap (λ (m : Seated). m.0.known) told.0 in
    let tablets : me'.0.tablets ≡ me.0.tablets = ap (λ (m : Seated). m.0.tablets) told.0 in
    let seen : me'.0.seen ≡ me.0.seen = ap (λ (m : Seated). m.0.seen) told.0 in
    let low = told.1 in
    let grows = rises (slice_index me.0.known) (slice_index (set me.0.known i (max n k))) i (max n k) (omega arith) put in
    record {
      keeps = keeps_seat b s id id' me.0 me'.0 tree is seat same tablets (omega arith)
          (ap length known ∙ length-set me.0.known i (max n k) ∙ size ∙ sym (ap length tablets))
          (subst (λ l. AreWords l (slice_index me'.0.known)) (sym tablets) told.2)
          (λ j. subst (λ (l : List ℕ). slice_index me.0.known j ≤ slice_index l j) (sym known) (grows j));
      here = known_word id' me'.0 i ∙ ap (λ (l : List ℕ). state_of (slice_index l i)) known ∙ ap state_of put.here;
      others = λ j ne. known_word id' me'.0 j ∙ ap (λ (l : List ℕ). state_of (slice_index l j)) known ∙ ap state_of (put.others j ne)
          ∙ sym (known_word id me.0 j) ∙ ap (λ (t : SeatValue). known_at t j) is;
      seen = seen ∙ ap (λ (t : SeatValue). t.seen) is;
    }

-- what the seat then knows of that tablet: it is at or past the time that was put, and doesn't wait; or it is gone
pub past_put : (n t : ℕ) → n ≤ gone → t + 1 < gone → IsPast (At t) (state_of (max n (t + 1)))
past_put n t top small = subst (λ s. IsPast s (state_of (max n (t + 1)))) (state_time (t + 1) t refl (λ e. omega arith))
    (past_of (t + 1) (max n (t + 1)) (omega arith) (omega arith))

pub active_put : (n t : ℕ) → state_of (max n (t + 1)) ≢ Waiting
active_put n t = waiting_word (max n (t + 1)) (λ e. omega arith)

pub gone_put : (n : ℕ) → n ≤ gone → state_of (max n gone) ≡ Gone
gone_put n top = state_gone (max n gone) (omega arith)

-- a seat that knows enough in states knows it in words
pub knows_no_gap : (ts : List BoardTablet) (id : TableId) (v : SeatView) → KnowsAll ts (known_at (value_of_view id v))
    → HasNoGap ts (slice_index v.known)
knows_no_gap ts id v all = record {
  roots = λ i within root. known_active id v i (all.roots i within root);
  children = λ p c out child. known_active id v c (all.children p c (known_word id v p ∙ state_gone (slice_index v.known p) out) child);
}

pub least_view : (id : TableId) (v : SeatView) → least_known (value_of_view id v) ≡ least unbounded v.known
least_view id v = least_states unbounded v.known (le_refl unbounded)

-- what a seat knows after a join
pub joined_known : (b : BoardValue) (id : TableId) (v w : SeatView) → IsTree b.tablets → v.tablets ≡ b.tablets → w.tablets ≡ b.tablets
    → length v.known ≡ length v.tablets → length w.known ≡ length w.tablets → AreWords v.tablets (slice_index v.known)
    → AreWords w.tablets (slice_index w.known)
    → (i : ℕ) → known_at (value_of_view id (merged v w)) i ≡ later (known_at (value_of_view id v) i) (known_at (value_of_view id w) i)
joined_known b id v w tree ev ew sv sw wv ww i =
    known_word id (merged v w) i
    ∙ ap state_of (greater_at v.known w.known i)
    ∙ later_of (slice_index v.known i) (slice_index w.known i)
    (known_le-gone b.tablets v.known i tree (subst (λ l. AreWords l (slice_index v.known)) ev wv) (sv ∙ ap length ev))
    (known_le-gone b.tablets w.known i tree (subst (λ l. AreWords l (slice_index w.known)) ew ww) (sw ∙ ap length ew))
    ∙ sym (λ k. later (known_word id v i k) (known_word id w i k))
