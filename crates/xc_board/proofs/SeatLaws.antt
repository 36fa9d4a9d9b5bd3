-- What seats know stays true, whatever becomes of the words, and of what they do.
use Rattle.std.proofs.Common.{◌≡◌, ◌≢◌, ℕ, zero, suc, ◌+◌, ◌<◌, ◌≤◌, max, true, List, [], ◌∷◌, length, set, refl, sym, ◌∙◌, subst, ⊎_elim}
use Rattle.std.proofs.Common.{arith, zero-le, le_trans, length-set, lt_of_not-le}
use Rattle.std.specs.Prelude.{slice_index}
use mathlib.Core.Option.{some}
use mathlib.Core.Logic.{dite}
use native.Mathlib.Decide.{dec_le, ℕ_discrete}
use lib.ListN.{get_elem?}
use Rattle.atomic_table.proofs.Lists.{at_set}
use Rattle.xc_board.specs.declared.tablet.BoardTablet.{BoardTablet}
use Rattle.xc_board.specs.declared.rule.SeatView.{SeatView}
use Rattle.xc_board.specs.Tree.{ends_of, start_of, IsTree}
use Rattle.xc_board.specs.Words.{gone, lesser}
use Rattle.xc_board.specs.Rule.{Fits, AreWords, AreTogether, FitsSeat}
use Rattle.xc_board.specs.Steps.{knows, passes, renewed, sees, greater, merged}
use Rattle.xc_board.proofs.WordLaws.{is_set, at_each, words_set}
use Rattle.xc_board.proofs.FitLaws.{fits_up, fits_next, lesser_le}

-- a seat keeps the rule where words and the watermark rise
pub seat_up : (ts : List BoardTablet) (word word' : ℕ → ℕ) (mark mark' : ℕ) (v : SeatView) → ((j : ℕ) → j < length ts → word j ≤ word' j)
    → mark ≤ mark' → FitsSeat ts word mark v → FitsSeat ts word' mark' v
seat_up ts word word' mark mark' v up higher h = record {
  tablets = h.tablets;
  size = h.size;
  past = λ i within. le_trans (h.past i within) (up i within);
  known = h.known;
  seen = le_trans h.seen higher;
  bound = h.bound;
  next = h.next;
  scan = λ i before. let next = h.next in fits_up ts v.bound i (word i) (word' i) (h.scan i before) (up i (omega arith));
}

-- a seat may know a word as n, where the word is at or past that
pub seat_knows : (ts : List BoardTablet) (word : ℕ → ℕ) (mark : ℕ) (v : SeatView) (i n : ℕ) → i < length ts → n ≤ word i
    → (n ≢ gone → n ≤ ends_of ts i + 1) → (n ≢ 0 → start_of ts i < n) → FitsSeat ts word mark v → FitsSeat ts word mark (knows v i n)
seat_knows ts word mark v i n within at ends starts h =
    let size = h.size in
    let is = is_set v.known i n (omega arith) in
    record {
      tablets = h.tablets;
      size = length-set v.known i n ∙ h.size;
      past = λ j inside. at_each (slice_index v.known) (slice_index (set v.known i n)) i n (λ k x. k < length ts → x ≤ word k) is
          (λ _. at) (λ k _. h.past k) j inside;
      known = words_set ts (slice_index v.known) (slice_index (set v.known i n)) i n h.known is ends starts;
      seen = h.seen;
      bound = h.bound;
      next = h.next;
      scan = h.scan;
    }

-- a scan passes the next word
pub seat_passes : (ts : List BoardTablet) (word : ℕ → ℕ) (mark : ℕ) (v : SeatView) → IsTree ts → AreTogether ts word → v.next < length ts
    → FitsSeat ts word mark v → FitsSeat ts word mark (passes v (word v.next))
seat_passes ts word mark v tree together within h =
    let n : ℕ = word v.next in
    let k = seat_knows ts word mark v v.next n within (omega arith) (together.words.ends v.next within)
    (together.words.starts v.next within) h in
    let less = lesser_le v.bound n in
    let bound = h.bound in
    let scan : (i : ℕ) → i < v.next + 1 → Fits ts (lesser v.bound n) i (word i) =
    λ i before. dite (ℕ_discrete i v.next)
    (λ e. subst (λ j. Fits ts (lesser v.bound n) j (word j)) (sym e) (fits_next ts word v.bound v.next tree together within h.scan))
    (λ ne low. let a = h.scan i (omega arith) (omega arith) in omega arith) in
    record {
      tablets = k.tablets;
      size = k.size;
      past = k.past;
      known = k.known;
      seen = k.seen;
      bound = omega arith;
      next = omega arith;
      scan = scan;
    }

-- no scan is under way any more, and the watermark n was seen
pub seat_renewed : (ts : List BoardTablet) (word : ℕ → ℕ) (mark n : ℕ) (v : SeatView) → n ≤ mark → FitsSeat ts word mark v
    → FitsSeat ts word mark (renewed v n)
seat_renewed ts word mark n v le h = record {
  tablets = h.tablets;
  size = h.size;
  past = h.past;
  known = h.known;
  seen = le;
  bound = omega arith;
  next = zero-le;
  scan = λ i none. absurd (omega arith);
}

pub seat_sees : (ts : List BoardTablet) (word : ℕ → ℕ) (mark n : ℕ) (v : SeatView) → n ≤ mark → FitsSeat ts word mark v
    → FitsSeat ts word mark (sees v n)
seat_sees ts word mark n v le h = record {
  tablets = h.tablets;
  size = h.size;
  past = h.past;
  known = h.known;
  seen = le;
  bound = h.bound;
  next = h.next;
  scan = h.scan;
}

-- all seats keep the rule, where one has a new view
pub seats_set : (ts : List BoardTablet) (word : ℕ → ℕ) (mark : ℕ) (views : List SeatView) (id : ℕ) (w : SeatView)
    → (w.live ≡ true → FitsSeat ts word mark w) → ((p : ℕ) (v : SeatView) → get_elem? views p ≡ some v → v.live ≡ true
    → FitsSeat ts word mark v)
    → (p : ℕ) (v : SeatView) → get_elem? (set views id w) p ≡ some v → v.live ≡ true → FitsSeat ts word mark v
seats_set ts word mark views id w mine others p v at live =
    ⊎_elim
    (λ (x : (p ≡ id) × (w ≡ v)). subst (λ (u : SeatView). u.live ≡ true → FitsSeat ts word mark u) x.1 mine live)
    (λ (x : (p ≢ id) × (get_elem? views p ≡ some v)). others p v x.1 live)
    (at_set views id p w v at)

pub greater_at : (xs ys : List ℕ) (i : ℕ) → slice_index (greater xs ys) i ≡ max (slice_index xs i) (slice_index ys i)
greater_at [] ys i = omega arith
greater_at (x ∷ xs) [] i = omega arith
greater_at (x ∷ xs) (y ∷ ys) zero = refl
greater_at (x ∷ xs) (y ∷ ys) (suc i) = greater_at xs ys i

pub length-greater : (xs ys : List ℕ) → length xs ≡ length ys → length (greater xs ys) ≡ length xs
length-greater [] ys e = sym e
length-greater (x ∷ xs) [] e = refl
length-greater (x ∷ xs) (y ∷ ys) e = let r = length-greater xs ys (omega arith) in omega arith

-- the greater of two numbers meets what both meet
of_max : (F : ℕ → Type 0) (x y : ℕ) → F x → F y → F (max x y)
of_max F x y f g =
    dite (dec_le x y)
    (λ le. let e : y ≡ max x y = omega arith in subst F e g)
    (λ above. let lt = lt_of_not-le above in let e : x ≡ max x y = omega arith in subst F e f)

of_greater : (xs ys : List ℕ) (F : ℕ → ℕ → Type 0) → ((i : ℕ) → F i (slice_index xs i)) → ((i : ℕ) → F i (slice_index ys i)) → (i : ℕ)
    → F i (slice_index (greater xs ys) i)
of_greater xs ys F f g i = subst (F i) (sym (greater_at xs ys i)) (of_max (F i) (slice_index xs i) (slice_index ys i) (f i) (g i))

pub words_greater : (ts : List BoardTablet) (xs ys : List ℕ) → AreWords ts (slice_index xs) → AreWords ts (slice_index ys)
    → AreWords ts (slice_index (greater xs ys))
words_greater ts xs ys h k = record {
  ends = of_greater xs ys (λ i x. i < length ts → x ≢ gone → x ≤ ends_of ts i + 1) h.ends k.ends;
  starts = of_greater xs ys (λ i x. i < length ts → x ≢ 0 → start_of ts i < x) h.starts k.starts;
}

-- what two seats know is true of one
pub seat_merged : (ts : List BoardTablet) (word : ℕ → ℕ) (mark : ℕ) (v w : SeatView) → FitsSeat ts word mark v → FitsSeat ts word mark w
    → FitsSeat ts word mark (merged v w)
seat_merged ts word mark v w h k =
    let a = h.size in let b = k.size in let c = h.seen in let d = k.seen in
    record {
      tablets = h.tablets;
      size = length-greater v.known w.known (omega arith) ∙ h.size;
      past = of_greater v.known w.known (λ i x. i < length ts → x ≤ word i) h.past k.past;
      known = words_greater ts v.known w.known h.known k.known;
      seen = omega arith;
      bound = h.bound;
      next = h.next;
      scan = h.scan;
    }
