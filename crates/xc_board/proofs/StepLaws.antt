-- Each kind of step keeps the rule of a board, and tells its seat what it says.
use Rattle.std.proofs.Common.{◌≡◌, ◌≢◌, ℕ, zero, suc, ◌+◌, ◌<◌, ◌≤◌, max, true, List, [], ◌∷◌, length, take, set, refl, sym, ap, ◌∙◌}
use Rattle.std.proofs.Common.{subst, ⊎_elim, arith, le_trans, length-set, true≢false}
use Rattle.std.proofs.lemmas.List.{set-get_or}
use Rattle.std.specs.Prelude.{slice_index}
use mathlib.Core.Option.{some, none, some-injective, some-ne-none}
use lib.ListN.{get_elem?}
use Rattle.atomic_table.specs.Table.{State, keeps, step, Allows, Splits, Joins, Final, Seen}
use Rattle.atomic_table.specs.declared.shared.Seat.{Seat}
use Rattle.atomic_table.proofs.Lists.{at_set, at_snoc}
use Rattle.xc_board.specs.declared.tablet.BoardTablet.{BoardTablet}
use Rattle.xc_board.specs.declared.rule.SeatView.{SeatView}
use Rattle.xc_board.specs.Tree.{unbounded, IsTree, IsBelowEnds}
use Rattle.xc_board.specs.Words.{lesser, least}
use Rattle.xc_board.specs.Rule.{Fits, AreWords, AreTogether, MayBe, FitsSeat, Holds}
use Rattle.xc_board.specs.Steps.{knows, passes, renewed, sees, merged, spent, Seated, Raised, Scanned, Published, Observed}
use Rattle.xc_board.specs.Scans.{Scanning}
use Rattle.xc_board.proofs.WordLaws.{is_set, rises, set_other, together_set, together_same}
use Rattle.xc_board.proofs.FitLaws.{fits_up, fits_max, fits_below-ends}
use Rattle.xc_board.proofs.LeastLaws.{least_step}
use Rattle.xc_board.proofs.SeatLaws.{seat_up, seat_knows, seat_passes, seat_renewed, seat_sees, seat_merged, seats_set}

-- raise, activate and retire: a tablet's word rises to what it may become
pub raises : (ts : List BoardTablet) (slots id : ℕ) (me : Seated) (i k : ℕ) → i < length ts → me.0.live ≡ true
    → ((word : ℕ → ℕ) → IsTree ts → AreTogether ts word → ((j : ℕ) → j < length ts → slice_index me.0.known j ≤ word j)
    → MayBe ts word i (max (word i) k))
    → Allows (Holds ts) slots id me i (λ n. max n k) (Raised (step slots i k 0 none) me)
raises ts slots id me i k within live may s h _ at _ =
    let n : ℕ = max (slice_index s.words i) k in
    let size = h.size in
    let is = is_set s.words i n (omega arith) in
    let word : ℕ → ℕ = slice_index s.words in
    let word' : ℕ → ℕ = slice_index (set s.words i n) in
    let mine = h.seats id me.0 at live in
    let m : MayBe ts word i n = may word h.tree h.together mine.past in
    let up : (j : ℕ) → word j ≤ word' j = rises word word' i n m.up is in
    let mark : word' (length ts) ≡ word (length ts) = set_other s.words i (length ts) n (λ e. omega arith) in
    let seat : (v : SeatView) → FitsSeat ts word (word (length ts)) v → FitsSeat ts word' (word' (length ts)) v =
    λ v f. seat_up ts word word' (word (length ts)) (word' (length ts)) v (λ j _. up j) (omega arith) f in
    let new = seat_knows ts word' (word' (length ts)) me.0 i n within (let a = is.here in omega arith) m.ends m.starts (seat me.0 mine) in (
      knows me.0 i n,
      keeps,
      tt,
      record {
        tree = h.tree;
        size = length-set s.words i n ∙ h.size;
        together = together_set ts word word' i n h.together is m;
        mark = λ j inside. subst (λ b. Fits ts b j (word' j)) (sym mark)
            (fits_up ts (word (length ts)) j (word j) (word' j) (h.mark j inside) (up j));
        seats = seats_set ts word' (word' (length ts)) s.views id (knows me.0 i n) (λ _. new)
            (λ p v there lives. seat v (h.seats p v there lives));
      },
      (refl, mine.past i within, subst (λ t. AreWords t (slice_index (set me.0.known i n))) (sym mine.tablets) new.known),
    )

-- a step that leaves the words, and changes what one seat knows
looks : (ts : List BoardTablet) (s : State (Unit {0}) SeatView) (id i : ℕ) (w : SeatView) → Holds ts s
    → (w.live ≡ true → FitsSeat ts (slice_index s.words) (slice_index s.words (length ts)) w)
    → Holds ts (record { words = set s.words i (slice_index s.words i); homes = s.homes; views = set s.views id w })
looks ts s id i w h new =
    subst (λ ws. Holds ts (record { words = ws; homes = s.homes; views = set s.views id w })) (sym (set-get_or s.words i 0))
    (record {
      tree = h.tree;
      size = h.size;
      together = h.together;
      mark = h.mark;
      seats = seats_set ts (slice_index s.words) (slice_index s.words (length ts)) s.views id w new h.seats;
    })

-- scan one word: the next one
pub scans : (ts : List BoardTablet) (slots id : ℕ) (me : Seated) (i : ℕ) → me.0.next ≡ i → i < length ts → me.0.live ≡ true
    → Allows (Holds ts) slots id me i (λ n. n) (Scanned (step slots i 0 0 none) me)
scans ts slots id me i next within live s h _ at _ =
    let word : ℕ → ℕ = slice_index s.words in
    let mine = h.seats id me.0 at live in
    let new : FitsSeat ts word (word (length ts)) (passes me.0 (word i)) =
    subst (λ k. FitsSeat ts word (word (length ts)) (passes me.0 (word k))) next
    (seat_passes ts word (word (length ts)) me.0 h.tree h.together (omega arith) mine) in (
      passes me.0 (word i),
      keeps,
      tt,
      looks ts s id i (passes me.0 (word i)) h (λ _. new),
      (
        refl,
        subst (λ k. slice_index me.0.known k ≤ word i) (sym next) (mine.past i within),
        subst (λ t. AreWords t (slice_index (set me.0.known me.0.next (word i)))) (sym mine.tablets) new.known,
      ),
    )

-- observe: the watermark is loaded
pub observes : (ts : List BoardTablet) (slots id : ℕ) (me : Seated) (i : ℕ) → i ≡ length ts → me.0.live ≡ true
    → Allows (Holds ts) slots id me i (λ n. n) (Observed (step slots i 0 0 none) me)
observes ts slots id me i last live s h _ at _ =
    let word : ℕ → ℕ = slice_index s.words in
    let mine = h.seats id me.0 at live in
    let e : word i ≡ word (length ts) = ap word last in
    let seen = mine.seen in (
      sees me.0 (word i),
      keeps,
      tt,
      looks ts s id i (sees me.0 (word i)) h (λ _. seat_sees ts word (word (length ts)) (word i) me.0 (omega arith) mine),
      (
        refl,
        omega arith,
        subst (λ t. IsBelowEnds t (word i)) (sym mine.tablets)
            (subst (IsBelowEnds ts) (sym e) (fits_below-ends ts word (word (length ts)) h.tree h.together h.mark)),
      ),
    )

publishes_last : (ts : List BoardTablet) (slots id : ℕ) (me : Seated) (k : ℕ) → me.0.next ≡ length ts → me.0.bound ≡ k → me.0.live ≡ true
    → Allows (Holds ts) slots id me (length ts) (λ n. max n k) (Published (step slots (length ts) k 0 none) me)
publishes_last ts slots id me k next bound live s h _ at _ =
    let last : ℕ = length ts in
    let word : ℕ → ℕ = slice_index s.words in
    let n : ℕ = max (word last) k in
    let word' : ℕ → ℕ = slice_index (set s.words last n) in
    let size = h.size in
    let is = is_set s.words last n (omega arith) in
    let mine = h.seats id me.0 at live in
    let same : (j : ℕ) → j < last → word' j ≡ word j = λ j within. is.others j (λ e. omega arith) in
    let here : word' last ≡ n = is.here in
    let seat : (v : SeatView) → FitsSeat ts word (word last) v → FitsSeat ts word' (word' last) v =
    λ v f. seat_up ts word word' (word last) (word' last) v (λ j within. let e = same j within in omega arith) (omega arith) f in
    let fits : (i : ℕ) → i < last → Fits ts n i (word i) =
    λ i within. fits_max ts (word last) k i (word i) (h.mark i within)
    (subst (λ b. Fits ts b i (word i)) bound (mine.scan i (omega arith))) in (
      renewed me.0 n,
      keeps,
      tt,
      record {
        tree = h.tree;
        size = length-set s.words last n ∙ h.size;
        together = together_same ts word word' h.tree same h.together;
        mark = λ i within. subst (λ b. Fits ts b i (word' i)) (sym here) (subst (Fits ts n i) (sym (same i within)) (fits i within));
        seats = seats_set ts word' (word' last) s.views id (renewed me.0 n)
            (λ _. seat_renewed ts word' (word' last) n me.0 (omega arith) (seat me.0 mine))
            (λ p v there lives. seat v (h.seats p v there lives));
      },
      (refl, mine.seen, subst (λ t. IsBelowEnds t n) (sym mine.tablets) (fits_below-ends ts word n h.tree h.together fits)),
    )

-- publish: the watermark rises to the bound of a scan that has passed every word
pub publishes : (ts : List BoardTablet) (slots id : ℕ) (me : Seated) (i k : ℕ) → i ≡ length ts → me.0.next ≡ i → me.0.bound ≡ k
    → me.0.live ≡ true
    → Allows (Holds ts) slots id me i (λ n. max n k) (Published (step slots i k 0 none) me)
publishes ts slots id me i k last next bound live =
    subst (λ j. Allows (Holds ts) slots id me j (λ n. max n k) (Published (step slots j k 0 none) me)) (sym last)
    (publishes_last ts slots id me k (next ∙ last) bound live)

-- split seat: the new seat has a copy
pub splits : (ts : List BoardTablet) (id : ℕ) (v : SeatView) → Splits (Holds ts) id v v v
splits ts id v s h at = record {
  tree = h.tree;
  size = h.size;
  together = h.together;
  mark = h.mark;
  seats = λ p u there lives. ⊎_elim
      (λ was. seats_set ts (slice_index s.words) (slice_index s.words (length ts)) s.views id v (h.seats id v at) h.seats p u was lives)
      (λ (same : v ≡ u). h.seats id u (at ∙ ap some same) lives)
      (at_snoc (set s.views id v) v u p there);
}

-- join seat: one has what both had, and the other is spent
pub joins : (ts : List BoardTablet) (id : ℕ) (v : SeatView) (other : ℕ) (w : SeatView) → v.live ≡ true → w.live ≡ true
    → Joins (Holds ts) id v other w (merged v w) spent
joins ts id v other w live lives s h at apart there =
    let word : ℕ → ℕ = slice_index s.words in
    let was : get_elem? s.views other ≡ some w = ⊎_elim (λ (t : (other ≡ id) × (merged v w ≡ w)). absurd (apart t.0))
    (λ (t : (other ≢ id) × (get_elem? s.views other ≡ some w)). t.1) (at_set s.views id other (merged v w) w there) in
    let both = seat_merged ts word (word (length ts)) v w (h.seats id v at live) (h.seats other w was lives) in
    record {
      tree = h.tree;
      size = h.size;
      together = h.together;
      mark = h.mark;
      seats = seats_set ts word (word (length ts)) (set s.views id (merged v w)) other spent (λ e. absurd (true≢false (sym e)))
          (seats_set ts word (word (length ts)) s.views id (merged v w) (λ _. both) h.seats);
    }

at_some : (l : List ℕ) (i x : ℕ) → get_elem? l i ≡ some x → slice_index l i ≡ x
at_some [] i x e = absurd (some-ne-none x (sym e))
at_some (y ∷ l) zero x e = some-injective y x e
at_some (y ∷ l) (suc i) x e = at_some l i x e

-- the watermark of a board that was closed by a seat
pub closes : (ts : List BoardTablet) (id : ℕ) (v : SeatView) (ws : List ℕ) (slots : List (Unit {0})) (i x : ℕ) → v.live ≡ true
    → i ≡ length ts → get_elem? ws i ≡ some x → Final (Seen (Holds ts) id v) ws slots
    → (v.seen ≤ x) × IsBelowEnds ts x
closes ts id v ws slots i x live last at final =
    let s = final.0 in
    let h : Holds ts s = final.1.0 in
    let word : ℕ → ℕ = slice_index s.words in
    let is : word (length ts) ≡ x = ap word (sym last) ∙ ap (λ (l : List ℕ). slice_index l i) final.2 ∙ at_some ws i x at in
    let mine = h.seats id v final.1.1 live in
    let seen = mine.seen in
    (omega arith, subst (IsBelowEnds ts) is (fits_below-ends ts word (word (length ts)) h.tree h.together h.mark))

-- one more word of a scan
pub scan_goes : (u v w : Seat (Unit {0}) SeatView) (slots i b n : ℕ) → i < length v.me.0.known → Scanning u v i b
    → w.table_id ≡ v.table_id → Scanned (step slots i 0 0 none) v.me n w.me → Scanning u w (i + 1) (lesser b n)
scan_goes u v w slots i b n within h id told =
    let known : w.me.0.known ≡ set v.me.0.known i n = ap (λ (m : Seated). m.0.known) told.0 ∙ ap (λ j. set v.me.0.known j n) h.next in
    let is = is_set v.me.0.known i n within in
    let low : slice_index v.me.0.known i ≤ n = subst (λ j. slice_index v.me.0.known j ≤ n) h.next told.1 in
    let grows = rises (slice_index v.me.0.known) (slice_index (set v.me.0.known i n)) i n low is in
    record {
      id = id ∙ h.id;
      holds = ap (λ (m : Seated). m.1) told.0 ∙ h.holds;
      live = ap (λ (m : Seated). m.0.live) told.0 ∙ h.live;
      tablets = ap (λ (m : Seated). m.0.tablets) told.0 ∙ h.tablets;
      seen = ap (λ (m : Seated). m.0.seen) told.0 ∙ h.seen;
      size = ap length known ∙ length-set v.me.0.known i n ∙ h.size;
      up = λ j. le_trans (h.up j) (subst (λ l. slice_index v.me.0.known j ≤ slice_index l j) (sym known) (grows j));
      words = subst (λ t. AreWords t (slice_index w.me.0.known)) (sym (ap (λ (m : Seated). m.0.tablets) told.0)) told.2;
      next = ap (λ (m : Seated). m.0.next) told.0 ∙ ap (λ j. j + 1) h.next;
      bound = ap (λ (m : Seated). m.0.bound) told.0 ∙ ap (λ c. lesser c n) h.bound;
      loaded = ap (λ c. lesser c n) h.loaded ∙ sym (least_step unbounded v.me.0.known i n within)
          ∙ sym (ap (λ (l : List ℕ). least unbounded (take (i + 1) l)) known);
    }
