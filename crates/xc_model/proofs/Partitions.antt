-- The rows that several tablets show, merged, are the rows of the logs.
use Rattle.xc_model.proofs.Common.{◌≡◌, ℕ, ◌+◌, ◌<◌, ◌≤◌, Bool, true, false, ◌&&◌, T, List, [], ◌∷◌, ◌++◌, map, None, refl, ap, ◌∙◌, subst}
use Rattle.xc_model.proofs.Common.{arith, inl, inr, ⊎_elim, flat_map, nat_le, is_lt, nat_cmp, slice_cmp, nat_list_cmp_total, on_texts}
use Rattle.xc_model.proofs.Common.{where_key, is_sorted, below_all, cases_lt, nat_tests, Logs, disagreement, hash_of, rows, Follows}
use Rattle.xc_model.proofs.Common.{IsPartition, sort_by, Each, Each-weaker, rows-sorted}
use Rattle.std.specs.List.Sorted.{IsPermutation, IsSortedByKey}
use Rattle.std.proofs.lemmas.List.MinMax.{ranks_by}
use Rattle.xc_record.specs.Sharing.{Ascends, PassesOne, parts}
use Rattle.xc_record.proofs.ShareLaws.{sort-parts, sorted-parts}
use Rattle.xc_model.{proofs.FromRules.hash-below, specs.Rows.range_of, specs.Rows.row_cmp, specs.Rows.all_rows}
use Rattle.xc_model.specs.Stands.{TargetTablet, StandsFor, RestoredTo, in_range, covers, rows_shown}
use Rattle.xc_model.specs.Laws.{ReadsShowLists, RestoredShowRows, PartitionsShowRows, RestoredPartitionsShowRows}

abbrev Row : Type 0
Row = List ℕ × List ℕ

-- ---- each key is in the range of one tablet

abbrev pub in_tablet : TargetTablet → Row → Bool
in_tablet x r = in_range x r.0

none-holds : (lo : ℕ) (xs : List TargetTablet) (r : Row) → Follows lo 65536 (map range_of xs) → hash_of r.0 < lo
    → Each (λ x. in_tablet x r ≡ false) xs
none-holds lo [] r f b = tt
none-holds lo (x ∷ xs) r f b = let low : x.lo ≡ lo = f.0 in let wide : x.lo ≤ x.hi = f.1.0 in (
  (let e : (nat_le x.lo (hash_of r.0) && nat_le (hash_of r.0) x.hi) ≡ false = grind (arith, nat_tests) in e),
  none-holds (x.hi + 1) xs r f.1.1 (omega arith),
)

one-holds : (lo : ℕ) (xs : List TargetTablet) (r : Row) → Follows lo 65536 (map range_of xs) → lo ≤ hash_of r.0 → PassesOne in_tablet xs r
one-holds lo [] r f b = let h = hash-below r.0 in let e : lo ≡ 65536 = f in absurd (omega arith)
one-holds lo (x ∷ xs) r f b = let low : x.lo ≡ lo = f.0 in let wide : x.lo ≤ x.hi = f.1.0 in ⊎_elim (λ above. inr (
  (let e : (nat_le x.lo (hash_of r.0) && nat_le (hash_of r.0) x.hi) ≡ false = grind (arith, nat_tests) in e),
  one-holds (x.hi + 1) xs r f.1.1 (omega arith),
)) (λ here. inl (
  (let e : (nat_le x.lo (hash_of r.0) && nat_le (hash_of r.0) x.hi) ≡ true = grind (arith, nat_tests) in e),
  none-holds
      (x.hi + 1) xs r f.1.1 (omega arith),
)) (cases_lt x.hi (hash_of r.0))

each-one : (xs : List TargetTablet) (rs : List Row) → IsPartition (map range_of xs) → Each (PassesOne in_tablet xs) rs
each-one xs [] p = tt
each-one xs (r ∷ rs) p = (one-holds 0 xs r p (omega arith), each-one xs rs p)

-- ---- rows in byte order of keys

true-of : (b : Bool) → T b → b ≡ true
true-of true t = refl
true-of false t = absurd t

first-of : (a b : Bool) → T (a && b) → T a
first-of true b t = tt
first-of false b t = absurd t

second-of : (a b : Bool) → T (a && b) → T b
second-of true b t = t
second-of false b t = absurd t

abbrev pub row_below : Row → Row → Bool
row_below r s = is_lt (row_cmp r s)

each-below : (r : Row) (rs : List Row) → T (below_all (slice_cmp nat_cmp) r.0 rs) → Each (λ s. row_below r s ≡ true) rs
each-below r [] h = tt
each-below r (s ∷ rs) h = (
  true-of (row_below r s) (first-of (row_below r s) (below_all (slice_cmp nat_cmp) r.0 rs) h),
  each-below r rs
      (second-of (row_below r s) (below_all (slice_cmp nat_cmp) r.0 rs) h),
)

ascends : (rs : List Row) → T (is_sorted (slice_cmp nat_cmp) rs) → Ascends row_below rs
ascends [] h = tt
ascends (r ∷ rs) h = (
  each-below r rs (first-of (below_all (slice_cmp nat_cmp) r.0 rs) (is_sorted (slice_cmp nat_cmp) rs) h),
  ascends rs
      (second-of (below_all (slice_cmp nat_cmp) r.0 rs) (is_sorted (slice_cmp nat_cmp) rs) h),
)

-- ---- the rows of all tablets

-- a tablet shows those of the rows whose keys are in its range
abbrev pub ShowsPart : ℕ → List Row → TargetTablet → Type 0
ShowsPart t rs x = rows_shown t x ≡ where_key (slice_cmp nat_cmp) (in_range x) rs

pub shown-parts : (t : ℕ) (rs : List Row) (xs : List TargetTablet) → Each (ShowsPart t rs) xs
    → flat_map (rows_shown t) xs ≡ parts in_tablet xs rs
shown-parts t rs [] h = refl
shown-parts t rs (x ∷ xs) h =
    ap (λ w. w ++ flat_map (rows_shown t) xs) h.0 ∙ ap (λ w. where_key (slice_cmp nat_cmp) (in_range x) rs ++ w) (shown-parts t rs xs h.1)

all-parts : (t : ℕ) (rs : List Row) (xs : List TargetTablet) → IsPartition (map range_of xs) → Each (ShowsPart t rs) xs
    → T (is_sorted (slice_cmp nat_cmp) rs) → all_rows t xs ≡ rs
all-parts t rs xs p h s = ap (sort_by row_cmp) (shown-parts t rs xs h)
    ∙ sort-parts row_cmp (on_texts (λ (r : Row). r.0)) in_tablet xs rs (ascends rs s) (each-one xs rs p)

-- so do they in any order that is sorted by keys, as std's sort makes one
pub sorted-rows : (t : ℕ) (rs : List Row) (xs : List TargetTablet) (ys : List Row) → IsPartition (map range_of xs)
    → Each (ShowsPart t rs) xs → T (is_sorted (slice_cmp nat_cmp) rs)
    → IsPermutation (flat_map (rows_shown t) xs) ys → IsSortedByKey (λ (r : Row). r.0) (slice_cmp nat_cmp) ys → ys ≡ rs
sorted-rows t rs xs ys p h s q o =
    sorted-parts row_below in_tablet xs rs ys (ranks_by nat_list_cmp_total (λ (r : Row). r.0)) (ascends rs s) (each-one xs rs p)
    (subst (λ w. IsPermutation w ys) (shown-parts t rs xs h) q) o

each-shows : ReadsShowLists → (logs : Logs) (u t : ℕ) (xs : List TargetTablet) → disagreement logs ≡ None → u ≤ t
    → Each (λ x. StandsFor logs u x × (t ≤ covers logs x)) xs → Each (ShowsPart t (rows logs t)) xs
each-shows lists logs u t xs agree b h =
    Each-weaker (λ x. StandsFor logs u x × (t ≤ covers logs x)) (ShowsPart t (rows logs t)) (λ x s. lists logs x u t s.0 agree b s.1) xs h

each-restored : RestoredShowRows → (logs : Logs) (u t v : ℕ) (xs : List TargetTablet) → disagreement logs ≡ None → u ≤ v → v ≤ t
    → Each (λ x. (y : TargetTablet) × RestoredTo logs u t y x) xs → Each (ShowsPart v (rows logs v)) xs
each-restored shows logs u t v xs agree b c h = Each-weaker (λ x. (y : TargetTablet) × RestoredTo logs u t y x) (ShowsPart v (rows logs v))
    (λ x s. (shows logs x s.0 u t v s.1 agree b c).1) xs h

pub partitions-by : ReadsShowLists → PartitionsShowRows
partitions-by lists logs xs u t agree p h b = all-parts t (rows logs t) xs p (each-shows lists logs u t xs agree b h) (rows-sorted logs t)

pub restored-partitions-by : RestoredShowRows → RestoredPartitionsShowRows
restored-partitions-by shows logs xs u t v agree p h b c =
    all-parts v (rows logs v) xs p (each-restored shows logs u t v xs agree b c h) (rows-sorted logs v)
