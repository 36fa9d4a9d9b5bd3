-- The least active value of a row of words.
use Rattle.std.proofs.Common.{◌≡◌, ◌≢◌, ℕ, zero, suc, ◌+◌, ◌<◌, ◌≤◌, Option, Some, None, List, [], ◌∷◌, ◌++◌, take, length, set, refl}
use Rattle.std.proofs.Common.{sym, ap, ◌∙◌, subst, arith, le_refl, le_trans, lt_of_not-le, add-one}
use Rattle.std.proofs.Math.Seq.{take-suc-set}
use Rattle.std.proofs.lemmas.List.{get_or_past}
use Rattle.std.specs.Prelude.{slice_index}
use mathlib.Core.Logic.{dite}
use native.Mathlib.Decide.{dec_le, ℕ_discrete}
use Rattle.xc_board.specs.declared.tablet.BoardTablet.{BoardTablet}
use Rattle.xc_board.specs.Tree.{unbounded, parent_of, ends_of, start_of, IsTree}
use Rattle.xc_board.specs.Words.{gone, lesser, least}
use Rattle.xc_board.specs.Rule.{Fits, AreWords, HasNoGap}
use Rattle.xc_board.proofs.TreeLaws.{start_of-child}
use Rattle.xc_board.proofs.FitLaws.{lesser_le, lesser_waiting, lesser_active, lesser_lt}

pub least_le : (b : ℕ) (xs : List ℕ) → least b xs ≤ b
least_le b [] = le_refl b
least_le b (x ∷ xs) = le_trans (least_le (lesser b x) xs) (lesser_le b x)

pub least_lt : (b : ℕ) (xs : List ℕ) (i : ℕ) → slice_index xs i ≢ 0 → least b xs < slice_index xs i
least_lt b [] i ne = absurd (ne refl)
least_lt b (x ∷ xs) zero ne = let a = least_le (lesser b x) xs in let c = lesser_lt b x ne in omega arith
least_lt b (x ∷ xs) (suc i) ne = least_lt (lesser b x) xs i ne

lesser_greatest : (b x m : ℕ) → m ≤ b → (x ≢ 0 → m < x) → m ≤ lesser b x
lesser_greatest b x m le below =
    dite (ℕ_discrete x 0)
    (λ e. subst (λ n. m ≤ n) (sym (lesser_waiting b x e)) le)
    (λ ne. let e = lesser_active b x ne in let a = below ne in omega arith)

-- it is the greatest number that is at most the bound and each active value
pub least_greatest : (b : ℕ) (xs : List ℕ) (m : ℕ) → m ≤ b → ((i : ℕ) → slice_index xs i ≢ 0 → m < slice_index xs i) → m ≤ least b xs
least_greatest b [] m le below = le
least_greatest b (x ∷ xs) m le below = least_greatest (lesser b x) xs m (lesser_greatest b x m le (below 0)) (λ i. below (suc i))

pub least_snoc : (b : ℕ) (xs : List ℕ) (x : ℕ) → least b (xs ++ x ∷ []) ≡ lesser (least b xs) x
least_snoc b [] x = refl
least_snoc b (y ∷ ys) x = least_snoc (lesser b y) ys x

-- a scan finds n as its next word
pub least_step : (b : ℕ) (xs : List ℕ) (i n : ℕ) → i < length xs → least b (take (i + 1) (set xs i n)) ≡ lesser (least b (take i xs)) n
least_step b xs i n within = ap (λ j. least b (take j (set xs i n))) (add-one i) ∙ ap (least b) (take-suc-set xs i n within)
    ∙ least_snoc b (take i xs) n

module _ (ts : List BoardTablet) (xs : List ℕ) (tree : IsTree ts) (words : AreWords ts (slice_index xs))
    (all : HasNoGap ts (slice_index xs)) where
  -- it is at most the end of each tablet that isn't gone, by the tablet's own word or by what its ancestors show
  pub least_end : (k i : ℕ) → i < k → i < length ts → slice_index xs i ≢ gone → least unbounded xs ≤ ends_of ts i
  least_end zero i under within stays = absurd (omega arith)
  least_end (suc k) i under within stays =
      dite (ℕ_discrete (slice_index xs i) 0)
      (λ waits. up (parent_of ts i) refl waits (λ p before stays'. least_end k p (omega arith) (omega arith) stays'))
      (λ active. let a = least_lt unbounded xs i active in let b = words.ends i within stays in omega arith)
    where
      up : (o : Option ℕ) → parent_of ts i ≡ o → slice_index xs i ≡ 0
          → ((p : ℕ) → p < i → slice_index xs p ≢ gone → least unbounded xs ≤ ends_of ts p) → least unbounded xs ≤ ends_of ts i
      up None root waits above = absurd (all.roots i within root waits)
      up (Some p) child waits above = le_trans (above p (tree.lower i p child) (λ g. all.children p i g child waits)) (tree.rises i p child)

  -- and it fits each word that is no less than the one known
  pub least_fits : (word : ℕ → ℕ) → ((i : ℕ) → slice_index xs i ≤ word i) → (i : ℕ) → i < length ts
      → Fits ts (least unbounded xs) i (word i)
  least_fits word up i within low =
      dite (ℕ_discrete (slice_index xs i) 0)
      (λ waits. under (parent_of ts i) refl waits)
      (λ active. let a = least_lt unbounded xs i active in let b = up i in omega arith)
    where
      under : (o : Option ℕ) → parent_of ts i ≡ o → slice_index xs i ≡ 0 → least unbounded xs < word i
      under None root waits = absurd (all.roots i within root waits)
      under (Some p) child waits =
          let before = tree.lower i p child in
          let e = start_of-child ts i p child in
          let a = least_end (suc p) p (omega arith) (omega arith) (λ g. all.children p i g child waits) in
          absurd (omega arith)

-- what a scan loads is at least what was known, where enough was known
pub least_rises : (ts : List BoardTablet) (xs ys : List ℕ) → IsTree ts → AreWords ts (slice_index xs) → HasNoGap ts (slice_index xs)
    → AreWords ts (slice_index ys) → length ys ≡ length ts → ((i : ℕ) → slice_index xs i ≤ slice_index ys i)
    → least unbounded xs ≤ least unbounded ys
least_rises ts xs ys tree words all loaded size up =
    least_greatest unbounded ys (least unbounded xs) (least_le unbounded xs) (λ i active. at i active (dec_le (suc i) (length ys)))
  where
    at : (i : ℕ) → slice_index ys i ≢ 0 → Dec (suc i ≤ length ys) → least unbounded xs < slice_index ys i
    at i active (yes inside) =
        let starts = loaded.starts i (omega arith) active in
        let fits = least_fits ts xs tree words all (slice_index ys) up i (omega arith) in
        dite (dec_le (least unbounded xs) (start_of ts i)) (λ le. omega arith) (λ above. fits (lt_of_not-le above))
    at i active (no outside) = absurd (active (get_or_past ys i 0 (let a = lt_of_not-le outside in omega arith)))
