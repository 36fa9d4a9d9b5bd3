-- Chains that can be searched: in rising order of their transactions, or in the tree.
use Rattle.std.proofs.Common.{◌≡◌, ◌≢◌, ℕ, zero, suc, ◌+◌, ◌-◌, ◌<◌, ◌≤◌, Bool, true, false, ◌||◌, List, [], ◌∷◌, length, map, Some}
use Rattle.std.proofs.Common.{is_some, refl, sym, ◌∙◌, ap, subst, arith, ⊎_elim}
use Rattle.std.proofs.lemmas.Bool.{cases_eq, cases_lt}
use Rattle.xc_intents.specs.declared.slots.Chain.{Chain}
use Rattle.xc_intents.specs.Slots.{chain_at, twig, loose, below, Leads, IsTree, NoChain, is_planted, Rising, IsSearchable}
use Rattle.xc_intents.specs.Slots.{Distinct}
use Rattle.xc_intents.proofs.Trees.{tree-one, tree-same}

-- ---- rising order

rising-one : (cs : List Chain) → Rising cs 1
rising-one cs a b lt low = absurd (omega arith)

rising-next : (cs : List Chain) (k : ℕ) → Rising cs (suc k) → (chain_at cs k).txn < (chain_at cs (suc k)).txn → Rising cs (suc k + 1)
rising-next cs k rising last a b lt low =
    ⊎_elim
    (λ (end : b ≡ suc k).
    ⊎_elim
    (λ (here : a ≡ k). subst (λ e. (chain_at cs a).txn < (chain_at cs e).txn) (sym end)
    (subst (λ i. (chain_at cs i).txn < (chain_at cs (suc k)).txn) (sym here) last))
    (λ (other : a ≢ k). let less = rising a k (omega arith) (omega arith) in
    subst (λ e. (chain_at cs a).txn < (chain_at cs e).txn) (sym end) (omega arith))
    (cases_eq a k))
    (λ (other : b ≢ suc k). rising a b lt (omega arith))
    (cases_eq b (suc k))

-- the chains up to the one before n, and that one too where it rises
pub rising-last : (cs : List Chain) (n : ℕ) → Rising cs n → (1 ≤ n → (chain_at cs (n - 1)).txn < (chain_at cs n).txn)
    → Rising cs (n + 1)
rising-last cs zero rising last = rising-one cs
rising-last cs (suc k) rising last =
    let before : suc k - 1 ≡ k = omega arith in
    rising-next cs k rising (subst (λ i. (chain_at cs i).txn < (chain_at cs (suc k)).txn) before (last (omega arith)))

rising-below : (cs : List Chain) (n m t : ℕ) → Rising cs n → m < n → (chain_at cs m).txn < t → (k : ℕ) → k < m + 1
    → (chain_at cs k).txn < t
rising-below cs n m t rising low less k b =
    ⊎_elim
    (λ (here : k ≡ m). subst (λ i. (chain_at cs i).txn < t) (sym here) less)
    (λ (other : k ≢ m). let before = rising k m (omega arith) low in omega arith)
    (cases_eq k m)

rising-above : (cs : List Chain) (n m t : ℕ) → Rising cs n → t < (chain_at cs m).txn → (k : ℕ) → m ≤ k → k < n
    → t < (chain_at cs k).txn
rising-above cs n m t rising more k b low =
    ⊎_elim
    (λ (here : k ≡ m). subst (λ i. t < (chain_at cs i).txn) (sym here) more)
    (λ (other : k ≢ m). let after = rising m k (omega arith) low in omega arith)
    (cases_eq k m)

-- a search in rising order: the chains before `low` are of lesser transactions, and those from `high` on of greater
pub record Around (cs : List Chain) (t low high : ℕ) : Type 0 where
  pub within : high ≤ length cs
  pub less : (k : ℕ) → k < low → (chain_at cs k).txn < t
  pub more : (k : ℕ) → high ≤ k → k < length cs → t < (chain_at cs k).txn

pub around-all : (cs : List Chain) (t n : ℕ) → n ≡ length cs → Around cs t 0 n
around-all cs t n long = record {
  within = omega (arith, long);
  less = λ k b. absurd (omega arith);
  more = λ k b low. absurd (omega (arith, long));
}

pub around-less : (cs : List Chain) (t low high m : ℕ) → Rising cs (length cs) → Around cs t low high → m < high
    → (chain_at cs m).txn < t → Around cs t (m + 1) high
around-less cs t low high m rising a b less = record {
  within = a.within;
  less = λ k c. rising-below cs (length cs) m t rising (omega (arith, a.within)) less k c;
  more = a.more;
}

pub around-more : (cs : List Chain) (t low high m : ℕ) → Rising cs (length cs) → Around cs t low high → m < high
    → t < (chain_at cs m).txn → Around cs t low m
around-more cs t low high m rising a b more = record {
  within = omega (arith, a.within);
  less = a.less;
  more = λ k c d. rising-above cs (length cs) m t rising more k c d;
}

pub around-none : (cs : List Chain) (t low high : ℕ) → Around cs t low high → high ≤ low → NoChain cs t
around-none cs t low high a over k b same =
    ⊎_elim
    (λ (before : k < low). let less = a.less k before in omega (arith, same))
    (λ (behind : low ≤ k). let more = a.more k (omega arith) b in omega (arith, same))
    (cases_lt k low)

-- ---- both

branches : (c : Chain) (side : Bool) (j : ℕ) → below side c ≡ Some j → (is_some c.left || is_some c.right) ≡ true
branches c true j is = ap (λ o. is_some c.left || is_some o) is ∙ or_true (is_some c.left)
  where
    or_true : (b : Bool) → (b || true) ≡ true
    or_true true = refl
    or_true false = refl
branches c false j is = ap (λ o. is_some o || is_some c.right) is

pub tree-searchable : (cs : List Chain) (n : ℕ) → IsTree cs n → IsSearchable cs n
tree-searchable cs n tree = record {
  tree = λ planted. tree;
  rising = λ none a b lt low. let f = tree.found b low in absurd (go none b (omega arith) f.0 f.1);
}
  where
    go : is_planted cs ≡ false → (b : ℕ) → 0 < b → (m : ℕ) → Leads cs (chain_at cs b).txn m (chain_at cs b).txn 0 b → ⊥
    go none b some zero l = absurd (omega arith)
    go none b some (suc m) l =
        let planted = branches (chain_at cs 0) _ l.1 l.2 in
        absurd (cc)

pub rising-searchable : (cs : List Chain) (n : ℕ) → is_planted cs ≡ false → Rising cs n → IsSearchable cs n
rising-searchable cs n none rising = record {
  tree = λ planted. absurd (cc);
  rising = λ e. rising;
}

pub loose-bare : (cs : List Chain) → is_planted (map loose cs) ≡ false
loose-bare [] = refl
loose-bare (c ∷ cs) = refl

pub searchable-one : (cs : List Chain) (n a b : ℕ) → IsSearchable cs n → a < n → b < n → (chain_at cs a).txn ≡ (chain_at cs b).txn
    → a ≡ b
searchable-one cs n a b s low high same = by_planting (is_planted cs) refl
  where
    apart : Rising cs n → a ≡ b
    apart rising =
        ⊎_elim
        (λ (lt : a < b). let less = rising a b lt high in absurd (omega (arith, same)))
        (λ (ge : b ≤ a).
        ⊎_elim
        (λ (here : a ≡ b). here)
        (λ (other : a ≢ b). let less = rising b a (omega arith) low in absurd (omega (arith, same)))
        (cases_eq a b))
        (cases_lt a b)

    by_planting : (p : Bool) → is_planted cs ≡ p → a ≡ b
    by_planting true planted = tree-one cs n a b (s.tree planted) low high same
    by_planting false none = apart (s.rising none)

pub searchable-distinct : (cs : List Chain) → IsSearchable cs (length cs) → Distinct cs
searchable-distinct cs s a b lt high same =
    let one : a ≡ b = searchable-one cs (length cs) a b s (omega arith) high same in absurd (omega arith)

-- chains at the same places in the tree, or in the same order
pub searchable-same : (cs ds : List Chain) (n : ℕ) → ((k : ℕ) → k < n → twig (chain_at ds k) ≡ twig (chain_at cs k)) → IsSearchable cs n
    → IsSearchable ds n
searchable-same cs ds zero same s = record {
  tree = λ planted. record { later = λ i j side b is. absurd (omega arith); found = λ e b. absurd (omega arith) };
  rising = λ none a b lt low. absurd (omega arith);
}
searchable-same cs ds (suc n) same s = record {
  tree = λ planted. tree-same cs ds (suc n) same (s.tree (sym as_planted ∙ planted));
  rising = λ none a b lt low.
      let is_a = ap (λ (c : Chain). c.txn) (same a (omega arith)) in
      let is_b = ap (λ (c : Chain). c.txn) (same b low) in
      let less = s.rising (sym as_planted ∙ none) a b lt low in
      omega arith;
}
  where
    as_planted : is_planted ds ≡ is_planted cs
    as_planted = ap (λ (c : Chain). is_some c.left || is_some c.right) (same 0 (omega arith))
