-- How the chain of a transaction is found in the tree, and how the tree grows.
use Rattle.std.proofs.Common.{◌≡◌, ◌≢◌, ℕ, zero, suc, ◌+◌, ◌<◌, Bool, true, false, List, [], ◌∷◌, length, set, map, Some, None}
use Rattle.std.proofs.Common.{refl, sym, ◌∙◌, ap, subst, arith, ◌⊎◌, inl, inr, ⊎_elim}
use Rattle.std.proofs.lemmas.Bool.{cases_eq}
use Rattle.std.proofs.lemmas.List.{get_or-set_same, get_or-set_other, map-set, get_or-map, set-get_or, length-map}
use Rattle.xc_intents.specs.declared.slots.Chain.{Chain}
use Rattle.xc_intents.specs.Slots.{chain_at, no_chain, twig, loose, is_right, behind_bit, below, hung, Leads, IsTree, NoChain}
use Rattle.xc_intents.specs.Slots.{Distinct}

-- ---- a walk comes to one chain

one-end : (cs : List Chain) (t m n rest cur a b : ℕ) → (chain_at cs a).txn ≡ t → (chain_at cs b).txn ≡ t → Leads cs t m rest cur a
    → Leads cs t n rest cur b → a ≡ b
one-end cs t zero zero rest cur a b ta tb la lb = sym la ∙ lb
one-end cs t zero (suc n) rest cur a b ta tb la lb = absurd (lb.0 (ap (λ k. (chain_at cs k).txn) la ∙ ta))
one-end cs t (suc m) zero rest cur a b ta tb la lb = absurd (la.0 (ap (λ k. (chain_at cs k).txn) lb ∙ tb))
one-end cs t (suc m) (suc n) rest cur a b ta tb la lb =
    let is_a = la.2 in
    let is_b = lb.2 in
    let same : lb.1 ≡ la.1 = (cc) in
    one-end cs t m n (behind_bit rest) la.1 a b ta tb la.3 (subst (λ j. Leads cs t n (behind_bit rest) j b) same lb.3)

-- the chains of a tree are of different transactions
pub tree-one : (cs : List Chain) (n a b : ℕ) → IsTree cs n → a < n → b < n → (chain_at cs a).txn ≡ (chain_at cs b).txn → a ≡ b
tree-one cs n a b tree low high same =
    let f = tree.found a low in
    let g = tree.found b high in
    one-end cs (chain_at cs a).txn f.0 g.0 (chain_at cs a).txn 0 a b refl (sym same) f.1
    (subst (λ t. Leads cs t g.0 t 0 b) (sym same) g.1)

pub tree-distinct : (cs : List Chain) → IsTree cs (length cs) → Distinct cs
tree-distinct cs tree a b lt high same = let one : a ≡ b = tree-one cs (length cs) a b tree (omega arith) high same in absurd (omega arith)

-- ---- a chain is looked for

-- each chain of the transaction is below the one at cur
abbrev pub Sought : List Chain → ℕ → ℕ → ℕ → Type 0
Sought cs t rest cur = (e : ℕ) → e < length cs → (chain_at cs e).txn ≡ t → (m : ℕ) × Leads cs t m rest cur e

pub sought-first : (cs : List Chain) (t : ℕ) → IsTree cs (length cs) → Sought cs t t 0
sought-first cs t tree = λ e b same. let f = tree.found e b in subst (λ u. (m : ℕ) × Leads cs u m u 0 e) same f

pub sought-none : (cs : List Chain) (t rest cur : ℕ) → Sought cs t rest cur → (chain_at cs cur).txn ≢ t
    → below (is_right rest) (chain_at cs cur) ≡ None → NoChain cs t
sought-none cs t rest cur sought ne none = λ k b same. let f = sought k b same in go f.0 k same f.1
  where
    go : (m k : ℕ) → (chain_at cs k).txn ≡ t → Leads cs t m rest cur k → ⊥
    go zero k same l = ne (ap (λ i. (chain_at cs i).txn) l ∙ same)
    go (suc m) k same l = let some = l.2 in absurd (cc)

pub sought-next : (cs : List Chain) (t rest cur j : ℕ) → Sought cs t rest cur → (chain_at cs cur).txn ≢ t
    → below (is_right rest) (chain_at cs cur) ≡ Some j → Sought cs t (behind_bit rest) j
sought-next cs t rest cur j sought ne is = λ e b same. let f = sought e b same in go f.0 e same f.1
  where
    go : (m e : ℕ) → (chain_at cs e).txn ≡ t → Leads cs t m rest cur e → (m : ℕ) × Leads cs t m (behind_bit rest) j e
    go zero e same l = absurd (ne (ap (λ i. (chain_at cs i).txn) l ∙ same))
    go (suc m) e same l = let some = l.2 in let there : l.1 ≡ j = (cc) in (m, subst (λ i. Leads cs t m (behind_bit rest) i e) there l.3)

-- ---- a tree into which more is put

pub record Fills (cs ds : List Chain) (n : ℕ) : Type 0 where
  pub txn : (k : ℕ) → k < n → (chain_at ds k).txn ≡ (chain_at cs k).txn
  pub more : (k j : ℕ) (side : Bool) → k < n → below side (chain_at cs k) ≡ Some j → below side (chain_at ds k) ≡ Some j

leads-fills : (cs ds : List Chain) (n t m rest cur e : ℕ) → IsTree cs n → Fills cs ds n → cur < n → Leads cs t m rest cur e
    → Leads ds t m rest cur e
leads-fills cs ds n t zero rest cur e tree f b l = l
leads-fills cs ds n t (suc m) rest cur e tree f b l = (
  λ same. l.0 (sym (f.txn cur b) ∙ same),
  l.1,
  f.more cur l.1 (is_right rest) b l.2,
  leads-fills cs ds n t m (behind_bit rest) l.1 e tree f (tree.later cur l.1 (is_right rest) b l.2).1 l.3,
)

found-fills : (cs ds : List Chain) (n e : ℕ) → IsTree cs n → Fills cs ds n → e < n
    → (m : ℕ) × Leads ds (chain_at ds e).txn m (chain_at ds e).txn 0 e
found-fills cs ds n e tree f b =
    let g = tree.found e b in
    subst (λ t. (m : ℕ) × Leads ds t m t 0 e) (sym (f.txn e b))
    (g.0, leads-fills cs ds n (chain_at cs e).txn g.0 (chain_at cs e).txn 0 e tree f (omega arith) g.1)

-- a tree of the same nodes
pub tree-same : (cs ds : List Chain) (n : ℕ) → ((k : ℕ) → k < n → twig (chain_at ds k) ≡ twig (chain_at cs k)) → IsTree cs n → IsTree ds n
tree-same cs ds n same tree = record {
  later = λ i j side b is. tree.later i j side b (sym (ap (below side) (same i b)) ∙ is);
  found = λ e b. found-fills cs ds n e tree fills b;
}
  where
    fills : Fills cs ds n
    fills = record {
      txn = λ k b. ap (λ (c : Chain). c.txn) (same k b);
      more = λ k j side b is. ap (below side) (same k b) ∙ is;
    }

-- ---- the place of a chain that is put into the tree

-- where the chain n hangs below cur, it is found from the top
abbrev pub Comes : List Chain → ℕ → ℕ → ℕ → ℕ → Type 0
Comes cs t n rest cur = (ds : List Chain) → Fills cs ds n → (m : ℕ) → Leads ds t m rest cur n → (k : ℕ) × Leads ds t k t 0 n

pub comes-first : (cs : List Chain) (t n : ℕ) → Comes cs t n t 0
comes-first cs t n = λ ds f m l. (m, l)

pub comes-next : (cs : List Chain) (t n rest cur j : ℕ) → cur < n → (chain_at cs cur).txn ≢ t
    → below (is_right rest) (chain_at cs cur) ≡ Some j → Comes cs t n rest cur → Comes cs t n (behind_bit rest) j
comes-next cs t n rest cur j b ne is comes = λ ds f m l.
    comes ds f (suc m) (λ same. ne (sym (f.txn cur b) ∙ same), j, f.more cur j (is_right rest) b is, l)

below-hung : (side : Bool) (n : ℕ) (c : Chain) → below side (hung side n c) ≡ Some n
below-hung true n c = refl
below-hung false n c = refl

below-other : (side other : Bool) (n j : ℕ) (c : Chain) → below side c ≡ None → below other c ≡ Some j
    → below other (hung side n c) ≡ Some j
below-other true true n j c none is = absurd (cc)
below-other true false n j c none is = is
below-other false true n j c none is = is
below-other false false n j c none is = absurd (cc)

hung-below : (side other : Bool) (n j : ℕ) (c : Chain) → below other (hung side n c) ≡ Some j → (n ≡ j) ⊎ (below other c ≡ Some j)
hung-below true true n j c is = inl (cc)
hung-below true false n j c is = inr is
hung-below false true n j c is = inr is
hung-below false false n j c is = inl (cc)

hung-txn : (side : Bool) (n : ℕ) (c : Chain) → (hung side n c).txn ≡ c.txn
hung-txn true n c = refl
hung-txn false n c = refl

hung-loose : (side : Bool) (n : ℕ) (c : Chain) → loose (hung side n c) ≡ loose c
hung-loose true n c = refl
hung-loose false n c = refl

no-branch : (side : Bool) (c : Chain) → loose c ≡ c → below side c ≡ None
no-branch true c e = sym (ap (λ (d : Chain). d.right) e)
no-branch false c e = sym (ap (λ (d : Chain). d.left) e)

pub tree-root : (cs : List Chain) → loose (chain_at cs 0) ≡ chain_at cs 0 → IsTree cs 1
tree-root cs bare = record {
  later = λ i j side b is.
      let zero_i : i ≡ 0 = omega arith in
      let none = no-branch side (chain_at cs 0) bare in
      let some : below side (chain_at cs 0) ≡ Some j = subst (λ k. below side (chain_at cs k) ≡ Some j) zero_i is in absurd (cc);
  found = λ e b. let zero_e : e ≡ 0 = omega arith in (0, sym zero_e);
}

module _ (cs : List Chain) (n p rest : ℕ) (long : n < length cs) (b : p < n) (tree : IsTree cs n)
    (other : (k : ℕ) → k < n → (chain_at cs k).txn ≢ (chain_at cs n).txn) (bare : loose (chain_at cs n) ≡ chain_at cs n)
    (free : below (is_right rest) (chain_at cs p) ≡ None) where
  abbrev grown : List Chain
  grown = set cs p (hung (is_right rest) n (chain_at cs p))

  grown-same : chain_at (set cs p (hung (is_right rest) n (chain_at cs p))) p ≡ hung (is_right rest) n (chain_at cs p)
  grown-same = get_or-set_same cs p (hung (is_right rest) n (chain_at cs p)) (no_chain 0) (omega arith)

  pub grown-other : (k : ℕ) → k ≢ p → chain_at (set cs p (hung (is_right rest) n (chain_at cs p))) k ≡ chain_at cs k
  grown-other k ne = get_or-set_other cs p k (hung (is_right rest) n (chain_at cs p)) (no_chain 0) ne

  grown-txn : (k : ℕ) → (chain_at (set cs p (hung (is_right rest) n (chain_at cs p))) k).txn ≡ (chain_at cs k).txn
  grown-txn k =
      ⊎_elim
      (λ (here : k ≡ p). subst (λ i. (chain_at (set cs p (hung (is_right rest) n (chain_at cs p))) i).txn ≡ (chain_at cs i).txn) (sym here)
      (ap (λ (c : Chain). c.txn) grown-same ∙ hung-txn (is_right rest) n (chain_at cs p)))
      (λ ne. ap (λ (c : Chain). c.txn) (grown-other k ne))
      (cases_eq k p)

  grown-fills : Fills cs (set cs p (hung (is_right rest) n (chain_at cs p))) n
  grown-fills = record {
    txn = λ k low. grown-txn k;
    more = λ k j side low is.
        ⊎_elim
        (λ (here : k ≡ p).
        let is_p : below side (chain_at cs p) ≡ Some j = subst (λ i. below side (chain_at cs i) ≡ Some j) here is in
        subst (λ i. below side (chain_at (set cs p (hung (is_right rest) n (chain_at cs p))) i) ≡ Some j) (sym here)
        (ap (below side) grown-same ∙ below-other (is_right rest) side n j (chain_at cs p) free is_p))
        (λ ne. ap (below side) (grown-other k ne) ∙ is)
        (cases_eq k p);
  }

  grown-later : (i j : ℕ) (side : Bool) → i < n → below side (chain_at (set cs p (hung (is_right rest) n (chain_at cs p))) i) ≡ Some j
      → (i < j) × (j < n + 1)
  grown-later i j side low is =
      ⊎_elim
      (λ (here : i ≡ p).
      ⊎_elim
      (λ (is_n : n ≡ j). (omega arith, omega arith))
      (λ (old : below side (chain_at cs p) ≡ Some j). let r = tree.later p j side b old in (omega arith, omega arith))
      (hung-below (is_right rest) side n j (chain_at cs p)
      (sym (ap (below side) grown-same) ∙ subst (λ k. below side (chain_at (set cs p (hung (is_right rest) n (chain_at cs p))) k) ≡ Some j)
      here is)))
      (λ ne. let r = tree.later i j side low (sym (ap (below side) (grown-other i ne)) ∙ is) in (r.0, omega arith))
      (cases_eq i p)

  pub tree-grown : Comes cs (chain_at cs n).txn n rest p → IsTree (set cs p (hung (is_right rest) n (chain_at cs p))) (n + 1)
  tree-grown comes = record {
    later = λ i j side low is.
        ⊎_elim
        (λ (here : i ≡ n).
        let none = no-branch side (chain_at cs n) bare in
        let some : below side (chain_at cs n) ≡ Some j = sym (ap (below side) (grown-other n (omega arith))) ∙ subst
        (λ k. below side (chain_at (set cs p (hung (is_right rest) n (chain_at cs p))) k) ≡ Some j) here is in
        absurd (cc))
        (λ (ne : i ≢ n). grown-later i j side (omega arith) is)
        (cases_eq i n);
    found = λ e low.
        ⊎_elim
        (λ (here : e ≡ n).
        let ds : List Chain = set cs p (hung (is_right rest) n (chain_at cs p)) in
        let one : Leads ds (chain_at cs n).txn 1 rest p n = (
          λ same. other p b (sym (grown-txn p) ∙ same),
          n,
          ap (below (is_right rest)) grown-same ∙ below-hung (is_right rest) n (chain_at cs p),
          refl,
        ) in
        subst (λ k. (m : ℕ) × Leads ds (chain_at ds k).txn m (chain_at ds k).txn 0 k) (sym here)
        (subst (λ t. (m : ℕ) × Leads ds t m t 0 n) (sym (grown-txn n)) (comes ds grown-fills 1 one)))
        (λ (ne : e ≢ n). found-fills cs (set cs p (hung (is_right rest) n (chain_at cs p))) n e tree grown-fills (omega arith))
        (cases_eq e n);
  }

-- ---- chains but for their places in the tree

pub loose-set : (cs : List Chain) (p : ℕ) (c : Chain) → p < length cs → loose c ≡ loose (chain_at cs p)
    → map loose (set cs p c) ≡ map loose cs
loose-set cs p c b e =
    map-set loose cs p c ∙ ap (set (map loose cs) p) (e ∙ sym (get_or-map loose cs p (no_chain 0) (no_chain 0) b))
    ∙ set-get_or (map loose cs) p (no_chain 0)

pub loose-hung : (cs : List Chain) (p n rest : ℕ) → p < length cs
    → map loose (set cs p (hung (is_right rest) n (chain_at cs p))) ≡ map loose cs
loose-hung cs p n rest b = loose-set cs p (hung (is_right rest) n (chain_at cs p)) b (hung-loose (is_right rest) n (chain_at cs p))

pub length-loose : (cs ds : List Chain) → map loose ds ≡ map loose cs → length ds ≡ length cs
length-loose cs ds e = sym (length-map ds loose) ∙ ap length e ∙ length-map cs loose

pub at-loose : (cs ds : List Chain) (k : ℕ) → map loose ds ≡ map loose cs → k < length cs → loose (chain_at ds k) ≡ loose (chain_at cs k)
at-loose cs ds k e h =
    let long = length-loose cs ds e in
    sym (get_or-map loose ds k (no_chain 0) (no_chain 0) (omega arith)) ∙ ap (λ zs. chain_at zs k) e
    ∙ get_or-map loose cs k (no_chain 0) (no_chain 0) h

pub distinct-loose : (cs ds : List Chain) → map loose ds ≡ map loose cs → Distinct cs → Distinct ds
distinct-loose cs ds e distinct a b lt high same =
    let long = length-loose cs ds e in
    let is_a = ap (λ (c : Chain). c.txn) (at-loose cs ds a e (omega arith)) in
    let is_b = ap (λ (c : Chain). c.txn) (at-loose cs ds b e (omega arith)) in
    distinct a b lt (omega arith) (sym is_a ∙ same ∙ is_b)

pub loose-twice : (cs : List Chain) → map loose (map loose cs) ≡ map loose cs
loose-twice [] = refl
loose-twice (c ∷ cs) = ap (λ ds. loose c ∷ ds) (loose-twice cs)
