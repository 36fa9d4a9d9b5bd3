-- What waits, transaction by transaction.
use Rattle.std.proofs.Common.{◌≡◌, ℕ, ◌+◌, ◌≤◌, Bool, true, false, List, [], ◌∷◌, ◌++◌, Some, if◌then◌else◌, map, filter}
use Rattle.std.proofs.Common.{is_some, refl, ap, arith, append-nil, append_assoc, ◌∙◌}
use Rattle.std.specs.List.{flat_map, slice_get, enumerate_from}
use Rattle.std.specs.Option.{option_map_or}
use Rattle.xc_record.specs.declared.record.Tablet.{Tablet}
use Rattle.xc_source.specs.Machine.{Machine, Transaction, commit_of}
use Rattle.xc_source.specs.Waiting.{tablets_of, pending_of, pending_by, pending}
use Rattle.std.proofs.Common.{◌<◌, length, ◌⊎◌, inl, inr, ⊎_elim, sym, subst, ◌&&◌, ◌-◌, zero, suc, BTreeSet}
use Rattle.std.specs.BTreeSet as set
use Rattle.std.proofs.lemmas.Option.{same_Some, slice_get_past}
use Rattle.xc_source.specs.Machine.{begun}
use Rattle.xc_source.specs.Universe.{places_in}
use Rattle.xc_source.proofs.NumberedLaws.{numbered-next, numbered-pos}
use Rattle.std.specs.List.{list_any}
use Rattle.std.specs.BTreeMap.{is_at}
use Rattle.std.specs.Ordering.{nat_cmp}
use Rattle.std.specs.Cmp.{unsigned_ties}
use Rattle.std.specs.List.Sorted.{IsStrictlySortedBy}
use Rattle.std.proofs.lemmas.Bool.{cases_Bool, true≢false, and_right, or_from, ne_eqb, cases_eq, eqb-true, or_cases}
use Rattle.std.proofs.lemmas.Map.Keys.{below_from_sorted, sorted_tail}
use Rattle.xc_record.specs.declared.record.Header.{Header}
use Rattle.xc_source.specs.Machine.{is_open}
use Rattle.xc_source.specs.Waiting.{waits_on, pending_at}
use Rattle.xc_source.specs.Holders.{some_waits, numbered}
use Rattle.xc_source.proofs.BoundLaws.{some-wait}

abbrev pub pairs_of : Machine → ℕ × Transaction → List (ℕ × ℕ)
pairs_of m p = map (λ id. (p.0, id)) (tablets_of m p.1)

pending-if : (m : Machine) (b : Bool) (ps : List (ℕ × ℕ)) (n : ℕ) (t : Transaction) (rest : List (ℕ × Transaction))
    → (ps ++ (if b then pairs_of m (n, t) else [])) ++ flat_map (pairs_of m) rest
    ≡ ps ++ flat_map (pairs_of m) (if b then ((n, t) ∷ rest) else rest)
pending-if m true ps n t rest = append_assoc ps (pairs_of m (n, t)) (flat_map (pairs_of m) rest)
pending-if m false ps n t rest = ap (λ xs. xs ++ flat_map (pairs_of m) rest) (append-nil ps)

pub pending-step : (m : Machine) (ps : List (ℕ × ℕ)) (n : ℕ) (t : Transaction) (rest : List (ℕ × Transaction))
    → (ps ++ pending_of m n t) ++ flat_map (pairs_of m) (filter (λ p. is_some (commit_of p.1.stage)) rest)
    ≡ ps ++ flat_map (pairs_of m) (filter (λ p. is_some (commit_of p.1.stage)) ((n, t) ∷ rest))
pending-step m ps n t rest = pending-if m (is_some (commit_of t.stage)) ps n t (filter (λ p. is_some (commit_of p.1.stage)) rest)

pub pending-is : (m : Machine) (ps : List (ℕ × Transaction))
    → pending_by m ps ≡ flat_map (pairs_of m) (filter (λ p. is_some (commit_of p.1.stage)) ps)
pending-is m [] = refl
pending-is m (p ∷ ps) = ap (λ xs. pending_of m p.0 p.1 ++ xs) (pending-is m ps) ∙ pending-step m [] (p.0) (p.1) ps

pub pending_whole : (m : Machine) → pending_by m (enumerate_from 1 m.txns) ≡ pending m
unfolding pending
pending_whole m = pending-is m (enumerate_from 1 m.txns)

-- what waits of a committed transaction, by the open tablets
pub places_pending : (m : Machine) (n : ℕ) (t : Transaction) → is_some (commit_of t.stage) ≡ true
    → map (λ p. (n, p.0)) (places_in m t) ≡ pending_of m n t
unfolding tablets_of
places_pending m n t e =
    fused (places_in m t) ∙ ap (λ b. if b then map {B = ℕ × ℕ} (λ id. (n, id)) (map (λ p. p.0) (places_in m t)) else []) (sym e)
  where
    fused : (ps : List (ℕ × Tablet)) → map {B = ℕ × ℕ} (λ p. (n, p.0)) ps ≡ map (λ id. (n, id)) (map (λ p. p.0) ps)
    fused [] = refl
    fused (p ∷ ps) = ap (λ qs. (n, p.0) ∷ qs) (fused ps)

-- ---- found by the numbers of those of which something waits

none-there : (m : Machine) (t : Transaction) → some_waits t ≡ false → tablets_of m t ≡ []
unfolding tablets_of
none-there m t e = ap (map (λ (p : ℕ × Tablet). p.0)) (go 0 m.tablets)
  where
    no-wait : (h : Header) → waits_on h t ≡ false
    no-wait h = ⊎_elim (λ a. absurd (true≢false (sym (some-wait h t a) ∙ e))) (λ a. a) (cases_Bool (waits_on h t))

    go : (k : ℕ) (ts : List Tablet) → filter (λ p. is_open p.1 && waits_on p.1.header t) (enumerate_from k ts) ≡ []
    go k [] = refl
    go k (b ∷ ts) = rw (and_right (is_open b) (waits_on b.header t) (no-wait b.header)) (go (k + 1) ts)

-- rising numbers from k on
abbrev pub Rising : ℕ → List ℕ → Type 0
Rising k [] = Unit {0}
Rising k (n ∷ ns) = (k ≤ n) × Rising (n + 1) ns

rising : (n : ℕ) (ns : List ℕ) (k : ℕ) → IsStrictlySortedBy nat_cmp (n ∷ ns) → k ≤ n → Rising k (n ∷ ns)
rising n [] k s l = (l, tt)
rising n (x ∷ ns) k s l =
    let less = below_from_sorted (n ∷ x ∷ ns) 0 1 0 s (omega arith) (omega arith) in
    (l, rising x ns (n + 1) (sorted_tail nat_cmp n (x ∷ ns) s) (let w : n + 1 ≤ x = omega (arith, less) in w))

later : (k : ℕ) (ns : List ℕ) → Rising (k + 1) ns → Rising k ns
later k [] r = tt
later k (n ∷ ns) r = (let l = r.0 in let w : k ≤ n = omega (arith, l) in w, r.1)

not-below : (j k : ℕ) (ns : List ℕ) → Rising k ns → j < k → list_any (is_at (nat_cmp j)) ns ≡ false
not-below j k [] r l = refl
not-below j k (n ∷ ns) r l =
    let lo = r.0 in
    or_from (is_at (nat_cmp j) n) (list_any (is_at (nat_cmp j)) ns)
    (sym (unsigned_ties j n) ∙ ne_eqb j n (λ z. let w : ⊥ = omega (arith, lo, z) in w))
    (not-below j (n + 1) ns r.1 (let w : j < n + 1 = omega (arith, lo) in w))

-- what the transactions from the number k on have waiting is found by the numbers ns
pub record Finds (m : Machine) (k : ℕ) (us : List Transaction) (ns : List ℕ) : Type 0 where
  pub rises : Rising k ns
  pub there : (i : ℕ) (t : Transaction) → slice_get us i ≡ Some t → pending_at m (k + i) ≡ pending_of m (k + i) t
  pub past : (i : ℕ) → length us ≤ i → pending_at m (k + i) ≡ []
  pub covers : (i : ℕ) (t : Transaction) → slice_get us i ≡ Some t
      → (pending_of m (k + i) t ≡ []) ⊎ (list_any (is_at (nat_cmp (k + i))) ns ≡ true)

abbrev pub IsFound : Machine → ℕ → List Transaction → List ℕ → Type 0
IsFound m k us ns = flat_map (pending_at m) ns ≡ pending_by m (enumerate_from k us)

weaken : (j k : ℕ) (ns : List ℕ) → Rising k ns → j ≤ k → Rising j ns
weaken j k [] r l = tt
weaken j k (n ∷ ns) r l = (let lo = r.0 in let w : j ≤ n = omega (arith, lo) in w, r.1)

none-found : (m : Machine) (k : ℕ) (ns : List ℕ) → Rising k ns → ((i : ℕ) → pending_at m (k + i) ≡ []) → flat_map (pending_at m) ns ≡ []
none-found m k [] r e = refl
none-found m k (n ∷ ns) r e =
    let lo = r.0 in
    let z : k + (n - k) ≡ n = omega (arith, lo) in
    let none : pending_at m n ≡ [] = subst (λ j. pending_at m j ≡ []) z (e (n - k)) in
    ap (λ ps. ps ++ flat_map (pending_at m) ns) none
    ∙ none-found m k ns (weaken k (n + 1) ns r.1 (let w : k ≤ n + 1 = omega (arith, lo) in w)) e

next : (m : Machine) (k : ℕ) (t : Transaction) (us : List Transaction) (ns ms : List ℕ) → Finds m k (t ∷ us) ns → Rising (k + 1) ms
    → ((j : ℕ) → k + 1 ≤ j → list_any (is_at (nat_cmp j)) ns ≡ true → list_any (is_at (nat_cmp j)) ms ≡ true) → Finds m (k + 1) us ms
next m k t us ns ms f r c = record {
  rises = r;
  there = λ i u s. subst (λ j. pending_at m j ≡ pending_of m j u) (moved i) (f.there (suc i) u s);
  past = λ i l. subst (λ j. pending_at m j ≡ []) (moved i) (f.past (suc i) (omega arith));
  covers = λ i u s. subst (λ j. (pending_of m j u ≡ []) ⊎ (list_any (is_at (nat_cmp j)) ms ≡ true)) (moved i)
      (⊎_elim (λ a. inl a) (λ a. inr (c (k + suc i) (let w : k + 1 ≤ k + suc i = omega arith in w) a)) (f.covers (suc i) u s));
}
  where
    moved : (i : ℕ) → k + suc i ≡ k + 1 + i
    moved i = omega arith

nothing-here : (m : Machine) (k : ℕ) (t : Transaction) (us : List Transaction) (ns : List ℕ) → Finds m k (t ∷ us) ns
    → list_any (is_at (nat_cmp k)) ns ≡ false → pending_of m k t ≡ []
nothing-here m k t us ns f e =
    let z : k + 0 ≡ k = omega arith in
    ⊎_elim (λ a. a) (λ a. absurd (true≢false (sym a ∙ e)))
    (subst (λ j. (pending_of m j t ≡ []) ⊎ (list_any (is_at (nat_cmp j)) ns ≡ true)) z (f.covers 0 t refl))

found-step : (m : Machine) (k : ℕ) (t : Transaction) (us : List Transaction) (ns : List ℕ) → Finds m k (t ∷ us) ns
    → ((ms : List ℕ) → Finds m (k + 1) us ms → IsFound m (k + 1) us ms) → IsFound m k (t ∷ us) ns
found-step m k t us [] f rec =
    let here = nothing-here m k t us [] f refl in
    rec [] (next m k t us [] [] f tt (λ j l a. a)) ∙ ap (λ ps. ps ++ pending_by m (enumerate_from (k + 1) us)) (sym here)
found-step m k t us (n ∷ ns) f rec = ⊎_elim
    (λ z.
    let e0 : k + 0 ≡ k = omega arith in
    let at : pending_at m n ≡ pending_of m k t =
    subst (λ j. pending_at m j ≡ pending_of m k t) z (subst (λ j. pending_at m j ≡ pending_of m j t) e0 (f.there 0 t refl)) in
    ap (λ ps. ps ++ flat_map (pending_at m) ns) at
    ∙ ap (λ ps. pending_of m k t ++ ps)
    (rec ns (next m k t us (n ∷ ns) ns f (subst (λ j. Rising (j + 1) ns) (sym z) f.rises.1) (λ j l a. behind j z l a))))
    (λ d.
    let lo = f.rises.0 in
    let above : Rising (k + 1) (n ∷ ns) = (let w : k + 1 ≤ n = omega (arith, lo, d) in w, f.rises.1) in
    let here = nothing-here m k t us (n ∷ ns) f (not-below k (k + 1) (n ∷ ns) above (omega arith)) in
    rec (n ∷ ns) (next m k t us (n ∷ ns) (n ∷ ns) f above (λ j l a. a))
    ∙ ap (λ ps. ps ++ pending_by m (enumerate_from (k + 1) us)) (sym here))
    (cases_eq k n)
  where
    behind : (j : ℕ) → k ≡ n → k + 1 ≤ j → list_any (is_at (nat_cmp j)) (n ∷ ns) ≡ true → list_any (is_at (nat_cmp j)) ns ≡ true
    behind j z l a = ⊎_elim
        (λ b. absurd (let e : j ≡ n = eqb-true j n (unsigned_ties j n ∙ b) in let w : ⊥ = omega (arith, e, z, l) in w))
        (λ b. b) (or_cases (is_at (nat_cmp j) n) (list_any (is_at (nat_cmp j)) ns) a)

found : (m : Machine) (us : List Transaction) (k : ℕ) (ns : List ℕ) → Finds m k us ns → IsFound m k us ns
found m [] k ns f = none-found m k ns f.rises (λ i. f.past i (omega arith))
found m (t ∷ us) k ns f = found-step m k t us ns f (λ ms g. found m us (k + 1) ms g)

-- all that is pending is found by the rising numbers of the committed transactions of which something waits
pub pending-found : (m : Machine) (s : BTreeSet ℕ) → set.IsOrdered nat_cmp s
    → ((n : ℕ) (t : Transaction) → numbered m.txns n ≡ Some t → is_some (commit_of t.stage) ≡ true → some_waits t ≡ true
    → set.contains nat_cmp s n ≡ true)
    → flat_map (pending_at m) s.keys ≡ pending_by m (enumerate_from 1 m.txns)
pending-found m s o full = found m (begun ∷ m.txns) 0 s.keys record {
  rises = all s.keys o;
  there = λ i t e. there i t e;
  past = λ i l. past i l;
  covers = λ i t e. covers i t e;
}
  where
    all : (ns : List ℕ) → IsStrictlySortedBy nat_cmp ns → Rising 0 ns
    all [] o = tt
    all (n ∷ ns) o = rising n ns 0 o (omega arith)

    one : (i : ℕ) → 1 + i ≡ 0 + suc i
    one i = omega arith

    there : (i : ℕ) (t : Transaction) → slice_get (begun ∷ m.txns) i ≡ Some t → pending_at m (0 + i) ≡ pending_of m (0 + i) t
    there zero t e = ap (pending_of m 0) (same_Some begun t e)
    there (suc i) t e = subst (λ j. pending_at m j ≡ pending_of m j t) (one i)
        (ap (λ o. option_map_or (λ u. pending_of m (1 + i) u) o []) (numbered-next m.txns i t e))

    past : (i : ℕ) → length (begun ∷ m.txns) ≤ i → pending_at m (0 + i) ≡ []
    past zero l = absurd (omega arith)
    past (suc i) l = subst (λ j. pending_at m j ≡ []) (one i)
        (let z : i ≡ 1 + i - 1 = omega arith in
        ap (λ o. option_map_or (λ u. pending_of m (1 + i) u) o [])
        (numbered-pos m.txns (1 + i) (omega arith) ∙ ap (slice_get m.txns) (sym z) ∙ slice_get_past m.txns i (omega arith)))

    idle : (n : ℕ) (t : Transaction) → some_waits t ≡ false → pending_of m n t ≡ []
    idle n t e = go (is_some (commit_of t.stage))
      where
        go : (b : Bool) → (if b then map {B = ℕ × ℕ} (λ id. (n, id)) (tablets_of m t) else []) ≡ []
        go true = ap (map {B = ℕ × ℕ} (λ id. (n, id))) (none-there m t e)
        go false = refl

    covers : (i : ℕ) (t : Transaction) → slice_get (begun ∷ m.txns) i ≡ Some t
        → (pending_of m (0 + i) t ≡ []) ⊎ (list_any (is_at (nat_cmp (0 + i))) s.keys ≡ true)
    covers zero t e = inl (ap (pending_of m 0) (sym (same_Some begun t e)))
    covers (suc i) t e = ⊎_elim
        (λ w. ⊎_elim
        (λ c. inr (subst (λ j. list_any (is_at (nat_cmp j)) s.keys ≡ true) (one i) (full (1 + i) t (numbered-next m.txns i t e) c w)))
        (λ c. inl (ap (λ b. if b then map {B = ℕ × ℕ} (λ id. (0 + suc i, id)) (tablets_of m t) else []) c))
        (cases_Bool (is_some (commit_of t.stage))))
        (λ w. inl (idle (0 + suc i) t w)) (cases_Bool (some_waits t))

-- of a transaction that was never begun nothing waits
pub pending-past : (m : Machine) (n : ℕ) → length m.txns < n → pending_at m n ≡ []
pending-past m n l =
    ap (λ o. option_map_or (λ u. pending_of m n u) o [])
    (numbered-pos m.txns n (omega arith) ∙ slice_get_past m.txns (n - 1) (omega arith))
