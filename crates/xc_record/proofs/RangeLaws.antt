-- Laws of ranges: bounds and roots share out what they should, and one root holds a hash.
use Rattle.std.proofs.Common.{◌≡◌, ℕ, zero, suc, ◌+◌, ◌-◌, ◌<◌, ◌≤◌, Bool, true, false, cond, ◌&&◌, List, [], ◌∷◌, ◌++◌, length, map}
use Rattle.std.proofs.Common.{Option, Some, None, refl, ap, sym, ◌∙◌, subst, arith, ⊎_elim}
use Rattle.std.specs.Prelude.{nat_le, nat_lt, slice_get, is_none}
use Rattle.std.proofs.lemmas.Bool.{and_parts, eqb-true, leb-true, ltb-true, true≢false, cases_lt}
use Rattle.std.proofs.lemmas.Bool.Decides.{nat_tests}
use Rattle.std.proofs.lemmas.Option.{none-some}
use Rattle.xc_record.specs.declared.record.Header.{Header}
use Rattle.xc_record.specs.declared.headers.Next.{Next}
use Rattle.xc_record.specs.declared.headers.Next.TheVariants.{RootAt, LeftChild, RightChild}
use Rattle.xc_record.specs.Hash.{holds}
use Rattle.xc_record.specs.Headers.{fits, parent_fits, root_fits, next_after, after_child, fit_from, headers_fit}
use Rattle.xc_record.specs.Bounds.{are_bounds, rises_from, starts_at_0, ranges, ranges_from, Follows}
use Rattle.xc_record.specs.RangeLaws.{range, roots, holders, RangesHoldOnce, BoundsShareOut, RootsShareOut, OneRootHolds}
use Rattle.xc_record.proofs.HeaderLaws.{Line, line, FitsAll, headers_fit-all}

-- ---- ranges that follow one another

none-hold : (lo end h : ℕ) (rs : List (ℕ × ℕ)) → Follows lo end rs → h < lo → length (holders h rs) ≡ 0
none-hold lo end h [] f b = refl
none-hold lo end h (r ∷ rs) f b =
    let lo-is : r.0 ≡ lo = f.0 in
    let wide : r.0 ≤ r.1 = f.1.0 in
    let rest : length (holders h rs) ≡ 0 = none-hold (r.1 + 1) end h rs f.1.1 (omega arith) in
    let out : (nat_le r.0 h && nat_le h r.1) ≡ false = grind (arith, nat_tests) in
    ap (λ b. length (cond b (r ∷ holders h rs) (holders h rs))) out ∙ rest

follows-once : (lo end h : ℕ) (rs : List (ℕ × ℕ)) → Follows lo end rs → lo ≤ h → h < end → length (holders h rs) ≡ 1
follows-once lo end h [] f a b = absurd (omega arith)
follows-once lo end h (r ∷ rs) f a b =
    let lo-is : r.0 ≡ lo = f.0 in
    let wide : r.0 ≤ r.1 = f.1.0 in
    ⊎_elim
    (λ above.
    let rest : length (holders h rs) ≡ 1 = follows-once (r.1 + 1) end h rs f.1.1 (omega arith) b in
    let out : (nat_le r.0 h && nat_le h r.1) ≡ false = grind (arith, nat_tests) in
    ap (λ b. length (cond b (r ∷ holders h rs) (holders h rs))) out ∙ rest)
    (λ here.
    let none : length (holders h rs) ≡ 0 = none-hold (r.1 + 1) end h rs f.1.1 (omega arith) in
    let within : (nat_le r.0 h && nat_le h r.1) ≡ true = grind (arith, nat_tests) in
    ap (λ b. length (cond b (r ∷ holders h rs) (holders h rs))) within ∙ ap suc none)
    (cases_lt r.1 h)

pub ranges-hold-once : RangesHoldOnce
ranges-hold-once whole rs h f a b = follows-once whole.0 (whole.1 + 1) h rs f a (omega arith)

-- ---- bounds

bounds-follow : (lo : ℕ) (bs : List ℕ) → lo < 65536 → rises_from lo bs ≡ true → Follows lo 65536 (ranges_from lo bs)
bounds-follow lo [] l e = (refl, (omega arith, refl))
bounds-follow lo (b ∷ bs) l e =
    let parts = and_parts (nat_lt lo b) (nat_lt b 65536 && rises_from b bs) e in
    let rest = and_parts (nat_lt b 65536) (rises_from b bs) parts.1 in
    let up : lo < b = ltb-true lo b parts.0 in
    let same : b ≡ b - 1 + 1 = omega arith in (
      refl,
      (
        (let w : lo ≤ b - 1 = omega arith in w),
        subst (λ n. Follows n 65536 (ranges_from b bs)) same
            (bounds-follow b bs (ltb-true _ _ rest.0) rest.1),
      ),
    )

bounds-start : (bounds : List ℕ) → starts_at_0 bounds ≡ true → Follows 0 65536 (ranges bounds)
bounds-start [] e = cc
bounds-start (b ∷ bs) e =
    let parts = and_parts _ _ e in
    let zero-is : b ≡ 0 = eqb-true _ _ parts.0 in
    subst (λ n. Follows 0 65536 (ranges_from n bs)) (sym zero-is) (bounds-follow 0 bs (omega arith) parts.1)

pub bounds-share-out : BoundsShareOut
unfolding are_bounds
bounds-share-out bounds e = bounds-start bounds (and_parts _ _ e).0

-- ---- roots

-- where a child comes next, no root follows
abbrev IsPastRoots : Next → Type 0
IsPastRoots (RootAt lo) = ⊥
IsPastRoots LeftChild = Unit {0}
IsPastRoots (RightChild parent lo hi) = Unit {0}

past-child : (before : List Header) (id : ℕ) (next : Next) (h : Header) → IsPastRoots (after_child before id next h)
past-child before id (RootAt lo) h = tt
past-child before id LeftChild h = tt
past-child before id (RightChild parent lo hi) h = tt

no-root-fits : (next : Next) (h : Header) → IsPastRoots next → root_fits next h ≡ false
no-root-fits (RootAt lo) h p = absurd p
no-root-fits LeftChild h p = refl
no-root-fits (RightChild parent lo hi) h p = refl

-- what may stand at h
pub fits-parent : (before : List Header) (next : Next) (h : Header) → fits before next h ≡ true → parent_fits before next h h.parent ≡ true
fits-parent before next h e = (and_parts _ _ (and_parts _ _ e).1).1

pub fits-wide : (before : List Header) (next : Next) (h : Header) → fits before next h ≡ true → h.lo ≤ h.hi
fits-wide before next h e = leb-true _ _ (and_parts _ _ (and_parts _ _ e).1).0

no-roots : (before : List Header) (next : Next) (hs : List Header) → IsPastRoots next → fit_from before next hs ≡ true → roots hs ≡ []
no-roots before next [] p e = refl
no-roots before next (h ∷ hs) p e = go h.parent refl (λ n q f. no-roots (before ++ h ∷ []) n hs q f)
  where
    parts : (fits before next h ≡ true) × (fit_from (before ++ h ∷ []) (next_after before next h h.parent) hs ≡ true)
    parts = and_parts _ _ e

    go : (q : Option ℕ) → h.parent ≡ q → ((n : Next) → IsPastRoots n → fit_from (before ++ h ∷ []) n hs ≡ true → roots hs ≡ [])
        → cond (is_none h.parent) (h ∷ roots hs) (roots hs) ≡ []
    go None f more =
        absurd (true≢false (sym (subst (λ q. parent_fits before next h q ≡ true) f (fits-parent before next h parts.0))
        ∙ no-root-fits next h p))
    go (Some id) f more =
        ap (λ (q : Option ℕ). cond (is_none q) (h ∷ roots hs) (roots hs)) f
        ∙ more (after_child before id next h) (past-child before id next h)
        (subst (λ q. fit_from (before ++ h ∷ []) (next_after before next h q) hs ≡ true) f parts.1)

roots-follow : (before : List Header) (lo : ℕ) (hs : List Header) → fit_from before (RootAt lo) hs ≡ true
    → Follows lo 65536 (map range (roots hs))
roots-follow before lo [] e = eqb-true _ _ e
roots-follow before lo (h ∷ hs) e = go h.parent refl (λ n f. roots-follow (before ++ h ∷ []) n hs f)
  where
    parts : (fits before (RootAt lo) h ≡ true) × (fit_from (before ++ h ∷ []) (next_after before (RootAt lo) h h.parent) hs ≡ true)
    parts = and_parts _ _ e

    fit : (q : Option ℕ) → h.parent ≡ q → parent_fits before (RootAt lo) h q ≡ true
    fit q f = subst (λ q. parent_fits before (RootAt lo) h q ≡ true) f (fits-parent before (RootAt lo) h parts.0)

    rest : (q : Option ℕ) → h.parent ≡ q → fit_from (before ++ h ∷ []) (next_after before (RootAt lo) h q) hs ≡ true
    rest q f = subst (λ q. fit_from (before ++ h ∷ []) (next_after before (RootAt lo) h q) hs ≡ true) f parts.1

    go : (q : Option ℕ) → h.parent ≡ q
        → ((n : ℕ) → fit_from (before ++ h ∷ []) (RootAt n) hs ≡ true → Follows n 65536 (map range (roots hs)))
        → Follows lo 65536 (map range (cond (is_none h.parent) (h ∷ roots hs) (roots hs)))
    go None f more =
        subst (λ (q : Option ℕ). Follows lo 65536 (map range (cond (is_none q) (h ∷ roots hs) (roots hs)))) (sym f)
        (eqb-true _ _ (fit None f), (fits-wide before (RootAt lo) h parts.0, more (h.hi + 1) (rest None f)))
    go (Some id) f more =
        let ends : lo ≡ 65536 = eqb-true _ _ (and_parts _ _ (fit (Some id) f)).0 in
        let none : roots hs ≡ [] = no-roots (before ++ h ∷ []) (after_child before id (RootAt lo) h) hs tt (rest (Some id) f) in
        subst (λ (q : Option ℕ). Follows lo 65536 (map range (cond (is_none q) (h ∷ roots hs) (roots hs)))) (sym f)
        (subst (λ w. Follows lo 65536 (map range w)) (sym none) ends)

pub roots-share-out : RootsShareOut
unfolding headers_fit
roots-share-out hs e = roots-follow [] 0 hs e

-- ---- one root

-- in a line that begins below a tablet there is no root
no-root-below : (id hash : ℕ) (hs : List Header) (j : ℕ) (b : Header) → Line (Some id) (line hash hs) → slice_get hs j ≡ Some b
    → holds b hash ≡ true → b.parent ≡ None → ⊥
no-root-below id hash [] j b l e s p = cc
no-root-below id hash (h ∷ hs) zero b l e s p =
    let same : h ≡ b = cc in
    let holds-it : holds h hash ≡ true = ap (λ x. holds x hash) same ∙ s in
    let at : Line (Some id) (cond true (h ∷ line hash hs) (line hash hs)) =
    subst (λ c. Line (Some id) (cond c (h ∷ line hash hs) (line hash hs))) holds-it l in
    none-some id (sym p ∙ ap (λ (x : Header). x.parent) (sym same) ∙ at.0)
no-root-below id hash (h ∷ hs) (suc j) b l e s p =
    elim (holds h hash) as (λ c. Line (Some id) (cond c (h ∷ line hash hs) (line hash hs)) → ⊥) [
      | true ↦ λ l. no-root-below h.id hash hs j b l.1 e s p
      | false ↦ λ l. no-root-below id hash hs j b l e s p
    ] l

-- the first of a line is its one root
first-root : (hash : ℕ) (h : Header) (hs : List Header) (j : ℕ) (b : Header) → Line None (line hash (h ∷ hs)) → holds h hash ≡ true
    → slice_get hs j ≡ Some b → holds b hash ≡ true → b.parent ≡ None → ⊥
first-root hash h hs j b l s e t p =
    let at : Line None (cond true (h ∷ line hash hs) (line hash hs)) =
    subst (λ c. Line None (cond c (h ∷ line hash hs) (line hash hs))) s l in
    no-root-below h.id hash hs j b at.1 e t p

one-root : (hash : ℕ) (hs : List Header) (i j : ℕ) (a b : Header) → Line None (line hash hs) → slice_get hs i ≡ Some a
    → slice_get hs j ≡ Some b → a.parent ≡ None → b.parent ≡ None → holds a hash ≡ true → holds b hash ≡ true → i ≡ j
one-root hash [] i j a b l e f p q s t = cc
one-root hash (h ∷ hs) zero zero a b l e f p q s t = refl
one-root hash (h ∷ hs) zero (suc j) a b l e f p q s t =
    let same : h ≡ a = cc in absurd (first-root hash h hs j b l (ap (λ x. holds x hash) same ∙ s) f t q)
one-root hash (h ∷ hs) (suc i) zero a b l e f p q s t =
    let same : h ≡ b = cc in absurd (first-root hash h hs i a l (ap (λ x. holds x hash) same ∙ t) e s p)
one-root hash (h ∷ hs) (suc i) (suc j) a b l e f p q s t = ap suc (one-root hash hs i j a b (below (holds h hash) refl l) e f p q s t)
  where
    below : (c : Bool) → holds h hash ≡ c → Line None (cond c (h ∷ line hash hs) (line hash hs)) → Line None (line hash hs)
    below true g l = absurd (no-root-below h.id hash hs i a l.1 e s p)
    below false g l = l

pub one-root-holds : OneRootHolds
one-root-holds hs hash i j a b e there found p q s t =
    let all : FitsAll hs = headers_fit-all hs e in
    one-root hash hs i j a b (all.1.lines hash) there found p q s t
