-- What headers that fit tell of numbers, children and roots.
use Rattle.std.proofs.Common.{◌≡◌, ℕ, zero, suc, ◌<◌, ◌≤◌, ◌+◌, Bool, true, false, List, [], ◌∷◌, ◌++◌, length, drop, get_or, add-one, refl}
use Rattle.std.proofs.Common.{ap, sym, ◌∙◌, subst, inl, inr, ◌⊎◌, arith}
use Rattle.std.specs.Prelude.{Option, Some, None, MatchOption, IfNone, option_map, slice_get, ◌==◌, ◌&&◌, nat_le, if◌then◌else◌}
use Rattle.std.specs.Option.{option_map_or}
use Rattle.std.specs.List.{list_any}
use Rattle.std.proofs.lemmas.Bool.Decides.{nat_tests}
use Rattle.std.proofs.lemmas.Bool.{and_parts, cases_lt, eqb-true, both_ways}
use Rattle.xc_record.specs.declared.record.Header.{Header}
use Rattle.xc_record.specs.declared.headers.Next.{Next}
use Rattle.xc_record.specs.declared.headers.Next.TheVariants.{RootAt, LeftChild, RightChild}
use Rattle.xc_record.specs.declared.record.Tablet.{Tablet}
use Rattle.xc_record.specs.Hash.{holds}
use Rattle.xc_record.specs.Valid.{headers_of}
use Rattle.std.proofs.Math.Seq.{drop-cons}
use Rattle.xc_record.specs.Headers.{is_child_of, fits, fit_from, next_after, after_child, hi_of, headers_fit, children, with_next}
use Rattle.xc_record.specs.Headers.{parent_fits, child_fits, splits_off}

-- ---- a root holds each hash

pub record HasRoot (hash : ℕ) (hs : List Header) : Type 0 where
  pub at : ℕ
  pub header : Header
  pub stands : slice_get hs at ≡ Some header
  pub root : header.parent ≡ None
  pub holds_it : holds header hash ≡ true

later_root : (hash : ℕ) (h : Header) (hs : List Header) → HasRoot hash hs → HasRoot hash (h ∷ hs)
later_root hash h hs r = record { at = suc r.at; header = r.header; stands = r.stands; root = r.root; holds_it = r.holds_it }

-- the roots after h, from where the next one is to start
abbrev RootLater : List Header → ℕ → Header → List Header → Type 0
RootLater before hash h hs = (start : ℕ) → fit_from (before ++ h ∷ []) (RootAt start) hs ≡ true → start ≤ hash → HasRoot hash hs

root_from : (before : List Header) (lo hash : ℕ) (hs : List Header) → fit_from before (RootAt lo) hs ≡ true → lo ≤ hash → hash < 65536
    → HasRoot hash hs
root_from before lo hash [] e low high = absurd (omega (arith, eqb-true lo 65536 e))
root_from before lo hash (h ∷ hs) e low high =
    go (λ start fit from. root_from (before ++ h ∷ []) start hash hs fit from high) h.parent refl
    (and_parts (h.id == length before) (nat_le h.lo h.hi && parent_fits before (RootAt lo) h h.parent) here.0).1
  where
    here : (fits before (RootAt lo) h ≡ true) × (fit_from (before ++ h ∷ []) (next_after before (RootAt lo) h h.parent) hs ≡ true)
    here = and_parts _ _ e

    found : h.parent ≡ None → h.lo ≤ hash → hash ≤ h.hi → HasRoot hash (h ∷ hs)
    found is from to = record { at = 0; header = h; stands = refl; root = is; holds_it = grind (arith, nat_tests) }

    root : RootLater before hash h hs → h.parent ≡ None → h.lo ≡ lo → fit_from (before ++ h ∷ []) (RootAt (h.hi + 1)) hs ≡ true
        → (h.hi < hash) ⊎ (hash ≤ h.hi) → HasRoot hash (h ∷ hs)
    root later is begins fit (inl above) = later_root hash h hs (later (h.hi + 1) fit (omega arith))
    root later is begins fit (inr within) = found is (omega arith) within

    go : RootLater before hash h hs → (parent : Option ℕ) → h.parent ≡ parent
        → nat_le h.lo h.hi && parent_fits before (RootAt lo) h parent ≡ true → HasRoot hash (h ∷ hs)
    go later None is fit =
        let after : fit_from (before ++ h ∷ []) (RootAt (h.hi + 1)) hs ≡ true =
        subst (λ q. fit_from (before ++ h ∷ []) (next_after before (RootAt lo) h q) hs ≡ true) is here.1 in
        root later is (eqb-true h.lo lo (and_parts (nat_le h.lo h.hi) (h.lo == lo) fit).1) after (cases_lt h.hi hash)
    go later (Some id) is fit =
        let child = (and_parts (nat_le h.lo h.hi) (lo == 65536 && splits_off before id h) fit).1 in
        absurd (omega (arith, eqb-true lo 65536 (and_parts (lo == 65536) (splits_off before id h) child).0))

pub some_root : (hs : List Header) (hash : ℕ) → headers_fit hs ≡ true → hash < 65536 → HasRoot hash hs
unfolding headers_fit
some_root hs hash e high = root_from [] 0 hash hs e (omega arith) high

pub no_root_in_none : (hash : ℕ) → HasRoot hash [] → ⊥
no_root_in_none hash r = let none : None ≡ Some r.header = r.stands in cc

root_passes : (hash : ℕ) (h : Header) (hs : List Header) → (h.parent ≡ None → holds h hash ≡ true → ⊥) → HasRoot hash (h ∷ hs)
    → HasRoot hash hs
root_passes hash h hs n r = go r.at r.stands
  where
    go : (at : ℕ) → slice_get (h ∷ hs) at ≡ Some r.header → HasRoot hash hs
    go zero e = let same : h ≡ r.header = cc in absurd (n (ap (λ (x : Header). x.parent) same ∙ r.root) (ap (λ x. holds x hash) same
        ∙ r.holds_it))
    go (suc i) e = record { at = i; header = r.header; stands = e; root = r.root; holds_it = r.holds_it }

-- a tablet that isn't the root leaves it to those behind
pub root_behind : (hash : ℕ) (ts : List Tablet) (i : ℕ) (t : Tablet) → i < length ts → t ≡ get_or ts i t
    → (t.header.parent ≡ None → holds t.header hash ≡ true → ⊥)
    → HasRoot hash (headers_of (drop i ts)) → HasRoot hash (headers_of (drop (i + 1) ts))
root_behind hash ts i t lt is n r =
    let cut : drop i ts ≡ t ∷ drop (i + 1) ts = rw add-one (drop-cons ts i t lt ∙ ap (λ x. x ∷ drop (suc i) ts) (sym is)) in
    root_passes hash t.header (headers_of (drop (i + 1) ts)) n (subst (λ l. HasRoot hash (headers_of l)) cut r)

-- ---- children come in pairs

abbrev pub IsPair : ℕ → List Header → Option (Header × Header) → Type 0
IsPair id hs pair = MatchOption pair (list_any (is_child_of id) hs ≡ false) (λ two. (two.0.parent ≡ Some id) × (two.1.parent ≡ Some id))

-- the parent whose right child is to come
abbrev awaits : Next → Option ℕ
awaits (RootAt lo) = None
awaits LeftChild = None
awaits (RightChild parent lo hi) = Some parent

names : (parent : Option ℕ) (id : ℕ) → option_map_or (λ p. p == id) parent false ≡ true → parent ≡ Some id
names None id e = cc
names (Some p) id e = ap Some (eqb-true p id e)

is_named : (parent : Option ℕ) (id : ℕ) → parent ≡ Some id → option_map_or (λ p. p == id) parent false ≡ true
is_named parent id e = rw e (grind (arith, nat_tests))

-- the header after a left child is the right one
right_names : (before : List Header) (id lo hi : ℕ) (r : Header) (parent : Option ℕ)
    → parent_fits before (RightChild id lo hi) r parent ≡ true → parent ≡ Some id
right_names before id lo hi r None e = cc
right_names before id lo hi r (Some p) e = ap Some (eqb-true p id (and_parts (p == id) (r.lo == lo && r.hi == hi) e).0)

right_child : (before : List Header) (id lo hi : ℕ) (h : Header) (hs : List Header) → h.parent ≡ Some id
    → fit_from before (RightChild id lo hi) hs ≡ true → IsPair id (h ∷ hs) (with_next h hs)
right_child before id lo hi h [] named e = cc
right_child before id lo hi h (r ∷ rs) named e =
    let fit = and_parts (fits before (RightChild id lo hi) r)
    (fit_from (before ++ r ∷ []) (next_after before (RightChild id lo hi) r r.parent) rs) e in
    let there = and_parts (r.id == length before) (nat_le r.lo r.hi && parent_fits before (RightChild id lo hi) r r.parent) fit.0 in (
      named,
      right_names before id lo hi r r.parent
          (and_parts (nat_le r.lo r.hi) (parent_fits before (RightChild id lo hi) r r.parent) there.1).1,
    )

-- a header that names id as its parent, where id's right child is not what is to come, is followed by it
left_child : (before : List Header) (next : Next) (id : ℕ) (h : Header) (hs : List Header) → (awaits next ≡ Some id → ⊥)
    → h.parent ≡ Some id → child_fits before id next h ≡ true
    → fit_from (before ++ h ∷ []) (after_child before id next h) hs ≡ true → IsPair id (h ∷ hs) (with_next h hs)
left_child before (RootAt lo) id h hs n named fit later = right_child (before ++ h ∷ []) id (h.hi + 1) (hi_of before id) h hs named later
left_child before LeftChild id h hs n named fit later = right_child (before ++ h ∷ []) id (h.hi + 1) (hi_of before id) h hs named later
left_child before (RightChild parent lo hi) id h hs n named fit later =
    absurd (n (ap Some (sym (eqb-true id parent (and_parts (id == parent) (h.lo == lo && h.hi == hi) fit).0))))

widened : (id : ℕ) (h : Header) (hs : List Header) (pair : Option (Header × Header)) → is_child_of id h ≡ false → IsPair id hs pair
    → IsPair id (h ∷ hs) pair
widened id h hs None is p = rw is p
widened id h hs (Some two) is p = p

-- after a header that doesn't name id, id's right child is not what is to come
not_awaited : (before : List Header) (next : Next) (id : ℕ) (h : Header) (parent : Option ℕ) → (parent ≡ Some id → ⊥)
    → awaits (next_after before next h parent) ≡ Some id → ⊥
not_awaited before next id h None n e = cc
not_awaited before (RootAt lo) id h (Some q) n e = n e
not_awaited before LeftChild id h (Some q) n e = n e
not_awaited before (RightChild p lo hi) id h (Some q) n e = cc

abbrev PairLater : List Header → Next → Header → List Header → ℕ → Type 0
PairLater before next h hs id = (awaits (next_after before next h h.parent) ≡ Some id → ⊥) → IsPair id hs (children hs id)

pairs_from : (before : List Header) (next : Next) (hs : List Header) (id : ℕ) → fit_from before next hs ≡ true
    → (awaits next ≡ Some id → ⊥) → IsPair id hs (children hs id)
pairs_from before next [] id e n = refl
pairs_from before next (h ∷ hs) id e n =
    go (pairs_from (before ++ h ∷ []) (next_after before next h h.parent) hs id
    (and_parts (fits before next h) (fit_from (before ++ h ∷ []) (next_after before next h h.parent) hs) e).1) (is_child_of id h) refl
  where
    here : (fits before next h ≡ true) × (fit_from (before ++ h ∷ []) (next_after before next h h.parent) hs ≡ true)
    here = and_parts _ _ e

    fit : parent_fits before next h h.parent ≡ true
    fit = (and_parts (nat_le h.lo h.hi) (parent_fits before next h h.parent)
        (and_parts (h.id == length before) (nat_le h.lo h.hi && parent_fits before next h h.parent) here.0).1).1

    first : h.parent ≡ Some id → IsPair id (h ∷ hs) (with_next h hs)
    first named = left_child before next id h hs n named (subst (λ q. parent_fits before next h q ≡ true) named fit)
        (subst (λ q. fit_from (before ++ h ∷ []) (next_after before next h q) hs ≡ true) named here.1)

    go : PairLater before next h hs id → (b : Bool) → is_child_of id h ≡ b
        → IsPair id (h ∷ hs) (if b then with_next h hs else children hs id)
    go later true is = first (names h.parent id is)
    go later false is = widened id h hs (children hs id) is
        (later (not_awaited before next id h h.parent (λ named. both_ways _ is (is_named h.parent id named))))

pub pairs : (hs : List Header) (id : ℕ) → headers_fit hs ≡ true → IsPair id hs (children hs id)
unfolding headers_fit
pairs hs id e = pairs_from [] (RootAt 0) hs id e (λ none. cc)

-- where no numbers of children are given, no header names id
pub none_named : (id : ℕ) (hs : List Header) (pair : Option (Header × Header)) (ids : Option (ℕ × ℕ)) → IsPair id hs pair
    → ids ≡ option_map (λ two. (two.0.id, two.1.id)) pair
    → IfNone ids (list_any (is_child_of id) hs ≡ false)
none_named id hs None None p e = p
none_named id hs (Some two) None p e = cc
none_named id hs pair (Some ids) p e = tt
