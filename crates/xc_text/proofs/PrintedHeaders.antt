-- The numbers of headers that fit are within their ranges.
use Rattle.std.proofs.Common.{◌≡◌, ℕ, ◌+◌, ◌<◌, ◌≤◌, ◌==◌, Bool, true, false, ◌&&◌, not, nat_le, nat_lt, List, [], ◌∷◌, ◌++◌, length}
use Rattle.std.proofs.Common.{Option, Some, None, slice_get, if◌then◌else◌, refl, sym, ap, ◌∙◌, arith}
use Rattle.std.proofs.lemmas.Bool.{and_parts, lt-ltb, ltb-true, leb-true, eqb-true}
use Rattle.std.proofs.lemmas.List.{length_push}
use Rattle.std.proofs.lemmas.List.Folds.{list_all-append}
use Rattle.std.specs.List.{list_all, list_any}
use Rattle.std.specs.Option.{option_map_or}
use Rattle.std.proofs.lemmas.Option.{slice_get_within}
use Rattle.xc_record.specs.Headers.{is_child_of, splits_off, parent_fits, fits, hi_of, next_after, fit_from, children, with_next}
use Rattle.xc_record.specs.declared.headers.Next.{Next}
use Rattle.xc_record.specs.declared.headers.Next.TheVariants.{RootAt, LeftChild, RightChild}
use Rattle.xc_record.specs.declared.record.Header.{Header}
use Rattle.xc_text.specs.Lines.{header_numbers_fit}
use Rattle.xc_record.proofs.ListLaws.{all-at}

-- ---- what stands in a list

-- ---- roots end at 65535

root_cases : (before : List Header) (lo : ℕ) (h : Header) (hs : List Header) → nat_le h.lo h.hi ≡ true → (parent : Option ℕ)
    → parent_fits before (RootAt lo) h parent ≡ true
    → (parent ≡ None → h.hi + 1 ≤ 65536) → lo ≤ 65536
root_cases before lo h hs o None f more =
    let e : h.lo ≡ lo =
    eqb-true h.lo lo f in let l : h.lo ≤ h.hi = leb-true h.lo h.hi o in let k : h.hi + 1 ≤ 65536 = more refl in omega arith
root_cases before lo h hs o (Some id) f more =
    let e : lo ≡ 65536 = eqb-true lo 65536 (and_parts (lo == 65536) (splits_off before id h) f).0 in omega arith

fits_order : (before : List Header) (next : Next) (h : Header) → fits before next h ≡ true
    → (h.id ≡ length before) × (nat_le h.lo h.hi ≡ true) × (parent_fits before next h h.parent ≡ true)
fits_order before next h f =
    let p = and_parts (h.id == length before) (nat_le h.lo h.hi && parent_fits before next h h.parent) f in
    let q = and_parts (nat_le h.lo h.hi) (parent_fits before next h h.parent) p.1 in (eqb-true h.id (length before) p.0, q.0, q.1)

pub root_within : (before : List Header) (lo : ℕ) (hs : List Header) → fit_from before (RootAt lo) hs ≡ true → lo ≤ 65536
root_within before lo [] f = let e = eqb-true lo 65536 f in omega arith
root_within before lo (h ∷ hs) f =
    let p = and_parts (fits before (RootAt lo) h) (fit_from (before ++ h ∷ []) (next_after before (RootAt lo) h h.parent) hs) f in
    let o = fits_order before (RootAt lo) h p.0 in
    root_cases before lo h hs o.1 h.parent o.2
    (λ none. let e : next_after before (RootAt lo) h h.parent ≡ RootAt (h.hi + 1) = rw none refl in
    root_within (before ++ h ∷ []) (h.hi + 1) hs (ap (λ n. fit_from (before ++ h ∷ []) n hs) (sym e) ∙ p.1))

-- ---- header by header

abbrev pub bounded : List Header → Bool
bounded hs = list_all (λ h. nat_lt h.hi 65536) hs

abbrev pub NextFits : Next → Type 0
NextFits (RootAt lo) = Unit {0}
NextFits LeftChild = Unit {0}
NextFits (RightChild parent lo hi) = (parent < 64) × (hi < 65536)

-- what a header that fits leaves
pub record Fitted (before : List Header) (next : Next) (h : Header) (parent : Option ℕ) : Type 0 where
  pub hi : h.hi < 65536
  pub parents : option_map_or (λ p. nat_lt p 64) parent true ≡ true
  pub after : NextFits (next_after before next h parent)

abbrev pub Splits : List Header → ℕ → Header → Type 0
Splits before id h = (id < 64) × (h.hi < 65536) × (hi_of before id < 65536)

splits_cases : (before : List Header) (id : ℕ) (h : Header) → bounded before ≡ true → length before ≤ 64 → (o : Option Header)
    → slice_get before id ≡ o → option_map_or (λ parent. h.lo == parent.lo && nat_lt h.hi parent.hi) o false ≡ true → Splits before id h
splits_cases before id h b l None e f = cc
splits_cases before id h b l (Some parent) e f =
    let less : h.hi < parent.hi = ltb-true h.hi parent.hi (and_parts (h.lo == parent.lo) (nat_lt h.hi parent.hi) f).1 in
    let top : parent.hi < 65536 = ltb-true parent.hi 65536 (all-at (λ x. nat_lt x.hi 65536) before id parent b e) in
    let within = slice_get_within before id parent e in
    let is : hi_of before id ≡ parent.hi = rw e refl in (omega arith, omega arith, omega arith)

splits : (before : List Header) (id : ℕ) (h : Header) → bounded before ≡ true → length before ≤ 64 → splits_off before id h ≡ true
    → Splits before id h
splits before id h b l f =
    splits_cases before id h b l (slice_get before id) refl (and_parts (not (list_any (is_child_of id) before)) _ f).1

left_fitted : (before : List Header) (id : ℕ) (h : Header) → Splits before id h → (next : Next)
    → next_after before next h (Some id) ≡ RightChild id (h.hi + 1) (hi_of before id) → Fitted before next h (Some id)
left_fitted before id h s next e = record { hi = s.1; parents = lt-ltb id 64 s.0; after = rw e (s.0, s.2) }

fitted : (before : List Header) (next : Next) (h : Header) (hs : List Header) (parent : Option ℕ) → bounded before ≡ true
    → length before ≤ 64 → NextFits next → parent_fits before next h parent ≡ true
    → fit_from (before ++ h ∷ []) (next_after before next h parent) hs ≡ true → Fitted before next h parent
fitted before (RootAt lo) h hs None b l n f rest =
    let k = root_within (before ++ h ∷ []) (h.hi + 1) hs rest in record { hi = omega arith; parents = refl; after = tt }
fitted before LeftChild h hs None b l n f rest = cc
fitted before (RightChild p lo hi) h hs None b l n f rest = cc
fitted before (RootAt lo) h hs (Some id) b l n f rest =
    left_fitted before id h (splits before id h b l (and_parts (lo == 65536) (splits_off before id h) f).1) (RootAt lo) refl
fitted before LeftChild h hs (Some id) b l n f rest = left_fitted before id h (splits before id h b l f) LeftChild refl
fitted before (RightChild p lo hi) h hs (Some id) b l n f rest =
    let q = and_parts (id == p) (h.lo == lo && h.hi == hi) f in
    let r = and_parts (h.lo == lo) (h.hi == hi) q.1 in
    let e : id ≡ p = eqb-true id p q.0 in
    let g : h.hi ≡ hi = eqb-true h.hi hi r.1 in
    let low : id < 64 = let k = n.0 in omega arith in
    record { hi = let k = n.1 in omega arith; parents = lt-ltb id 64 low; after = tt }

pub all_small : (before : List Header) (next : Next) (hs : List Header) → bounded before ≡ true → NextFits next
    → length before + length hs ≤ 64 → fit_from before next hs ≡ true → list_all header_numbers_fit hs ≡ true
all_small before next [] b n l f = refl
all_small before next (h ∷ hs) b n l f =
    let p = and_parts (fits before next h) (fit_from (before ++ h ∷ []) (next_after before next h h.parent) hs) f in
    let o = fits_order before next h p.0 in
    let few : length before ≤ 64 = omega arith in
    let t = fitted before next h hs h.parent b few n o.2 p.1 in
    let hi : nat_lt h.hi 65536 ≡ true = lt-ltb h.hi 65536 t.hi in
    let order : h.lo ≤ h.hi = leb-true h.lo h.hi o.1 in
    let top : h.hi < 65536 = t.hi in
    let number : h.id ≡ length before = o.0 in
    let id : nat_lt h.id 64 ≡ true = lt-ltb h.id 64 (omega arith) in
    let lo : nat_lt h.lo 65536 ≡ true = lt-ltb h.lo 65536 (omega arith) in
    let more : length (before ++ h ∷ []) ≡ length before + 1 = length_push before h in
    let longer : length (before ++ h ∷ []) + length hs ≤ 64 = omega arith in
    let all : bounded (before ++ h ∷ []) ≡ true = list_all-append (λ x. nat_lt x.hi 65536) before (h ∷ []) ∙ rw (b, hi) refl in
    let this : header_numbers_fit h ≡ true = rw (id, lo, hi) t.parents in
    rw this (all_small (before ++ h ∷ []) (next_after before next h h.parent) hs all t.after longer p.1)

-- ---- the children of a tablet are headers

with_next_all : (p : Header → Bool) (h : Header) (hs : List Header) (pair : Header × Header) → p h ≡ true → list_all p hs ≡ true
    → with_next h hs ≡ Some pair → (p pair.0 ≡ true) × (p pair.1 ≡ true)
with_next_all p h [] pair a b e = cc
with_next_all p h (x ∷ hs) pair a b e =
    let same : (h, x) ≡ pair = cc in
    let q = and_parts (p x) (list_all p hs) b in (ap (λ t. p t.0) (sym same) ∙ a, ap (λ t. p t.1) (sym same) ∙ q.0)

pub children_all : (p : Header → Bool) (hs : List Header) (id : ℕ) (pair : Header × Header) → list_all p hs ≡ true
    → children hs id ≡ Some pair → (p pair.0 ≡ true) × (p pair.1 ≡ true)
children_all p [] id pair a e = cc
children_all p (h ∷ hs) id pair a e = by (λ f. children_all p hs id pair q.1 f) (is_child_of id h) e
  where
    q : (p h ≡ true) × (list_all p hs ≡ true)
    q = and_parts (p h) (list_all p hs) a

    by : (children hs id ≡ Some pair → (p pair.0 ≡ true) × (p pair.1 ≡ true)) → (b : Bool)
        → (if b then with_next h hs else children hs id) ≡ Some pair → (p pair.0 ≡ true) × (p pair.1 ≡ true)
    by more true f = with_next_all p h hs pair q.0 q.1 f
    by more false f = more f
