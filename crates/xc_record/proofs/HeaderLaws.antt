-- Laws of headers that fit: the tablets that hold a hash form a line from a root down.
use Rattle.std.proofs.Common.{◌≡◌, ℕ, zero, suc, ◌<◌, ◌≤◌, ◌+◌, true, false, cond, ◌&&◌, List, [], ◌∷◌, ◌++◌, length, refl, ap, sym, ◌∙◌}
use Rattle.std.proofs.Common.{subst, arith, zero-add, append_assoc}
use Rattle.std.proofs.lemmas.Bool.Decides.{nat_tests}
use Rattle.std.proofs.lemmas.Bool.{both_ways, and_parts, eqb-true, leb-true, ltb-true, not-true}
use Rattle.std.proofs.lemmas.List.{append-nil}
use Rattle.std.specs.Prelude.{Option, Some, None, filter, slice_get, ◌==◌, nat_le, nat_lt}
use Rattle.std.specs.Option.{option_map_or}
use Rattle.std.specs.List.{list_any}
use Rattle.std.proofs.lemmas.List.Elements.{filter-append}
use Rattle.xc_record.specs.declared.record.Header.{Header}
use Rattle.xc_record.specs.declared.headers.Next.{Next}
use Rattle.xc_record.specs.declared.headers.Next.TheVariants.{RootAt, LeftChild, RightChild}
use Rattle.xc_record.specs.Hash.{holds}
use Rattle.xc_record.specs.Headers.{hi_of, after_child, root_fits, is_child_of, fits, next_after, fit_from, headers_fit, parent_fits}
use Rattle.xc_record.specs.Headers.{splits_off, child_fits}
use Rattle.xc_record.proofs.ListLaws.{Each, Each-append, Each-weaker, slice_get-append}

-- the first has the parent q, and each other one has the one before as its parent
abbrev pub Line : Option ℕ → List Header → Type 0
Line q [] = Unit {0}
Line q (h ∷ hs) = (h.parent ≡ q) × Line (Some h.id) hs

abbrev pub line_end : Option ℕ → List Header → Option ℕ
line_end q [] = q
line_end q (h ∷ hs) = line_end (Some h.id) hs

pub Line-snoc : (q : Option ℕ) (hs : List Header) (t : Header) → Line q hs → t.parent ≡ line_end q hs → Line q (hs ++ t ∷ [])
Line-snoc q [] t l e = (e, tt)
Line-snoc q (h ∷ hs) t l e = (l.0, Line-snoc (Some h.id) hs t l.1 e)

-- the headers are numbered from n
abbrev pub Numbered : ℕ → List Header → Type 0
Numbered n [] = Unit {0}
Numbered n (h ∷ hs) = (h.id ≡ n) × Numbered (n + 1) hs

pub Numbered-snoc : (n : ℕ) (hs : List Header) (t : Header) → Numbered n hs → t.id ≡ n + length hs → Numbered n (hs ++ t ∷ [])
Numbered-snoc n [] t h e = (omega arith, tt)
Numbered-snoc n (x ∷ hs) t h e = (h.0, Numbered-snoc (n + 1) hs t h.1 (omega arith))

pub Numbered-at : (n : ℕ) (hs : List Header) (i : ℕ) (b : Header) → Numbered n hs → slice_get hs i ≡ Some b → b.id ≡ n + i
Numbered-at n [] i b h e = cc
Numbered-at n (x ∷ hs) zero b h e = grind arith
Numbered-at n (x ∷ hs) (suc i) b h e = let k : b.id ≡ n + 1 + i = Numbered-at (n + 1) hs i b h.1 e in omega arith

abbrev pub line : ℕ → List Header → List Header
line hash hs = filter (λ h. holds h hash) hs

-- no tablet that holds the hash has the parent id
abbrev Childless : ℕ → ℕ → List Header → Type 0
Childless id hash = Each (λ h. h.parent ≡ Some id → holds h hash ≡ false)

no_line : (id hash : ℕ) (hs : List Header) → Line (Some id) (line hash hs) → Childless id hash hs → line hash hs ≡ []
no_line id hash [] l n = refl
no_line id hash (h ∷ hs) l n =
    elim (holds h hash) as
    (λ b. holds h hash ≡ b → Line (Some id) (cond b (h ∷ line hash hs) (line hash hs)) → cond b (h ∷ line hash hs) (line hash hs) ≡ []) [
      | true ↦ λ e l. absurd (both_ways _ (n.0 l.0) e)
      | false ↦ λ e l. no_line id hash hs l n.1
    ] refl l

ends_first : (q : Option ℕ) (hs : List Header) (hash : ℕ) (h : Header) → Line q (line hash (h ∷ hs)) → holds h hash ≡ true
    → Childless h.id hash hs → line_end q (line hash (h ∷ hs)) ≡ Some h.id
ends_first q hs hash h l s n =
    elim (holds h hash) as
    (λ c. c ≡ true → Line q (cond c (h ∷ line hash hs) (line hash hs)) → line_end q (cond c (h ∷ line hash hs) (line hash hs)) ≡ Some
    h.id) [
      | true ↦ λ e l. ap (line_end (Some h.id)) (no_line h.id hash hs l.1 n)
      | false ↦ λ e l. cc
    ] s l

-- a tablet of the line that has no child there ends it
ends_line : (q : Option ℕ) (hs : List Header) (hash i : ℕ) (b : Header) → Line q (line hash hs) → slice_get hs i ≡ Some b
    → holds b hash ≡ true
    → Childless b.id hash hs → line_end q (line hash hs) ≡ Some b.id
ends_line q [] hash i b l e s n = cc
ends_line q (h ∷ hs) hash zero b l e s n =
    let same : h ≡ b = cc in
    subst (λ x. holds x hash ≡ true → Childless x.id hash hs → line_end q (line hash (h ∷ hs)) ≡ Some x.id) same (ends_first q hs hash h l)
    s n.1
ends_line q (h ∷ hs) hash (suc i) b l e s n =
    elim (holds h hash) as
    (λ c. Line q (cond c (h ∷ line hash hs) (line hash hs)) → line_end q (cond c (h ∷ line hash hs) (line hash hs)) ≡ Some b.id) [
      | true ↦ λ l. ends_line (Some h.id) hs hash i b l.1 e s n.1
      | false ↦ λ l. ends_line q hs hash i b l e s n.1
    ] l

-- the line of a header more, where it holds the hash only after the line's end
line-snoc : (q : Option ℕ) (hs : List Header) (hash : ℕ) (t : Header) → Line q (line hash hs)
    → (holds t hash ≡ true → t.parent ≡ line_end q (line hash hs)) → Line q (line hash (hs ++ t ∷ []))
line-snoc q hs hash t l after =
    rw (filter-append (λ h. holds h hash) hs (t ∷ []))
    (elim (holds t hash) as (λ c. (c ≡ true → t.parent ≡ line_end q (line hash hs)) → Line q (line hash hs ++ cond c (t ∷ []) [])) [
      | true ↦ λ after. Line-snoc q (line hash hs) t l (after refl)
      | false ↦ λ after. rw append-nil l
    ] after)

-- of the headers before, what the next one relies on: roots end below the next one's range, and the children of the parent do
abbrev pub Awaits : List Header → Next → Type 0
Awaits before (RootAt lo) = Each (λ b. b.hi < lo) before
Awaits before LeftChild = Unit {0}
Awaits before (RightChild id lo hi) =
    Each (λ b. b.parent ≡ Some id → b.hi < lo) before ×
    ((parent : Header) × (slice_get before id ≡ Some parent) × (parent.lo ≤ lo) × (hi ≡ parent.hi))

-- what holds of headers that fit, before what may stand next
pub record Fits (before : List Header) (next : Next) : Type 0 where
  pub numbered : Numbered 0 before
  pub lines : (hash : ℕ) → Line None (line hash before)
  pub awaited : Awaits before next

-- no child of the parent holds a hash of the child that comes next
childless : (before : List Header) (hash id : ℕ) (parent t : Header) → parent.id ≡ id → holds t hash ≡ true
    → Each (λ b. b.parent ≡ Some id → b.hi < t.lo) before → Childless parent.id hash before
childless before hash id parent t same s n =
    Each-weaker _ _ (λ b below e. let k : b.hi < t.lo = below (e ∙ ap Some same) in grind (arith, nat_tests)) before n

within_parent : (hash : ℕ) (parent t : Header) → holds t hash ≡ true → parent.lo ≤ t.lo → t.hi ≤ parent.hi → holds parent hash ≡ true
within_parent hash parent t s lo hi = grind (arith, nat_tests)

child_line : (before : List Header) (hash id : ℕ) (parent t : Header) → Numbered 0 before → Line None (line hash before)
    → slice_get before id ≡ Some parent → t.parent ≡ Some id
    → parent.lo ≤ t.lo → t.hi ≤ parent.hi → Each (λ b. b.parent ≡ Some id → b.hi < t.lo) before → Line None (line hash (before ++ t ∷ []))
child_line before hash id parent t m l e p lo hi n =
    let same : parent.id ≡ id = Numbered-at 0 before id parent m e ∙ zero-add id in
    line-snoc None before hash t l (λ s. p ∙ ap Some (sym same)
    ∙ sym (ends_line None before hash id parent l e (within_parent hash parent t s lo hi) (childless before hash id parent t same s n)))

no_roots : (hs : List Header) (lo hash : ℕ) → Each (λ b. b.hi < lo) hs → lo ≤ hash → line hash hs ≡ []
no_roots [] lo hash n h = refl
no_roots (b ∷ hs) lo hash n h = let below : b.hi < lo = n.0 in let rest = no_roots hs lo hash n.1 h in grind (arith, nat_tests)

begins : (hash : ℕ) (t : Header) → holds t hash ≡ true → t.lo ≤ hash
begins hash t s = grind (arith, nat_tests)

root_line : (before : List Header) (hash : ℕ) (t : Header) → Line None (line hash before) → t.parent ≡ None
    → Each (λ b. b.hi < t.lo) before → Line None (line hash (before ++ t ∷ []))
root_line before hash t l p n =
    line-snoc None before hash t l (λ s. p ∙ ap (line_end None) (sym (no_roots before t.lo hash n (begins hash t s))))

pub Fits-root : (before : List Header) (lo : ℕ) (t : Header) → Fits before (RootAt lo) → t.id ≡ length before → t.lo ≤ t.hi
    → t.parent ≡ None → t.lo ≡ lo → Fits (before ++ t ∷ []) (RootAt (t.hi + 1))
Fits-root before lo t f i r p e = record {
  numbered = Numbered-snoc 0 before t f.numbered (i ∙ sym (zero-add (length before)));
  lines = λ hash. root_line before hash t (f.lines hash) p
      (Each-weaker _ _ (λ b below. let k : b.hi < lo = below in omega arith) before f.awaited);
  awaited = Each-append _ before (t ∷ []) (Each-weaker _ _ (λ b below. let k : b.hi < lo = below in omega arith) before f.awaited)
      (omega arith, tt);
}

no_child : (hs : List Header) (id : ℕ) → list_any (is_child_of id) hs ≡ false → Each (λ b. b.parent ≡ Some id → ⊥) hs
no_child [] id n = tt
no_child (h ∷ hs) id n = (λ e. grind (arith, nat_tests), no_child hs id (grind (arith, nat_tests)))

pub Fits-left : (before : List Header) (id : ℕ) (parent t : Header) → Numbered 0 before → ((hash : ℕ) → Line None (line hash before))
    → t.id ≡ length before → t.lo ≤ t.hi → t.parent ≡ Some id
    → list_any (is_child_of id) before ≡ false → slice_get before id ≡ Some parent → t.lo ≡ parent.lo → t.hi < parent.hi
    → Fits (before ++ t ∷ []) (RightChild id (t.hi + 1) (hi_of before id))
Fits-left before id parent t m l i r p n e lo hi = record {
  numbered = Numbered-snoc 0 before t m (i ∙ sym (zero-add (length before)));
  lines = λ hash. child_line before hash id parent t m (l hash) e p (omega arith) (omega arith)
      (Each-weaker _ _ (λ b none is. absurd (none is)) before (no_child before id n));
  awaited = (
    Each-append _ before (t ∷ []) (Each-weaker _ _ (λ b none is. absurd (none is)) before (no_child before id n)) (λ is. omega arith, tt),
    (parent, slice_get-append before (t ∷ []) id parent e, omega arith, rw e refl),
  );
}

pub Fits-right : (before : List Header) (id lo hi : ℕ) (t : Header) → Fits before (RightChild id lo hi) → t.id ≡ length before
    → t.parent ≡ Some id → t.lo ≡ lo → t.hi ≡ hi → Fits (before ++ t ∷ []) LeftChild
Fits-right before id lo hi t f i p el eh =
    let parent : Header = f.awaited.1.0 in
    let above : parent.lo ≤ lo = f.awaited.1.2 in
    let same : hi ≡ parent.hi = f.awaited.1.3 in
    record {
      numbered = Numbered-snoc 0 before t f.numbered (i ∙ sym (zero-add (length before)));
      lines = λ hash. child_line before hash id parent t f.numbered (f.lines hash) f.awaited.1.1 p (omega arith) (omega arith)
          (Each-weaker _ _ (λ b below is. let k : b.hi < lo = below is in omega arith) before f.awaited.0);
      awaited = tt;
    }

-- what the test of a left child tells
pub record SplitsOff (before : List Header) (id : ℕ) (t : Header) : Type 0 where
  pub parent : Header
  pub free : list_any (is_child_of id) before ≡ false
  pub at : slice_get before id ≡ Some parent
  pub lo : t.lo ≡ parent.lo
  pub hi : t.hi < parent.hi

pub splits_off-parts : (before : List Header) (id : ℕ) (t : Header) → splits_off before id t ≡ true → SplitsOff before id t
splits_off-parts before id t e = go (slice_get before id) refl (and_parts _ _ e).1
  where
    go : (o : Option Header) → slice_get before id ≡ o
        → option_map_or (λ parent. t.lo == parent.lo && nat_lt t.hi parent.hi) o false ≡ true → SplitsOff before id t
    go None at s = cc
    go (Some parent) at s = record {
      parent = parent;
      free = not-true _ (and_parts _ _ e).0;
      at = at;
      lo = eqb-true _ _ (and_parts _ _ s).0;
      hi = ltb-true _ _ (and_parts _ _ s).1;
    }

left_fits : (before : List Header) (id : ℕ) (t : Header) → Numbered 0 before → ((hash : ℕ) → Line None (line hash before))
    → t.id ≡ length before → t.lo ≤ t.hi → t.parent ≡ Some id
    → splits_off before id t ≡ true → Fits (before ++ t ∷ []) (RightChild id (t.hi + 1) (hi_of before id))
left_fits before id t m l i r p e =
    let s : SplitsOff before id t = splits_off-parts before id t e in
    Fits-left before id s.parent t m l i r p s.free s.at s.lo s.hi

child_fits-snoc : (before : List Header) (next : Next) (id : ℕ) (t : Header) → Fits before next → t.id ≡ length before → t.lo ≤ t.hi
    → t.parent ≡ Some id → child_fits before id next t ≡ true
    → Fits (before ++ t ∷ []) (after_child before id next t)
child_fits-snoc before (RootAt lo) id t f i r p e = left_fits before id t f.numbered f.lines i r p (and_parts _ _ e).1
child_fits-snoc before LeftChild id t f i r p e = left_fits before id t f.numbered f.lines i r p e
child_fits-snoc before (RightChild parent lo hi) id t f i r p e =
    let s = and_parts _ _ (and_parts _ _ e).1 in
    Fits-right before parent lo hi t f i (p ∙ ap Some (eqb-true _ _ (and_parts _ _ e).0)) (eqb-true _ _ s.0) (eqb-true _ _ s.1)

root_fits-snoc : (before : List Header) (next : Next) (t : Header) → Fits before next → t.id ≡ length before → t.lo ≤ t.hi
    → t.parent ≡ None → root_fits next t ≡ true → Fits (before ++ t ∷ []) (RootAt (t.hi + 1))
root_fits-snoc before (RootAt lo) t f i r p e = Fits-root before lo t f i r p (eqb-true _ _ e)
root_fits-snoc before LeftChild t f i r p e = cc
root_fits-snoc before (RightChild parent lo hi) t f i r p e = cc

-- a header that fits
pub Fits-snoc : (before : List Header) (next : Next) (t : Header) → Fits before next → fits before next t ≡ true
    → Fits (before ++ t ∷ []) (next_after before next t t.parent)
Fits-snoc before next t f e = go t.parent refl (and_parts _ _ rest.1)
  where
    rest : (t.id == length before ≡ true) × ((nat_le t.lo t.hi && parent_fits before next t t.parent) ≡ true)
    rest = and_parts _ _ e

    go : (q : Option ℕ) → t.parent ≡ q → (nat_le t.lo t.hi ≡ true) × (parent_fits before next t q ≡ true)
        → Fits (before ++ t ∷ []) (next_after before next t q)
    go None p h = root_fits-snoc before next t f (eqb-true _ _ rest.0) (leb-true _ _ h.0) p h.1
    go (Some id) p h = child_fits-snoc before next id t f (eqb-true _ _ rest.0) (leb-true _ _ h.0) p h.1

-- before the first header
pub Fits-none : Fits [] (RootAt 0)
Fits-none = record { numbered = tt; lines = λ hash. tt; awaited = tt }

abbrev pub FitsAll : List Header → Type 0
FitsAll hs = (next : Next) × Fits hs next

fit_from-all : (before : List Header) (next : Next) (hs : List Header) → Fits before next → fit_from before next hs ≡ true
    → FitsAll (before ++ hs)
fit_from-all before next [] f e = subst FitsAll (sym (append-nil before)) (next, f)
fit_from-all before next (h ∷ hs) f e =
    subst FitsAll (append_assoc before (h ∷ []) hs)
    (fit_from-all (before ++ h ∷ []) (next_after before next h h.parent) hs (Fits-snoc before next h f (and_parts _ _ e).0)
    (and_parts _ _ e).1)

pub headers_fit-all : (hs : List Header) → headers_fit hs ≡ true → FitsAll hs
unfolding headers_fit
headers_fit-all hs e = fit_from-all [] (RootAt 0) hs Fits-none e

-- a child's parent stands before it
pub parent_stands : (before : List Header) (next : Next) (t : Header) (id : ℕ) → Fits before next → fits before next t ≡ true
    → t.parent ≡ Some id → (parent : Header) × (slice_get before id ≡ Some parent)
parent_stands before next t id f e p = go next f (subst (λ q. parent_fits before next t q ≡ true) p (and_parts _ _ (and_parts _ _ e).1).1)
  where
    go : (next : Next) → Fits before next → child_fits before id next t ≡ true → (parent : Header) × (slice_get before id ≡ Some parent)
    go (RootAt lo) f s = let parts : SplitsOff before id t = splits_off-parts before id t (and_parts _ _ s).1 in (parts.parent, parts.at)
    go LeftChild f s = let parts : SplitsOff before id t = splits_off-parts before id t s in (parts.parent, parts.at)
    go (RightChild parent lo hi) f s =
        (f.awaited.1.0, subst (λ i. slice_get before i ≡ Some f.awaited.1.0) (sym (eqb-true _ _ (and_parts _ _ s).0)) f.awaited.1.1)
