-- The logs of a source fit the rules on headers and records: as they grow by a record, and by a split.
--     FitsOf time count bs      they do while the clock stands at `time` and `count` transactions were begun
use Rattle.std.proofs.Common.{◌≡◌, ◌≢◌, ℕ, suc, ◌+◌, ◌^◌, ◌<◌, ◌≤◌, true, false, Bool, List, [], ◌∷◌, ◌++◌, length, Option}
use Rattle.std.proofs.Common.{Some, None}
use Rattle.std.proofs.Common.{refl, ap, sym, ◌∙◌, subst, arith, append_assoc}
use Rattle.std.specs.Prelude.{not, slice_get, if◌then◌else◌, ◌&&◌, ◌||◌, ◌==◌, is_none, is_some, nat_le, nat_lt}
use Rattle.std.specs.List.{list_all, list_any}
use Rattle.std.specs.Option.{option_map_or}
use Rattle.std.proofs.lemmas.Bool.Decides.{nat_tests}
use Rattle.std.proofs.lemmas.Bool.{and_parts, or_parts, ne_eqb, eq-eqb}
use Rattle.std.proofs.lemmas.List.{length_push}
use Rattle.std.proofs.lemmas.List.Folds.{list_all-append}
use Rattle.xc_time.specs.Times.{last_time}
use Rattle.xc_record.specs.declared.record.Header.{Header}
use Rattle.xc_record.specs.declared.record.Kind.{Kind}
use Rattle.xc_record.specs.declared.record.Kind.TheVariants as kind
use Rattle.xc_record.specs.declared.record.Record.{Record}
use Rattle.xc_record.specs.declared.headers.Next.{Next}
use Rattle.xc_record.specs.declared.headers.Next.TheVariants.{RootAt, LeftChild, RightChild}
use Rattle.xc_record.specs.Headers.{is_child_of, splits_off, fits, next_after, hi_of, may_end, fit_from, with_next}
use Rattle.xc_record.specs.Headers.{children}
use Rattle.xc_record.specs.Order.{is_split}
use Rattle.xc_record.specs.Valid.{is_time, kind_fits, record_fits, ends_fit, tablet_fits, ops_in}
use Rattle.xc_record.specs.Accepted.{AcceptedTablet}
use Rattle.xc_record.proofs.ListLaws.{Each, Each-append}
use Rattle.xc_model.proofs.Parents.{heads}
use Rattle.xc_source_laws.proofs.Lists.{each-replaced, each-here, map-replaced}
use Rattle.xc_source_laws.proofs.Grow.{tablet_of, taken}
use Rattle.xc_source_laws.proofs.Books.{opens, opens-taken}

abbrev pub OpenSaid : List Header → AcceptedTablet → Type 0
OpenSaid hs b = opens b ≡ is_none (children hs b.header.id)

abbrev pub TabletFits : List Header → AcceptedTablet → Type 0
TabletFits hs b = tablet_fits hs (tablet_of b) ≡ true

abbrev pub IsSmall : AcceptedTablet → Type 0
IsSmall b = Each (λ r. ops_in r.kind ≤ 1) b.records

pub record FitsOf (time count : ℕ) (bs : List AcceptedTablet) : Type 0 where
  pub next : Next
  pub ends : may_end next ≡ true
  pub fit : (tail : List Header) → fit_from [] (RootAt 0) (heads bs ++ tail) ≡ fit_from (heads bs) next tail
  pub paired : (id : ℕ) → children (heads bs) id ≡ None → list_any (is_child_of id) (heads bs) ≡ false
  pub parents : (n : ℕ) → length bs ≤ n → list_any (is_child_of n) (heads bs) ≡ false
  pub said : Each (OpenSaid (heads bs)) bs
  pub each : time ≤ last_time → count < 2 ^ 32 → Each (TabletFits (heads bs)) bs
  pub small : Each IsSmall bs

pub fits-later : (t u c d : ℕ) (bs : List AcceptedTablet) → t ≤ u → c ≤ d → FitsOf t c bs → FitsOf u d bs
fits-later t u c d bs l m f = record {
  next = f.next;
  ends = f.ends;
  fit = f.fit;
  paired = f.paired;
  parents = f.parents;
  said = f.said;
  each = λ a b. f.each (omega arith) (omega arith);
  small = f.small;
}

-- ---- a record more

pub no-split-more : (rs : List Record) (r : Record) → is_split r.kind ≡ false → ends_fit false rs ≡ true
    → ends_fit false (rs ++ r ∷ []) ≡ true
no-split-more [] r n e = grind (arith, n)
no-split-more (q ∷ rs) r n e = grind (arith, n, no-split-more rs r n)

pub split-more : (rs : List Record) (r : Record) → is_split r.kind ≡ true → ends_fit false rs ≡ true → ends_fit true (rs ++ r ∷ []) ≡ true
split-more [] r n e = rw n refl
split-more (q ∷ rs) r n e = go (is_split q.kind) refl (λ w. split-more rs r n w) e
  where
    go : (b : Bool) → is_split q.kind ≡ b → (ends_fit false rs ≡ true → ends_fit true (rs ++ r ∷ []) ≡ true)
        → (if b then (false && length rs == 0) else ends_fit false rs) ≡ true
        → (if b then (true && length (rs ++ r ∷ []) == 0) else ends_fit true (rs ++ r ∷ [])) ≡ true
    go true q more w = cc
    go false q more w = more w

abbrev pub record_ok : Header → Record → Type 0
record_ok h r = record_fits h None r ≡ true

pub none-of : {A : Type 0} (o : Option A) → is_none o ≡ true → o ≡ None
none-of None e = refl
none-of (Some x) e = cc

pub parts-of : (hs : List Header) (h : Header) (rs : List Record) (o : Option (Header × Header)) → children hs h.id ≡ o
    → tablet_fits hs (record { header = h; records = rs }) ≡ true
    → (list_all (record_fits h o) rs ≡ true) × (ends_fit (is_some o) rs ≡ true)
parts-of hs h rs o c e = and_parts _ _ (subst (λ w. (list_all (record_fits h w) rs && ends_fit (is_some w) rs) ≡ true) c e)

pub from-parts : (hs : List Header) (h : Header) (rs : List Record) (o : Option (Header × Header)) → children hs h.id ≡ o
    → list_all (record_fits h o) rs ≡ true → ends_fit (is_some o) rs ≡ true → tablet_fits hs (record { header = h; records = rs }) ≡ true
from-parts hs h rs o c a e = subst (λ w. (list_all (record_fits h w) rs && ends_fit (is_some w) rs) ≡ true) (sym c) (rw (a, e) refl)

taken-fits : (hs : List Header) (b : AcceptedTablet) (r : Record) → opens b ≡ true → OpenSaid hs b → is_split r.kind ≡ false
    → record_ok b.header r
    → TabletFits hs b → TabletFits hs (taken b r)
taken-fits hs b r o said n fit f =
    let none = none-of (children hs b.header.id) (sym said ∙ o) in
    let p = parts-of hs b.header b.records None none f in
    from-parts hs b.header (b.records ++ r ∷ []) None none
    (list_all-append (record_fits b.header None) b.records (r ∷ []) ∙ rw (p.0, fit) refl) (no-split-more b.records r n p.1)

pub heads-same : (xs : List AcceptedTablet) (b : AcceptedTablet) (ys : List AcceptedTablet) (r : Record)
    → heads (xs ++ b ∷ ys) ≡ heads (xs ++ taken b r ∷ ys)
heads-same xs b ys r = map-replaced (λ (w : AcceptedTablet). w.header) xs b (taken b r) ys refl

pub length-same : {A : Type 0} (xs : List A) (b c : A) (ys : List A) → length (xs ++ b ∷ ys) ≡ length (xs ++ c ∷ ys)
length-same [] b c ys = refl
length-same (x ∷ xs) b c ys = ap suc (length-same xs b c ys)

pub small-taken : (xs : List AcceptedTablet) (b : AcceptedTablet) (ys : List AcceptedTablet) (r : Record) → ops_in r.kind ≤ 1
    → Each IsSmall (xs ++ b ∷ ys) → Each IsSmall (xs ++ taken b r ∷ ys)
small-taken xs b ys r s h =
    each-replaced IsSmall xs b (taken b r) ys
    (Each-append (λ q. ops_in q.kind ≤ 1) b.records (r ∷ []) (each-here IsSmall xs b ys h) (s, tt)) h

pub fits-taken : (t c : ℕ) (xs : List AcceptedTablet) (b : AcceptedTablet) (ys : List AcceptedTablet) (r : Record)
    → FitsOf t c (xs ++ b ∷ ys)
    → opens b ≡ true → is_split r.kind ≡ false → ops_in r.kind ≤ 1
    → (t + 1 ≤ last_time → c < 2 ^ 32 → record_ok b.header r) → FitsOf (t + 1) c (xs ++ taken b r ∷ ys)
fits-taken t c xs b ys r f o n s ok =
    let hs = heads (xs ++ b ∷ ys) in
    let same = heads-same xs b ys r in
    let said-here = each-here (OpenSaid hs) xs b ys f.said in
    record {
      next = f.next;
      ends = f.ends;
      fit = subst (λ w. (tail : List Header) → fit_from [] (RootAt 0) (w ++ tail) ≡ fit_from w f.next tail) same f.fit;
      paired = subst (λ w. (id : ℕ) → children w id ≡ None → list_any (is_child_of id) w ≡ false) same f.paired;
      parents = λ m l. subst (λ w. list_any (is_child_of m) w ≡ false) same
          (f.parents m (let z = length-same xs b (taken b r) ys in omega arith));
      said = subst (λ w. Each (OpenSaid w) (xs ++ taken b r ∷ ys)) same
          (each-replaced (OpenSaid hs) xs b (taken b r) ys (opens-taken b r ∙ ap not n ∙ sym o ∙ said-here) f.said);
      each = λ l m. subst (λ w. Each (TabletFits w) (xs ++ taken b r ∷ ys)) same
          (let old = f.each (omega arith) m in
          each-replaced (TabletFits hs) xs b (taken b r) ys
          (taken-fits hs b r o said-here n (ok l m) (each-here (TabletFits hs) xs b ys old)) old);
      small = small-taken xs b ys r s f.small;
    }

-- ---- a split

kind-more : (h : Header) (pair : Header × Header) (k : Kind) → kind_fits h None k ≡ true → kind_fits h (Some pair) k ≡ true
kind-more h pair (kind.Write ops) e = e
kind-more h pair (kind.Intent sub txn ops) e = e
kind-more h pair (kind.Apply txn commit without) e = e
kind-more h pair (kind.Abort txn) e = e
kind-more h pair (kind.Safe value) e = e
kind-more h pair (kind.Split at left right) e = cc

pub records-more : (h : Header) (pair : Header × Header) (rs : List Record) → list_all (record_fits h None) rs ≡ true
    → list_all (record_fits h (Some pair)) rs ≡ true
records-more h pair [] e = refl
records-more h pair (r ∷ rs) e =
    let p = and_parts _ _ e in
    let q = and_parts (is_time r.time) (kind_fits h None r.kind) p.0 in
    rw (q.0, kind-more h pair r.kind q.1, records-more h pair rs p.1) refl

children-kept : (hs : List Header) (l r : Header) (id : ℕ) (pair : Header × Header) → children hs id ≡ Some pair
    → children (hs ++ l ∷ r ∷ []) id ≡ Some pair
children-kept [] l r id pair e = cc
children-kept (h ∷ hs) l r id pair e = go (is_child_of id h) refl (λ w. children-kept hs l r id pair w) e
  where
    next-kept : (hs : List Header) → with_next h hs ≡ Some pair → with_next h (hs ++ l ∷ r ∷ []) ≡ Some pair
    next-kept [] e = cc
    next-kept (x ∷ xs) e = e

    go : (b : Bool) → is_child_of id h ≡ b → (children hs id ≡ Some pair → children (hs ++ l ∷ r ∷ []) id ≡ Some pair)
        → (if b then with_next h hs else children hs id) ≡ Some pair
        → (if b then with_next h (hs ++ l ∷ r ∷ []) else children (hs ++ l ∷ r ∷ []) id) ≡ Some pair
    go true q more w = next-kept hs w
    go false q more w = more w

pub children-past : (hs ts : List Header) (id : ℕ) → list_any (is_child_of id) hs ≡ false → children (hs ++ ts) id ≡ children ts id
children-past [] ts id e = refl
children-past (h ∷ hs) ts id e =
    let p = or_parts (is_child_of id h) (list_any (is_child_of id) hs) e in
    ap (λ b. if b then with_next h (hs ++ ts) else children (hs ++ ts) id) p.0 ∙ children-past hs ts id p.1

child-of : (id p : ℕ) (h : Header) → h.parent ≡ Some p → is_child_of id h ≡ (p == id)
child-of id p h e = ap (λ o. option_map_or (λ parent. parent == id) o false) e

-- the new children are those of their parent
pub children-born : (hs : List Header) (l r : Header) (p : ℕ) → list_any (is_child_of p) hs ≡ false → l.parent ≡ Some p
    → children (hs ++ l ∷ r ∷ []) p ≡ Some (l, r)
children-born hs l r p none e =
    children-past hs (l ∷ r ∷ []) p none ∙ ap (λ b. if b then with_next l (r ∷ []) else children (r ∷ []) p)
    (child-of p p l e ∙ eq-eqb p p refl)

-- and of no other
pub children-other : (hs : List Header) (l r : Header) (p id : ℕ) → p ≢ id → l.parent ≡ Some p → r.parent ≡ Some p
    → (children hs id ≡ None → list_any (is_child_of id) hs ≡ false)
    → children (hs ++ l ∷ r ∷ []) id ≡ children hs id
children-other hs l r p id d el er paired = go (children hs id) refl
  where
    go : (o : Option (Header × Header)) → children hs id ≡ o → children (hs ++ l ∷ r ∷ []) id ≡ o
    go (Some pair) e = children-kept hs l r id pair e
    go None e =
        children-past hs (l ∷ r ∷ []) id (paired e)
        ∙ ap (λ b. if b then with_next l (r ∷ []) else children (r ∷ []) id) (child-of id p l el ∙ ne_eqb p id d)
        ∙ ap (λ b. if b then with_next r [] else None) (child-of id p r er ∙ ne_eqb p id d)

pub any-two : (hs : List Header) (l r : Header) (p id : ℕ) → p ≢ id → l.parent ≡ Some p → r.parent ≡ Some p
    → list_any (is_child_of id) hs ≡ false → list_any (is_child_of id) (hs ++ l ∷ r ∷ []) ≡ false
any-two [] l r p id d el er e =
    ap (λ b. b || (is_child_of id r || false)) (child-of id p l el ∙ ne_eqb p id d)
    ∙ ap (λ b. b || false) (child-of id p r er ∙ ne_eqb p id d)
any-two (h ∷ hs) l r p id d el er e =
    let q = or_parts (is_child_of id h) (list_any (is_child_of id) hs) e in
    ap (λ b. b || list_any (is_child_of id) (hs ++ l ∷ r ∷ [])) q.0 ∙ any-two hs l r p id d el er q.1

-- two halves of the tablet of number p may stand next
pub record AreNext (hs : List Header) (p : ℕ) (h l r : Header) : Type 0 where
  pub there : slice_get hs p ≡ Some h
  pub free : list_any (is_child_of p) hs ≡ false
  pub left_id : l.id ≡ length hs
  pub right_id : r.id ≡ length hs + 1
  pub left : l.parent ≡ Some p
  pub right : r.parent ≡ Some p
  pub lo : l.lo ≡ h.lo
  pub hi : r.hi ≡ h.hi
  pub middle : l.hi + 1 ≡ r.lo
  pub left_range : l.lo ≤ l.hi
  pub right_range : r.lo ≤ r.hi

splits-off : (hs : List Header) (p : ℕ) (h l r : Header) → AreNext hs p h l r → splits_off hs p l ≡ true
splits-off hs p h l r a =
    let lo : (l.lo == h.lo) ≡ true = eq-eqb l.lo h.lo a.lo in
    let hi : nat_lt l.hi h.hi ≡ true = let x = a.hi in let y = a.middle in let z = a.right_range in grind (arith, nat_tests) in
    rw (a.free, a.there, lo, hi) refl

left-fits : (hs : List Header) (next : Next) (p : ℕ) (h l r : Header) → may_end next ≡ true → AreNext hs p h l r
    → (fits hs next l ≡ true) × (next_after hs next l l.parent ≡ RightChild p (l.hi + 1) (hi_of hs p))
left-fits hs next p h l r e a = go next e
  where
    off : splits_off hs p l ≡ true
    off = splits-off hs p h l r a

    id : (l.id == length hs) ≡ true
    id = eq-eqb l.id (length hs) a.left_id

    range : nat_le l.lo l.hi ≡ true
    range = let x = a.left_range in grind (arith, nat_tests)

    go : (next : Next) → may_end next ≡ true
        → (fits hs next l ≡ true) × (next_after hs next l l.parent ≡ RightChild p (l.hi + 1) (hi_of hs p))
    go (RootAt lo) q = (rw (id, range, a.left, q, off) refl, rw a.left refl)
    go LeftChild q = (rw (id, range, a.left, off) refl, rw a.left refl)
    go (RightChild parent lo hi) q = cc

hi-there : (hs : List Header) (p : ℕ) (h : Header) → slice_get hs p ≡ Some h → hi_of hs p ≡ h.hi
hi-there hs p h e = ap (λ o. option_map_or (λ (parent : Header). parent.hi) o 0) e

right-fits : (hs : List Header) (p : ℕ) (h l r : Header) → AreNext hs p h l r
    → (fits (hs ++ l ∷ []) (RightChild p (l.hi + 1) (hi_of hs p)) r ≡ true)
    × (next_after (hs ++ l ∷ []) (RightChild p (l.hi + 1) (hi_of hs p)) r r.parent ≡ LeftChild)
right-fits hs p h l r a =
    let id : (r.id == length (hs ++ l ∷ [])) ≡ true = eq-eqb r.id (length (hs ++ l ∷ [])) (a.right_id ∙ sym (length_push hs l)) in
    let range : nat_le r.lo r.hi ≡ true = let x = a.right_range in grind (arith, nat_tests) in
    let own : (p == p) ≡ true = eq-eqb p p refl in
    let lo : (r.lo == l.hi + 1) ≡ true = eq-eqb r.lo (l.hi + 1) (sym a.middle) in
    let hi : (r.hi == hi_of hs p) ≡ true = eq-eqb r.hi (hi_of hs p) (a.hi ∙ sym (hi-there hs p h a.there)) in
    (rw (id, range, a.right, own, lo, hi) refl, rw a.right refl)

pub fit-two : (hs : List Header) (next : Next) (p : ℕ) (h l r : Header) → may_end next ≡ true → AreNext hs p h l r
    → ((tail : List Header) → fit_from [] (RootAt 0) (hs ++ tail) ≡ fit_from hs next tail) → (tail : List Header)
    → fit_from [] (RootAt 0) ((hs ++ l ∷ r ∷ []) ++ tail) ≡ fit_from (hs ++ l ∷ r ∷ []) LeftChild tail
fit-two hs next p h l r e a all tail =
    let one = left-fits hs next p h l r e a in
    let two = right-fits hs p h l r a in
    ap (fit_from [] (RootAt 0)) (append_assoc hs (l ∷ r ∷ []) tail) ∙ all (l ∷ r ∷ tail)
    ∙ ap (λ b. b && fit_from (hs ++ l ∷ []) (next_after hs next l l.parent) (r ∷ tail)) one.0
    ∙ ap (λ n. fit_from (hs ++ l ∷ []) n (r ∷ tail)) one.1
    ∙ ap (λ b. b && fit_from ((hs ++ l ∷ []) ++ r ∷ []) (next_after (hs ++ l ∷ []) (RightChild p (l.hi + 1) (hi_of hs p)) r r.parent) tail)
    two.0
    ∙ ap (λ n. fit_from ((hs ++ l ∷ []) ++ r ∷ []) n tail) two.1
    ∙ ap (λ w. fit_from w LeftChild tail) (append_assoc hs (l ∷ []) (r ∷ []))
