-- Laws of pages: the search by their first versions, a page that gets one more version, and what is due.
use Rattle.std.proofs.Common.{◌≡◌, ℕ, zero, suc, ◌+◌, ◌-◌, ◌<◌, Bool, true, false, cond, List, [], ◌∷◌, ◌++◌, length, get_or, take, drop}
use Rattle.std.proofs.Common.{◌≤◌, map, refl, ap, sym, ◌∙◌, subst, arith, append_assoc, append-nil, inl, inr, ⊎_elim, take-append-drop}
use Rattle.std.proofs.lemmas.List.{drop_more, length-take-le, get_or-take, get_or_default, length-map}
use Rattle.std.proofs.lemmas.List.Concat.{flat_map-append}
use Rattle.std.specs.Prelude.{insert, filter, ◌||◌, ◌&&◌, bytes_eq, nat_le}
use Rattle.std.specs.Ordering.{is_gt}
use Rattle.std.proofs.lemmas.Bool.{cases_Bool, both_ways, or_parts, or_from, and_parts, and_from, and_right, false_from_ne_true, leb-true}
use Rattle.std.proofs.lemmas.Bool.{le-leb, lt-leb}
use Rattle.std.proofs.lemmas.Slice.Eq.{bytes_eq-Decides}
use Rattle.xc_versions.proofs.StoredOrder.{commits-rise, in_order-left, in_order-right}
use Rattle.xc_versions.proofs.VersionLaws.{between-same}
use Rattle.xc_versions.proofs.SplitLaws.{each-at}
use Rattle.xc_versions.proofs.ShownLaws.{last-taken}
use Rattle.xc_record.specs.Kept.{last_of}
use Rattle.std.proofs.lemmas.List.Elements.{filter-append}
use Rattle.xc_record.proofs.ListLaws.{Each}
use Rattle.xc_versions.specs.declared.stored.StoredVersion.{StoredVersion}
use Rattle.xc_versions.specs.declared.page.Page.{Page}
use Rattle.xc_versions.specs.Splits.{Splits, Falls}
use Rattle.xc_versions.specs.Stored.{stored_cmp, IsBefore, InOrder, with_version, is_replaced}
use Rattle.xc_versions.specs.declared.stored.Slot.{Slot}
use Rattle.xc_versions.specs.Slots.{seen}
use Rattle.xc_versions.specs.Heads.{IsSlot}
use Rattle.xc_versions.specs.Around.{Around}
use Rattle.xc_versions.specs.Pages.{held, items_of, IsPage, is_first_passed, Idle, Dues, slots_of, first_of}

-- ---- lists in parts

pub each-left : {X : Type 0} (P : X → Type 0) (xs ys : List X) → Each P (xs ++ ys) → Each P xs
each-left P [] ys h = tt
each-left P (x ∷ xs) ys h = (h.0, each-left P xs ys h.1)

pub each-right : {X : Type 0} (P : X → Type 0) (xs ys : List X) → Each P (xs ++ ys) → Each P ys
each-right P [] ys h = h
each-right P (x ∷ xs) ys h = each-right P xs ys h.1

pub falls-right : {X : Type 0} (p : X → Bool) (xs ys : List X) → Falls p (xs ++ ys) → Falls p ys
falls-right p [] ys f = f
falls-right p (x ∷ xs) ys f = falls-right p xs ys f.1

-- before an element that passes all pass
pub falls-before : {X : Type 0} (p : X → Bool) (xs : List X) (y : X) (ys : List X) → Falls p (xs ++ y ∷ ys) → p y ≡ true
    → Each (λ x. p x ≡ true) xs
falls-before p [] y ys f e = tt
falls-before p (x ∷ xs) y ys f e = (
  ⊎_elim (λ g. g) (λ g. absurd (both_ways (p y) (each-right (λ x. p x ≡ false) xs (y ∷ ys) (f.0 g)).0 e)) (cases_Bool (p x)),
  falls-before p xs y ys f.1 e,
)

-- ---- the first versions of pages

held-some : (b : List ℕ) (q : Page) → IsPage b q → 0 < length (held b q)
held-some b q g = let long = length-map (slots_of q) (seen b) in let some = g.some in omega arith

fails-first : (b : List ℕ) (p : StoredVersion → Bool) (q : Page) (rest : List StoredVersion) → Each (λ x. p x ≡ false) (held b q ++ rest)
    → is_first_passed p (held b q) ≡ false
fails-first b p q rest h = first (held b q) h
  where
    first : (xs : List StoredVersion) → Each (λ x. p x ≡ false) (xs ++ rest) → is_first_passed p xs ≡ false
    first [] h = refl
    first (x ∷ xs) h = h.0

all-fail : (b : List ℕ) (p : StoredVersion → Bool) (qs : List Page) → Each (λ x. p x ≡ false) (items_of b qs)
    → Each (λ q. is_first_passed p (held b q) ≡ false) qs
all-fail b p [] h = tt
all-fail b p (q ∷ qs) h =
    (fails-first b p q (items_of b qs) h, all-fail b p qs (each-right (λ x. p x ≡ false) (held b q) (items_of b qs) h))

pub pages-fall : (b : List ℕ) (p : StoredVersion → Bool) (qs : List Page) → Each (IsPage b) qs → Falls p (items_of b qs)
    → Falls (λ q. is_first_passed p (held b q)) qs
pages-fall b p [] h f = tt
pages-fall b p (q ∷ qs) h f = (behind (held b q) (held-some b q h.0) f, pages-fall b p qs h.1 (falls-right p (held b q) (items_of b qs) f))
  where
    behind : (xs : List StoredVersion) → 0 < length xs → Falls p (xs ++ items_of b qs) → is_first_passed p xs ≡ false
        → Each (λ q. is_first_passed p (held b q) ≡ false) qs
    behind [] l f e = absurd (omega arith)
    behind (x ∷ xs) l f e = all-fail b p qs (each-right (λ x. p x ≡ false) xs (items_of b qs) (f.0 e))

-- what a page has of its first version beside its slots
pub first-held : (b : List ℕ) (test : StoredVersion → Bool) (q : Page) → IsPage b q
    → test (seen b (first_of q)) ≡ is_first_passed test (held b q)
first-held b test q g = by (slots_of q) g.some g.first
  where
    by : (xs : List Slot) → 0 < length xs → first_of q ≡ get_or xs 0 (first_of q)
        → test (seen b (first_of q)) ≡ is_first_passed test (map (seen b) xs)
    by [] l e = absurd (omega arith)
    by (x ∷ xs) l e = ap (λ s. test (seen b s)) e

pub first-slot : (b : List ℕ) (q : Page) → IsPage b q → IsSlot b (first_of q)
first-slot b q g = by (slots_of q) g.some g.first g.slots
  where
    by : (xs : List Slot) → 0 < length xs → first_of q ≡ get_or xs 0 (first_of q) → Each (IsSlot b) xs → IsSlot b (first_of q)
    by [] l e h = absurd (omega arith)
    by (x ∷ xs) l e h = subst (IsSlot b) (sym e) h.0

pub first-inserted : (xs : List Slot) (n : ℕ) (first x found : Slot) → n ≤ length xs → first ≡ get_or xs 0 first → (n ≡ 0 → found ≡ x)
    → (0 < n → found ≡ first) → found ≡ get_or (insert xs n x) 0 found
first-inserted xs zero first x found h e f g = f refl
first-inserted [] (suc n) first x found h e f g = absurd (omega arith)
first-inserted (y ∷ ys) (suc n) first x found h e f g = g (omega arith) ∙ e

-- ---- the pages before and behind the one of a search

pub items_of-append : (b : List ℕ) (ps qs : List Page) → items_of b (ps ++ qs) ≡ items_of b ps ++ items_of b qs
items_of-append b ps qs = flat_map-append (held b) ps qs

pub at-index : {X : Type 0} (xs : List X) (i : ℕ) (d : X) → i < length xs → xs ≡ take i xs ++ get_or xs i d ∷ drop (i + 1) xs
at-index xs i d h = sym (take-append-drop i xs) ∙ ap (λ w. take i xs ++ w) (drop_more xs i d h)

heads-fail : (b : List ℕ) (p : StoredVersion → Bool) (qs : List Page) → Each (IsPage b) qs → Falls p (items_of b qs)
    → Each (λ q. is_first_passed p (held b q) ≡ false) qs → Each (λ x. p x ≡ false) (items_of b qs)
heads-fail b p [] g f h = tt
heads-fail b p (q ∷ qs) g f h = all (held b q) (held-some b q g.0) f h.0
  where
    all : (xs : List StoredVersion) → 0 < length xs → Falls p (xs ++ items_of b qs) → is_first_passed p xs ≡ false
        → Each (λ x. p x ≡ false) (xs ++ items_of b qs)
    all [] l f e = absurd (omega arith)
    all (x ∷ xs) l f e = (e, f.0 e)

pages-before : (b : List ℕ) (p : StoredVersion → Bool) (bs : List Page) (q : Page) (cs : List Page) → IsPage b q
    → Falls p (items_of b (bs ++ q ∷ cs))
    → is_first_passed p (held b q) ≡ true → Each (λ x. p x ≡ true) (items_of b bs)
pages-before b p bs q cs g f e = all (held b q) (held-some b q g) (rw (items_of-append b bs (q ∷ cs)) at f) e
  where
    all : (xs : List StoredVersion) → 0 < length xs → Falls p (items_of b bs ++ (xs ++ items_of b cs)) → is_first_passed p xs ≡ true
        → Each (λ x. p x ≡ true) (items_of b bs)
    all [] l f e = absurd (omega arith)
    all (x ∷ xs) l f e = falls-before p (items_of b bs) x (xs ++ items_of b cs) f e

around : (b : List ℕ) (p : StoredVersion → Bool) (ps : List Page) (n i : ℕ) (d : Page) → Each (IsPage b) ps → Falls p (items_of b ps)
    → Splits (λ q. is_first_passed p (held b q)) n ps → i ≡ n - 1 → i < length ps → Around b p ps i
around b p ps zero i d g f s e h =
    let all = heads-fail b p ps g f s.back in
    let split : items_of b ps ≡ items_of b (take (i + 1) ps) ++ items_of b (drop (i + 1) ps) =
    ap (items_of b) (sym (take-append-drop (i + 1) ps)) ∙ items_of-append b (take (i + 1) ps) (drop (i + 1) ps) in
    let none : i ≡ 0 = omega arith in
    record {
      before = subst (λ (k : ℕ). Each (λ x. p x ≡ true) (items_of b (take k ps))) (sym none) tt;
      behind = each-right (λ x. p x ≡ false) (items_of b (take (i + 1) ps)) (items_of b (drop (i + 1) ps))
          (subst (λ (xs : List StoredVersion). Each (λ x. p x ≡ false) xs) split all);
      first = inl none;
    }
around b p ps (suc m) i d g f s e h =
    let same : suc m ≡ i + 1 = omega arith in
    let s2 : Splits (λ q. is_first_passed p (held b q)) (i + 1) ps =
    subst (λ (k : ℕ). Splits (λ (q : Page). is_first_passed p (held b q)) k ps) same s in
    let cut = at-index ps i d h in
    let first : is_first_passed p (held b (get_or ps i d)) ≡ true =
    ap (λ (q : Page). is_first_passed p (held b q)) (sym (get_or-take (i + 1) ps i d (omega arith)))
    ∙ each-at (λ (q : Page). is_first_passed p (held b q) ≡ true) (take (i + 1) ps) i d s2.front
    (let l = length-take-le (i + 1) ps s2.within in omega arith)
    in
    let page : IsPage b (get_or ps i d) = each-at (IsPage b) ps i d g h in
    let rest : Each (IsPage b) (drop (i + 1) ps) =
    each-right (IsPage b) (take (i + 1) ps) (drop (i + 1) ps)
    (subst (λ (qs : List Page). Each (IsPage b) qs) (sym (take-append-drop (i + 1) ps)) g) in
    let falls_rest : Falls p (items_of b (drop (i + 1) ps)) =
    falls-right p (items_of b (take (i + 1) ps)) (items_of b (drop (i + 1) ps))
    (subst (λ (xs : List StoredVersion). Falls p xs) (ap (items_of b) (sym (take-append-drop (i + 1) ps))
    ∙ items_of-append b (take (i + 1) ps) (drop (i + 1) ps)) f)
    in
    record {
      before = pages-before b p (take i ps) (get_or ps i d) (drop (i + 1) ps) page
          (subst (λ (qs : List Page). Falls p (items_of b qs)) cut f)
          first;
      behind = heads-fail b p (drop (i + 1) ps) rest falls_rest s2.back;
      first = inr (λ q e. ap (λ (r : Page). is_first_passed p (held b r)) (e ∙ get_or_default ps i q d h) ∙ first);
    }

-- ---- one more version

pub with-after : (v : StoredVersion) (xs ys : List StoredVersion) → Each (λ x. is_gt (stored_cmp v x) ≡ true) xs
    → with_version v (xs ++ ys) ≡ xs ++ with_version v ys
with-after v [] ys h = refl
with-after v (x ∷ xs) ys h =
    ap (λ b. cond b (x ∷ with_version v (xs ++ ys)) (v ∷ x ∷ (xs ++ ys))) h.0 ∙ ap (λ w. x ∷ w) (with-after v xs ys h.1)

pub with-before : (v : StoredVersion) (xs ys : List StoredVersion) → Each (λ x. is_gt (stored_cmp v x) ≡ false) ys
    → with_version v (xs ++ ys) ≡ with_version v xs ++ ys
with-before v [] [] h = refl
with-before v [] (y ∷ ys) h = ap (λ b. cond b (y ∷ with_version v ys) (v ∷ y ∷ ys)) h.0
with-before v (x ∷ xs) ys h =
    elim (is_gt (stored_cmp v x)) as
    (λ b. cond b (x ∷ with_version v (xs ++ ys)) (v ∷ x ∷ (xs ++ ys)) ≡ cond b (x ∷ with_version v xs) (v ∷ x ∷ xs) ++ ys)
    [ true ↦ ap (λ w. x ∷ w) (with-before v xs ys h) | false ↦ refl ]

-- the version goes into the page between
pub with-between : (v : StoredVersion) (xs ys zs : List StoredVersion) → Each (λ x. is_gt (stored_cmp v x) ≡ true) xs
    → Each (λ x. is_gt (stored_cmp v x) ≡ false) zs → with_version v (xs ++ (ys ++ zs)) ≡ xs ++ (with_version v ys ++ zs)
with-between v xs ys zs f b = with-after v xs (ys ++ zs) f ∙ ap (λ w. xs ++ w) (with-before v ys zs b)

-- ---- what is due

pub any-append : (u : ℕ) (x : StoredVersion) (xs ys : List StoredVersion)
    → is_replaced u x (xs ++ ys) ≡ (is_replaced u x xs || is_replaced u x ys)
any-append u x [] ys = refl
any-append u x (y ∷ xs) ys =
    ap (λ b. (bytes_eq x.key y.key && nat_le y.commit u) || b) (any-append u x xs ys)
    ∙ sym (or-assoc (bytes_eq x.key y.key && nat_le y.commit u) (is_replaced u x xs) (is_replaced u x ys))
  where
    or-assoc : (a b c : Bool) → ((a || b) || c) ≡ (a || (b || c))
    or-assoc true b c = refl
    or-assoc false b c = refl

pub any-with : (u : ℕ) (x v : StoredVersion) (xs : List StoredVersion) → (bytes_eq x.key v.key && nat_le v.commit u) ≡ false
    → is_replaced u x xs ≡ false → is_replaced u x (with_version v xs) ≡ false
any-with u x v [] n e = or_from (bytes_eq x.key v.key && nat_le v.commit u) false n refl
any-with u x v (y ∷ ys) n e =
    let parts = or_parts (bytes_eq x.key y.key && nat_le y.commit u) (is_replaced u x ys) e in
    elim (is_gt (stored_cmp v y)) as (λ b. is_replaced u x (cond b (y ∷ with_version v ys) (v ∷ y ∷ ys)) ≡ false) [
      | true ↦ or_from (bytes_eq x.key y.key && nat_le y.commit u) (is_replaced u x (with_version v ys)) parts.0
          (any-with u x v ys n parts.1)
      | false ↦ or_from (bytes_eq x.key v.key && nat_le v.commit u) (is_replaced u x (y ∷ ys)) n e
    ]

-- what stands before w isn't replaced by a version behind w, where w doesn't replace it
pub not-by : (u : ℕ) (x w v : StoredVersion) → IsBefore x w → IsBefore w v → (bytes_eq x.key w.key && nat_le w.commit u) ≡ false
    → (bytes_eq x.key v.key && nat_le v.commit u) ≡ false
not-by u x w v b c n = false_from_ne_true (bytes_eq x.key v.key && nat_le v.commit u) (λ e.
    let p = and_parts (bytes_eq x.key v.key) (nat_le v.commit u) e in
    let own = between-same x w v b c p.0 in
    let next : bytes_eq w.key v.key ≡ true = subst (λ (q : List ℕ). bytes_eq q v.key ≡ true) ((bytes_eq-Decides x.key w.key).0 own) p.0 in
    let low = commits-rise w v next c in
    let high = leb-true v.commit u p.1 in
    both_ways (bytes_eq x.key w.key && nat_le w.commit u) n
    (and_from (bytes_eq x.key w.key) (nat_le w.commit u) own (le-leb w.commit u (omega arith))))

-- what is idle before a list is idle before another that replaces no more
pub idle-instead : (u : ℕ) (xs ys zs : List StoredVersion) → Each (λ x. is_replaced u x ys ≡ false → is_replaced u x zs ≡ false) xs
    → Idle u xs ys → Idle u xs zs
idle-instead u [] ys zs h i = tt
idle-instead u (x ∷ xs) ys zs h i =
    let parts = or_parts (is_replaced u x xs) (is_replaced u x ys) (sym (any-append u x xs ys) ∙ i.0) in
    (any-append u x xs zs ∙ or_from (is_replaced u x xs) (is_replaced u x zs) parts.0 (h.0 parts.1), idle-instead u xs ys zs h.1 i.1)

none-later : (u : ℕ) (v : StoredVersion) (ys : List StoredVersion) → u < v.commit → Each (IsBefore v) ys → is_replaced u v ys ≡ false
none-later u v [] l h = refl
none-later u v (y ∷ ys) l h =
    or_from (bytes_eq v.key y.key && nat_le y.commit u) (is_replaced u v ys)
    (false_from_ne_true (bytes_eq v.key y.key && nat_le y.commit u) (λ e.
    let p = and_parts (bytes_eq v.key y.key) (nat_le y.commit u) e in
    let low = commits-rise v y p.0 h.0 in
    let high = leb-true y.commit u p.1 in
    absurd (omega arith)))
    (none-later u v ys l h.1)

-- a version with a commit above the cutoff joins what is idle
pub idle-with : (u : ℕ) (v : StoredVersion) (xs ys : List StoredVersion) → u < v.commit → InOrder (with_version v xs ++ ys) → Idle u xs ys
    → Idle u (with_version v xs) ys
idle-with u v [] ys l o i = (none-later u v ys l o.0, tt)
idle-with u v (x ∷ xs) ys l o i =
    let late : (bytes_eq x.key v.key && nat_le v.commit u) ≡ false =
    and_right (bytes_eq x.key v.key) (nat_le v.commit u) (lt-leb v.commit u l) in
    let parts = or_parts (is_replaced u x xs) (is_replaced u x ys) (sym (any-append u x xs ys) ∙ i.0) in
    let at : (b : Bool) → InOrder (cond b (x ∷ with_version v xs) (v ∷ x ∷ xs) ++ ys)
    → Idle u (cond b (x ∷ with_version v xs) (v ∷ x ∷ xs)) ys =
    λ b. elim b as
    (λ b. InOrder (cond b (x ∷ with_version v xs) (v ∷ x ∷ xs) ++ ys) → Idle u (cond b (x ∷ with_version v xs) (v ∷ x ∷ xs)) ys) [
      | true ↦ λ o. (
        any-append u x (with_version v xs) ys
            ∙ or_from (is_replaced u x (with_version v xs)) (is_replaced u x ys) (any-with u x v xs late parts.0) parts.1,
        idle-with u v xs ys
            l o.1 i.1,
      )
      | false ↦ λ o. (none-later u v (x ∷ (xs ++ ys)) l o.0, i)
    ]
    in at (is_gt (stored_cmp v x)) o

pub idle-append : (u : ℕ) (xs ys zs : List StoredVersion) → Idle u (xs ++ ys) zs → Idle u xs (ys ++ zs) × Idle u ys zs
idle-append u [] ys zs i = (tt, i)
idle-append u (x ∷ xs) ys zs i =
    let rest = idle-append u xs ys zs i.1 in ((ap (λ w. is_replaced u x w) (sym (append_assoc xs ys zs)) ∙ i.0, rest.0), rest.1)

pub shape : (b : List ℕ) (ps qs : List Page) (rest : List StoredVersion)
    → items_of b ps ++ (items_of b qs ++ rest) ≡ items_of b (ps ++ qs) ++ rest
shape b ps qs rest = sym (append_assoc (items_of b ps) (items_of b qs) rest) ∙ ap (λ w. w ++ rest) (sym (items_of-append b ps qs))

pub dues-append : (b : List ℕ) (ps qs : List Page) (rest : List StoredVersion) → Dues b ps (items_of b qs ++ rest) → Dues b qs rest
    → Dues b (ps ++ qs) rest
dues-append b [] qs rest h k = k
dues-append b (p ∷ ps) qs rest h k =
    (λ u l. subst (λ (w : List StoredVersion). Idle u (held b p) w) (shape b ps qs rest) (h.0 u l), dues-append b ps qs rest h.1 k)

pub dues-left : (b : List ℕ) (ps qs : List Page) (rest : List StoredVersion) → Dues b (ps ++ qs) rest → Dues b ps (items_of b qs ++ rest)
dues-left b [] qs rest h = tt
dues-left b (p ∷ ps) qs rest h =
    (λ u l. subst (λ (w : List StoredVersion). Idle u (held b p) w) (sym (shape b ps qs rest)) (h.0 u l), dues-left b ps qs rest h.1)

pub dues-right : (b : List ℕ) (ps qs : List Page) (rest : List StoredVersion) → Dues b (ps ++ qs) rest → Dues b qs rest
dues-right b [] qs rest h = h
dues-right b (p ∷ ps) qs rest h = dues-right b ps qs rest h.1

pub around-some : (b : List ℕ) (p : StoredVersion → Bool) (ps : List Page) (n i : ℕ) → Each (IsPage b) ps → Falls p (items_of b ps)
    → Splits (λ q. is_first_passed p (held b q)) n ps → i ≡ n - 1 → i < length ps → Around b p ps i
around-some b p [] n i g f s e h = absurd (omega arith)
around-some b p (q ∷ qs) n i g f s e h = around b p (q ∷ qs) n i q g f s e h

pub items-from : (b : List ℕ) (ps : List Page) (i : ℕ) (q : Page) → i < length ps → q ≡ get_or ps i q
    → items_of b (drop i ps) ≡ held b q ++ items_of b (drop (i + 1) ps)
items-from b ps i q h e = ap (items_of b) (drop_more ps i q h) ∙ ap (λ (p : Page). held b p ++ items_of b (drop (i + 1) ps)) (sym e)

-- ---- what passes, where the list falls

pub filter-all : (p : StoredVersion → Bool) (xs : List StoredVersion) → Each (λ x. p x ≡ true) xs → filter p xs ≡ xs
filter-all p [] h = refl
filter-all p (x ∷ xs) h = ap (λ b. cond b (x ∷ filter p xs) (filter p xs)) h.0 ∙ ap (λ w. x ∷ w) (filter-all p xs h.1)

pub filter-none : (p : StoredVersion → Bool) (xs : List StoredVersion) → Each (λ x. p x ≡ false) xs → filter p xs ≡ []
filter-none p [] h = refl
filter-none p (x ∷ xs) h = ap (λ b. cond b (x ∷ filter p xs) (filter p xs)) h.0 ∙ filter-none p xs h.1

pub heads-none : (b : List ℕ) (p : StoredVersion → Bool) (ps : List Page) (n : ℕ) → Each (IsPage b) ps → Falls p (items_of b ps)
    → Splits (λ q. is_first_passed p (held b q)) n ps → n ≡ 0 → filter p (items_of b ps) ≡ []
heads-none b p ps n g f s e =
    filter-none p (items_of b ps)
    (heads-fail b p ps g f (subst (λ (k : ℕ). Each (λ (q : Page). is_first_passed p (held b q) ≡ false) (drop k ps)) e s.back))

last-of-join : (xs : List StoredVersion) (y : StoredVersion) (ys : List StoredVersion) → last_of (xs ++ y ∷ ys) ≡ last_of (y ∷ ys)
last-of-join [] y ys = refl
last-of-join (x ∷ []) y ys = refl
last-of-join (x ∷ (z ∷ xs)) y ys = last-of-join (z ∷ xs) y ys

last-of-taken : (xs ys : List StoredVersion) (n : ℕ) (x : StoredVersion) → n < length ys
    → last_of (xs ++ take (suc n) ys) ≡ get_or ys n x ∷ []
last-of-taken xs [] n x h = absurd (omega arith)
last-of-taken xs (y ∷ ys) n x h = last-of-join xs y (take n ys) ∙ last-taken (y ∷ ys) n x h

-- the last that passes, in the page that the search ends at
pub last-passing : (b : List ℕ) (p : StoredVersion → Bool) (ps : List Page) (i : ℕ) (q : Page) (m : ℕ) (x : StoredVersion) → i < length ps
    → q ≡ get_or ps i q → Around b p ps i → Splits p m (held b q) → 0 < m → x ≡ get_or (held b q) (m - 1) x
    → last_of (filter p (items_of b ps)) ≡ x ∷ []
last-passing b p ps i q m x h e a s l f =
    let w = s.within in
    let cut : items_of b ps ≡ items_of b (take i ps) ++ (held b q ++ items_of b (drop (i + 1) ps)) =
    ap (items_of b) (sym (take-append-drop i ps)) ∙ items_of-append b (take i ps) (drop i ps)
    ∙ ap (λ w. items_of b (take i ps) ++ w) (items-from b ps i q h e)
    in
    let page : filter p (held b q) ≡ take m (held b q) =
    ap (filter p) (sym (take-append-drop m (held b q))) ∙ filter-append p (take m (held b q)) (drop m (held b q))
    ∙ ap (λ w. w ++ filter p (drop m (held b q))) (filter-all p (take m (held b q)) s.front)
    ∙ ap (λ w. take m (held b q) ++ w) (filter-none p (drop m (held b q)) s.back) ∙ append-nil (take m (held b q))
    in
    let whole : filter p (items_of b ps) ≡ items_of b (take i ps) ++ take m (held b q) =
    ap (filter p) cut ∙ filter-append p (items_of b (take i ps)) (held b q ++ items_of b (drop (i + 1) ps))
    ∙ ap (λ w. w ++ filter p (held b q ++ items_of b (drop (i + 1) ps))) (filter-all p (items_of b (take i ps)) a.before)
    ∙ ap (λ w. items_of b (take i ps) ++ w) (filter-append p (held b q) (items_of b (drop (i + 1) ps))
    ∙ ap (λ w. filter p (held b q) ++ w) (filter-none p (items_of b (drop (i + 1) ps)) a.behind) ∙ append-nil (filter p (held b q))
    ∙ page)
    in
    let same : m ≡ suc (m - 1) = omega arith in
    ap last_of whole ∙ ap (λ k. last_of (items_of b (take i ps) ++ take k (held b q))) same
    ∙ last-of-taken (items_of b (take i ps)) (held b q) (m - 1) x (omega arith) ∙ ap (λ y. y ∷ []) (sym f)

-- the page that the search ends at begins with a version that passes
pub first-passes : (b : List ℕ) (p : StoredVersion → Bool) (ps : List Page) (n i : ℕ) (q : Page)
    → Splits (λ q. is_first_passed p (held b q)) n ps
    → n ≡ i + 1 → q ≡ get_or ps i q → is_first_passed p (held b q) ≡ true
first-passes b p ps n i q s e f =
    let w = s.within in
    let l = length-take-le n ps w in
    ap (λ (r : Page). is_first_passed p (held b r)) (f ∙ sym (get_or-take n ps i q (omega arith)))
    ∙ each-at (λ (q : Page). is_first_passed p (held b q) ≡ true) (take n ps) i q s.front (omega arith)

pub none-passed : (p : StoredVersion → Bool) (xs : List StoredVersion) (m : ℕ) → Splits p m xs → m ≡ 0 → is_first_passed p xs ≡ true → ⊥
none-passed p [] m s e f = cc
none-passed p (x ∷ xs) m s e f =
    both_ways (p x) (subst (λ (k : ℕ). Each (λ (y : StoredVersion). p y ≡ false) (drop k (x ∷ xs))) e s.back).0 f

pub page-ordered : (b : List ℕ) (ps : List Page) (i : ℕ) (q : Page) → i < length ps → q ≡ get_or ps i q → InOrder (items_of b ps)
    → InOrder (held b q)
page-ordered b ps i q h e o =
    let cut : items_of b ps ≡ items_of b (take i ps) ++ (held b q ++ items_of b (drop (i + 1) ps)) =
    ap (items_of b) (sym (take-append-drop i ps)) ∙ items_of-append b (take i ps) (drop i ps)
    ∙ ap (λ w. items_of b (take i ps) ++ w) (items-from b ps i q h e)
    in
    in_order-left (held b q) (items_of b (drop (i + 1) ps))
    (in_order-right (items_of b (take i ps)) (held b q ++ items_of b (drop (i + 1) ps)) (subst InOrder cut o))
