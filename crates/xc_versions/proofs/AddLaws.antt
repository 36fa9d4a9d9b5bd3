-- A version that is added to one of the pages.
use Rattle.std.proofs.Common.{◌≡◌, ℕ, ◌+◌, ◌-◌, ◌*◌, ◌/◌, ◌<◌, ◌≤◌, true, false, List, [], ◌∷◌, ◌++◌, length, get_or, take, drop, map, min}
use Rattle.std.proofs.Common.{max}
use Rattle.std.proofs.Common.{refl, ap, sym, ◌∙◌, subst, arith, append_assoc, append-nil, ◌⊎◌, inl, inr, ⊎_elim, set, add-one}
use Rattle.std.proofs.Common.{length-append, take-append-drop}
use Rattle.std.specs.Prelude.{insert, Vec, vec_len}
use Rattle.std.specs.declared.alloc.Global.{Global}
use Rattle.std.proofs.lemmas.Grind.{common_steps}
use Rattle.std.proofs.lemmas.List.{set_split, take_more_set, drop-set-lt, length-set, map-append, length-map}
use Rattle.xc_versions.proofs.SplitLaws.{each-at}
use Rattle.std.specs.Prelude.{◌&&◌, bytes_eq, nat_le}
use Rattle.std.specs.declared.cmp.Ordering.{Ordering}
use Rattle.std.specs.declared.cmp.Ordering.TheVariants.{Less, Equal, Greater}
use Rattle.std.specs.Ordering.{is_gt, ordering_reverse}
use Rattle.std.proofs.lemmas.Bool.{or_parts, or_from}
use Rattle.xc_record.proofs.ListLaws.{Each, Each-weaker, Each-append}
use Rattle.xc_versions.specs.declared.stored.StoredVersion.{StoredVersion}
use Rattle.xc_versions.specs.declared.page.Page.{Page}
use Rattle.xc_versions.specs.Stored.{stored_cmp, IsBefore, InOrder, IsNew, with_version, is_replaced}
use Rattle.xc_versions.specs.declared.stored.Slot.{Slot}
use Rattle.xc_versions.specs.Slots.{seen}
use Rattle.xc_versions.specs.Around.{Around}
use Rattle.xc_versions.specs.Pages.{held, items_of, IsPage, IsPaged, is_first_passed, Idle, Dues, over, load, spare_of, slots_of}
use Rattle.xc_versions.proofs.StoredOrder.{stored-total, in_order-left, in_order-right}
use Rattle.xc_versions.proofs.VersionLaws.{with-in_order}
use Rattle.xc_versions.proofs.PageLaws.{each-left, each-right, at-index, items_of-append, with-between, any-append, any-with, not-by}
use Rattle.xc_versions.proofs.PageLaws.{idle-instead, idle-with, idle-append, dues-append, dues-left, dues-right}

above-before : (v w : StoredVersion) → is_gt (stored_cmp v w) ≡ true → IsBefore w v
above-before v w e = stored-total.antisymm w v ∙ ap ordering_reverse (greater (stored_cmp v w) e)
  where
    greater : (o : Ordering) → is_gt o ≡ true → o ≡ Greater
    greater Less e = cc
    greater Equal e = cc
    greater Greater e = refl

pub before-all : (xs : List StoredVersion) (w : StoredVersion) (ys : List StoredVersion) → InOrder (xs ++ w ∷ ys)
    → Each (λ x. IsBefore x w) xs
before-all [] w ys o = tt
before-all (x ∷ xs) w ys o = ((each-right (IsBefore x) xs (w ∷ ys) o.0).0, before-all xs w ys o.1)

replaced-grown : (u : ℕ) (x w v : StoredVersion) (xs ys zs : List StoredVersion) → IsBefore x w → IsBefore w v
    → is_replaced u x (xs ++ ((w ∷ ys) ++ zs)) ≡ false → is_replaced u x (xs ++ (with_version v (w ∷ ys) ++ zs)) ≡ false
replaced-grown u x w v xs ys zs b c e =
    let p = or_parts (is_replaced u x xs) (is_replaced u x ((w ∷ ys) ++ zs)) (sym (any-append u x xs ((w ∷ ys) ++ zs)) ∙ e) in
    let q = or_parts (is_replaced u x (w ∷ ys)) (is_replaced u x zs) (sym (any-append u x (w ∷ ys) zs) ∙ p.1) in
    let r = or_parts (bytes_eq x.key w.key && nat_le w.commit u) (is_replaced u x ys) q.0 in
    let more = any-with u x v (w ∷ ys) (not-by u x w v b c r.0) q.0 in
    any-append u x xs (with_version v (w ∷ ys) ++ zs)
    ∙ or_from (is_replaced u x xs) (is_replaced u x (with_version v (w ∷ ys) ++ zs)) p.0
    (any-append u x (with_version v (w ∷ ys)) zs ∙ or_from (is_replaced u x (with_version v (w ∷ ys))) (is_replaced u x zs) more q.1)

-- pages before the one that the version goes into, behind its first version
dues-grown : (b : List ℕ) (bs : List Page) (w v : StoredVersion) (ys zs : List StoredVersion)
    → Each (λ x. IsBefore x w) (items_of b bs) → IsBefore w v
    → Dues b bs ((w ∷ ys) ++ zs) → Dues b bs (with_version v (w ∷ ys) ++ zs)
dues-grown b [] w v ys zs h l d = tt
dues-grown b (p ∷ ps) w v ys zs h l d = (
  λ u k. idle-instead u (held b p) (items_of b ps ++ ((w ∷ ys) ++ zs)) (items_of b ps ++ (with_version v (w ∷ ys) ++ zs))
      (Each-weaker (λ x. IsBefore x w)
      (λ x. is_replaced u x (items_of b ps ++ ((w ∷ ys) ++ zs)) ≡ false → is_replaced u x (items_of b ps ++ (with_version v (w ∷ ys) ++ zs))
      ≡ false)
      (λ x c. replaced-grown u x w v (items_of b ps) ys zs c l) (held b p) (each-left (λ x. IsBefore x w) (held b p) (items_of b ps) h))
      (d.0 u k),
  dues-grown b ps w v ys zs (each-right (λ x. IsBefore x w) (held b p) (items_of b ps) h) l d.1,
)

-- pages that share what is idle under one due
dues-parts : (b : List ℕ) (ms : List Page) (due : ℕ) (zs : List StoredVersion) → Each (λ (m : Page). m.due ≡ due) ms
    → ((u : ℕ) → u < due → Idle u (items_of b ms) zs) → Dues b ms zs
dues-parts b [] due zs e i = tt
dues-parts b (m ∷ ms) due zs e i = (
  λ u l. (idle-append u (held b m) (items_of b ms) zs (i u (subst (λ (n : ℕ). u < n) e.0 l))).0,
  dues-parts b ms due zs e.1 (λ u l. (idle-append u (held b m) (items_of b ms) zs (i u l)).1),
)

pub record Grown (b : List ℕ) (v : StoredVersion) (old new : List Page) : Type 0 where
  pub items : items_of b new ≡ with_version v (items_of b old)
  pub paged : IsPaged b new []

-- The pages ms stand in for the page q, with the version in it.
pub grown : (b : List ℕ) (v : StoredVersion) (bs : List Page) (q : Page) (cs ms : List Page) → IsPaged b (bs ++ q ∷ cs) []
    → IsNew v (items_of b (bs ++ q ∷ cs))
    → Each (λ x. is_gt (stored_cmp v x) ≡ true) (items_of b bs) → Each (λ x. is_gt (stored_cmp v x) ≡ false) (items_of b cs)
    → (bs ≡ []) ⊎ (is_first_passed (λ x. is_gt (stored_cmp v x)) (held b q) ≡ true)
    → items_of b ms ≡ with_version v (held b q) → Each (IsPage b) ms → Each (λ (m : Page). m.due ≡ min q.due v.commit) ms
    → Grown b v (bs ++ q ∷ cs) (bs ++ (ms ++ cs))
grown b v bs q cs ms g n f late first e pages dues =
    let zs = items_of b cs ++ [] in
    let was : items_of b (bs ++ q ∷ cs) ≡ items_of b bs ++ (held b q ++ items_of b cs) = items_of-append b bs (q ∷ cs) in
    let tail : items_of b (ms ++ cs) ≡ with_version v (held b q) ++ items_of b cs = items_of-append b ms cs
    ∙ ap (λ w. w ++ items_of b cs) e in
    let items : items_of b (bs ++ (ms ++ cs)) ≡ with_version v (items_of b (bs ++ q ∷ cs)) =
    items_of-append b bs (ms ++ cs) ∙ ap (λ w. items_of b bs ++ w) tail
    ∙ sym (with-between v (items_of b bs) (held b q) (items_of b cs) f late)
    ∙ ap (with_version v) (sym was)
    in
    let ordered : InOrder (items_of b (bs ++ (ms ++ cs))) =
    subst InOrder (sym items) (with-in_order v (items_of b (bs ++ q ∷ cs)) g.ordered n) in
    let here : InOrder (with_version v (held b q) ++ items_of b cs) =
    in_order-right (items_of b bs) (with_version v (held b q) ++ items_of b cs) (subst InOrder (items_of-append b bs (ms ++ cs)
    ∙ ap (λ w. items_of b bs ++ w) tail) ordered)
    in
    let behind = dues-right b bs (q ∷ cs) [] g.dues in
    let middle : Dues b ms zs =
    dues-parts b ms (min q.due v.commit) zs dues (λ u l. subst (λ (w : List StoredVersion). Idle u w zs) (sym e)
    (idle-with u v (held b q) zs (omega arith)
    (subst (λ (w : List StoredVersion). InOrder (with_version v (held b q) ++ w)) (sym (append-nil (items_of b cs))) here)
    (behind.0 u (omega arith)))) in
    let below : Dues b bs (items_of b (q ∷ cs) ++ []) = dues-left b bs (q ∷ cs) [] g.dues in
    let old_order : InOrder (items_of b bs ++ (held b q ++ items_of b cs)) = subst InOrder was g.ordered in
    let front : Dues b bs (with_version v (held b q) ++ zs) = ⊎_elim {C = Dues b bs (with_version v (held b q) ++ zs)}
    (λ none. subst (λ (ps : List Page). Dues b ps (with_version v (held b q) ++ zs)) (sym none) tt)
    (λ some. front-grown (held b q) some old_order
    (subst (λ (w : List StoredVersion). Dues b bs w) (append_assoc (held b q) (items_of b cs) []) below))
    first
    in
    record {
      items = items;
      paged = record {
        ordered = ordered;
        pages = Each-append (IsPage b) bs (ms ++ cs) (each-left (IsPage b) bs (q ∷ cs) g.pages)
            (Each-append (IsPage b) ms cs pages (each-right (IsPage b) bs (q ∷ cs) g.pages).1);
        dues = dues-append b bs (ms ++ cs) [] (subst (λ (w : List StoredVersion). Dues b bs w) (sym (ap (λ w. w ++ []) tail
            ∙ append_assoc (with_version v (held b q)) (items_of b cs) [])) front) (dues-append b ms cs [] middle behind.1);
      };
    }
  where
    front-grown : (xs : List StoredVersion) → is_first_passed (λ x. is_gt (stored_cmp v x)) xs ≡ true
        → InOrder (items_of b bs ++ (xs ++ items_of b cs)) → Dues b bs (xs ++ (items_of b cs ++ []))
        → Dues b bs (with_version v xs ++ (items_of b cs ++ []))
    front-grown [] s o d = cc
    front-grown (w ∷ ys) s o d =
        dues-grown b bs w v ys (items_of b cs ++ []) (before-all (items_of b bs) w (ys ++ items_of b cs) o) (above-before v w s) d

-- ---- room

pub over-append : (ps qs : List Page) → over (ps ++ qs) ≡ over ps + over qs
over-append [] qs = omega arith
over-append (p ∷ ps) qs = let e = over-append ps qs in omega arith

pub load-some : (ps : List Page) → 0 < length ps → load ps ≡ over ps
load-some [] h = absurd (omega arith)
load-some (p ∷ ps) h = refl

pub spare-kept : (o o2 n : ℕ) → o2 ≤ o + 1 → max n ((32 * n + 31) - o) ≤ max n ((32 * n + 31) - o2) + 1
spare-kept o o2 n h = omega arith

pub spare-split : (o o2 n m : ℕ) → o2 + 31 ≤ o → n ≡ m + 1 → max n ((32 * n + 31) - o) ≤ max m ((32 * m + 31) - o2) + 1
spare-split o o2 n m h e = omega arith

pub empty-there : (o n : ℕ) → 32 ≤ o → 1 ≤ max n ((32 * n + 31) - o) → 1 ≤ n
empty-there o n h s = omega arith

-- ---- by the page's number

pub cut-at : (old : List Page) (i : ℕ) (q : Page) → i < length old → q ≡ get_or old i q → old ≡ take i old ++ q ∷ drop (i + 1) old
cut-at old i q h e = at-index old i q h ∙ ap (λ p. take i old ++ p ∷ drop (i + 1) old) (sym e)

pub added-at : (b : List ℕ) (v : StoredVersion) (old : List Page) (i : ℕ) (q : Page) (ms : List Page) → IsPaged b old []
    → IsNew v (items_of b old)
    → i < length old → Around b (λ x. is_gt (stored_cmp v x)) old i → q ≡ get_or old i q
    → items_of b ms ≡ with_version v (held b q) → Each (IsPage b) ms → Each (λ (m : Page). m.due ≡ min q.due v.commit) ms
    → Grown b v old (take i old ++ (ms ++ drop (i + 1) old))
added-at b v old i q ms g n h a e items pages dues =
    let cut = cut-at old i q h e in
    let first : (take i old ≡ []) ⊎ (is_first_passed (λ x. is_gt (stored_cmp v x)) (held b q) ≡ true) =
    ⊎_elim (λ z. inl (ap (λ k. take k old) z)) (λ p. inr (p q e)) a.first
    in
    subst (λ (ps : List Page). Grown b v ps (take i old ++ (ms ++ drop (i + 1) old))) (sym cut)
    (grown b v (take i old) q (drop (i + 1) old) ms (subst (λ (ps : List Page). IsPaged b ps []) cut g)
    (subst (λ (ps : List Page). IsNew v (items_of b ps)) cut n) a.before a.behind first items pages dues)

pub in_page : (b : List ℕ) (v : StoredVersion) (old : List Page) (i : ℕ) (q : Page) → IsPaged b old [] → IsNew v (items_of b old)
    → i < length old
    → q ≡ get_or old i q → InOrder (held b q) × IsNew v (held b q)
in_page b v old i q g n h e =
    let cut = ap (items_of b) (cut-at old i q h e) ∙ items_of-append b (take i old) (q ∷ drop (i + 1) old) in
    let o = in_order-right (items_of b (take i old)) (held b q ++ items_of b (drop (i + 1) old)) (subst InOrder cut g.ordered) in
    let m = each-right (λ x. ¬ (stored_cmp v x ≡ Equal)) (items_of b (take i old)) (held b q ++ items_of b (drop (i + 1) old))
    (subst (λ (xs : List StoredVersion). IsNew v xs) cut n) in (
      in_order-left (held b q) (items_of b (drop (i + 1) old)) o,
      each-left (λ x. ¬ (stored_cmp v x ≡ Equal)) (held b q)
          (items_of b (drop (i + 1) old)) m,
    )

pub set-cut : (old : List Page) (i : ℕ) (q : Page) → i < length old → set old i q ≡ take i old ++ ((q ∷ []) ++ drop (i + 1) old)
set-cut old i q h = set_split old i q h ∙ ap (λ k. take i old ++ q ∷ drop k old) (sym (add-one i))

pub insert-cut : (old : List Page) (i : ℕ) (q r : Page) → i < length old
    → insert (set old i q) (i + 1) r ≡ take i old ++ ((q ∷ r ∷ []) ++ drop (i + 1) old)
insert-cut old i q r h =
    ap (λ w. w ++ r ∷ drop (i + 1) (set old i q)) (take_more_set old i q h)
    ∙ ap (λ w. (take i old ++ q ∷ []) ++ r ∷ w) (drop-set-lt (i + 1) old i q (omega arith))
    ∙ append_assoc (take i old) (q ∷ []) (r ∷ drop (i + 1) old)

over-cut : (old : List Page) (i : ℕ) (q : Page) → i < length old → q ≡ get_or old i q
    → load old ≡ over (take i old) + ((length (slots_of q) - 32) + over (drop (i + 1) old))
over-cut old i q h e = load-some old (omega arith) ∙ ap over (cut-at old i q h e) ∙ over-append (take i old) (q ∷ drop (i + 1) old)

load-middle : (bs : List Page) (m : Page) (ms cs : List Page) → load (bs ++ ((m ∷ ms) ++ cs)) ≡ over bs + (over (m ∷ ms) + over cs)
load-middle bs m ms cs =
    let long = length-append bs ((m ∷ ms) ++ cs) in
    load-some (bs ++ ((m ∷ ms) ++ cs)) (omega arith) ∙ over-append bs ((m ∷ ms) ++ cs) ∙ ap (λ n. over bs + n) (over-append (m ∷ ms) cs)

pub spare-one : (old : List Page) (i : ℕ) (q r : Page) (n : ℕ) → i < length old → q ≡ get_or old i q
    → length (slots_of r) ≡ length (slots_of q) + 1
    → spare_of old n ≤ spare_of (take i old ++ ((r ∷ []) ++ drop (i + 1) old)) n + 1
spare-one old i q r n h e l =
    let a = over-cut old i q h e in
    let b = load-middle (take i old) r [] (drop (i + 1) old) in
    spare-kept (load old) (load (take i old ++ ((r ∷ []) ++ drop (i + 1) old))) n (omega arith)

pub spare-two : (old : List Page) (i : ℕ) (q r s : Page) (n m : ℕ) → i < length old → q ≡ get_or old i q → length (slots_of q) ≡ 64
    → length (slots_of r) ≡ 32 → length (slots_of s) ≡ 33 → n ≡ m + 1
    → spare_of old n ≤ spare_of (take i old ++ ((r ∷ s ∷ []) ++ drop (i + 1) old)) m + 1
spare-two old i q r s n m h e l k j f =
    let a = over-cut old i q h e in
    let b = load-middle (take i old) r (s ∷ []) (drop (i + 1) old) in
    spare-split (load old) (load (take i old ++ ((r ∷ s ∷ []) ++ drop (i + 1) old))) n m (omega arith) f

pub pool-there : (old : List Page) (i : ℕ) (q : Page) (n : ℕ) → i < length old → q ≡ get_or old i q → length (slots_of q) ≡ 64
    → 1 ≤ spare_of old n → 1 ≤ n
pool-there old i q n h e l s = let a = over-cut old i q h e in empty-there (load old) n (omega arith) s

pub page-at : (b : List ℕ) (old : List Page) (i : ℕ) (q : Page) → Each (IsPage b) old → i < length old → q ≡ get_or old i q → IsPage b q
page-at b old i q g h e = subst (IsPage b) (sym e) (each-at (IsPage b) old i q g h)

-- the two halves of a page that has one version too many
pub halves : (b : List ℕ) (xs : List Slot) (q r : Page) → (slots_of q) ≡ take 32 xs → (slots_of r) ≡ drop 32 xs
    → items_of b (q ∷ r ∷ []) ≡ map (seen b) xs
halves b xs q r e f =
    ap (λ w. held b q ++ w) (append-nil (held b r)) ∙ sym (map-append (seen b) (slots_of q) (slots_of r))
    ∙ ap (map (seen b)) (ap (λ w. w ++ (slots_of r)) e ∙ ap (λ w. take 32 xs ++ w) f ∙ take-append-drop 32 xs)

pub length-set-insert : (old : List Page) (i : ℕ) (q r : Page) → i < length old → length (insert (set old i q) (i + 1) r) ≡ length old + 1
length-set-insert old i q r h =
    let w = length-set old i q in
    let a = length-append (take (i + 1) (set old i q)) (r ∷ drop (i + 1) (set old i q)) in
    let b = ap length (take-append-drop (i + 1) (set old i q)) in
    let c = length-append (take (i + 1) (set old i q)) (drop (i + 1) (set old i q)) in
    omega arith

-- ---- enough room

over-most : (b : List ℕ) (ps : List Page) → Each (IsPage b) ps → over ps ≤ 32 * length ps
over-most b [] g = omega arith
over-most b (p ∷ ps) g = let few = g.0.few in let rest = over-most b ps g.1 in omega arith

pub spare-enough : (b : List ℕ) (ps : List Page) (n m : ℕ) → Each (IsPage b) ps → min n (length ps + (n / 32 + 1)) ≤ m → n ≤ spare_of ps m
spare-enough b [] n m g h = omega arith
spare-enough b (p ∷ ps) n m g h = let few = over-most b (p ∷ ps) g in omega arith

pub some-pages : (b : List ℕ) (ps : List Page) → Each (IsPage b) ps → length ps ≤ length (items_of b ps)
some-pages b [] g = omega arith
some-pages b (p ∷ ps) g =
    let some = g.0.some in let rest = some-pages b ps g.1 in let whole = length-append (held b p) (items_of b ps) in
    let same = length-map (slots_of p) (seen b) in omega arith

pub few-pages : (b : List ℕ) (ps : List Page) → Each (IsPage b) ps → length (items_of b ps) ≤ 64 * length ps
few-pages b [] g = omega arith
few-pages b (p ∷ ps) g =
    let few = g.0.few in let rest = few-pages b ps g.1 in let whole = length-append (held b p) (items_of b ps) in
    let same = length-map (slots_of p) (seen b) in omega arith

pub vec-long : {X : Type 0} (v : Vec X Global) → vec_len v ≡ length v.items
vec-long v = grind (arith, common_steps)
