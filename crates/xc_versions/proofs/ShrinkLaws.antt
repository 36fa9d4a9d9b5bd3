-- Pages of which one loses versions.
use Rattle.std.proofs.Common.{◌≡◌, ℕ, suc, ◌+◌, ◌-◌, ◌*◌, ◌<◌, ◌≤◌, Bool, true, false, cond, List, [], ◌∷◌, ◌++◌, length, get_or, take}
use Rattle.std.proofs.Common.{drop, max, refl, ap, sym, ◌∙◌, subst, arith, append-nil, set, add-one, length-append}
use Rattle.std.specs.Prelude.{remove, filter}
use Rattle.std.proofs.lemmas.List.{length-take, drop_all, length-take-le, drop_at, length-drop, get_or_default, get_or-take, take-take}
use Rattle.std.proofs.lemmas.List.{take-set, drop-set-lt}
use Rattle.xc_record.proofs.ListLaws.{Each, Each-append}
use Rattle.xc_versions.specs.declared.stored.StoredVersion.{StoredVersion}
use Rattle.xc_versions.specs.declared.page.Page.{Page}
use Rattle.xc_versions.specs.Stored.{InOrder, is_replaced, next_replaces, pruned_before}
use Rattle.xc_versions.specs.Pages.{held, items_of, IsPage, IsPaged, Idle, IdleNext, Dues}
use Rattle.xc_versions.specs.Pages.{over, load, spare_of, slots_of}
use Rattle.xc_versions.specs.Pool.{Walked}
use Rattle.xc_versions.proofs.StoredOrder.{in_order-right}
use Rattle.xc_versions.proofs.VersionLaws.{replaced-first}
use Rattle.xc_versions.proofs.PageLaws.{each-left, each-right, items_of-append, items-from, idle-instead, dues-append, dues-left}
use Rattle.xc_versions.proofs.PageLaws.{dues-right}
use Rattle.xc_versions.proofs.AddLaws.{cut-at, set-cut, over-append, load-some}
use Rattle.xc_versions.proofs.SubLaws.{Sub, sub-behind, sub-before, any-sub, in_order-sub}

-- what each next version tells holds of all later ones
pub idle-from-next : (u : ℕ) (xs rest : List StoredVersion) → InOrder (xs ++ rest) → IdleNext u xs rest → Idle u xs rest
idle-from-next u [] rest o i = tt
idle-from-next u (x ∷ xs) rest o i = (replaced-first u x (xs ++ rest) o.0 o.1 ∙ i.0, idle-from-next u xs rest o.1 i.1)

dues-shrunk : (b : List ℕ) (bs : List Page) (zs ys : List StoredVersion) → Sub zs ys → Dues b bs ys → Dues b bs zs
dues-shrunk b [] zs ys s d = tt
dues-shrunk b (p ∷ ps) zs ys s d = (
  λ u l. idle-instead u (held b p) (items_of b ps ++ ys) (items_of b ps ++ zs) (all u (held b p)) (d.0 u l),
  dues-shrunk b ps zs ys s
      d.1,
)
  where
    all : (u : ℕ) (xs : List StoredVersion)
        → Each (λ x. is_replaced u x (items_of b ps ++ ys) ≡ false → is_replaced u x (items_of b ps ++ zs) ≡ false) xs
    all u [] = tt
    all u (x ∷ xs) = (any-sub u x (items_of b ps ++ zs) (items_of b ps ++ ys) (sub-before (items_of b ps) zs ys s), all u xs)

-- The pages ms, one or none, stand in for q, with some of its versions.
pub shrunk : (b : List ℕ) (bs : List Page) (q : Page) (cs ms : List Page) → IsPaged b (bs ++ q ∷ cs) []
    → Sub (items_of b ms ++ items_of b cs) (held b q ++ items_of b cs) → Each (IsPage b) ms
    → (InOrder (items_of b ms ++ items_of b cs) → Dues b ms (items_of b cs ++ [])) → IsPaged b (bs ++ (ms ++ cs)) []
shrunk b bs q cs ms g tail pages dues =
    let was : items_of b (bs ++ q ∷ cs) ≡ items_of b bs ++ (held b q ++ items_of b cs) = items_of-append b bs (q ∷ cs) in
    let is : items_of b (bs ++ (ms ++ cs)) ≡ items_of b bs ++ (items_of b ms ++ items_of b cs) =
    items_of-append b bs (ms ++ cs) ∙ ap (λ w. items_of b bs ++ w) (items_of-append b ms cs) in
    let whole = sub-before (items_of b bs) (items_of b ms ++ items_of b cs) (held b q ++ items_of b cs) tail in
    let ordered : InOrder (items_of b bs ++ (items_of b ms ++ items_of b cs)) =
    in_order-sub (items_of b bs ++ (items_of b ms ++ items_of b cs)) (items_of b bs ++ (held b q ++ items_of b cs)) whole
    (subst InOrder was g.ordered) in
    let here = in_order-right (items_of b bs) (items_of b ms ++ items_of b cs) ordered in
    let below : Dues b bs ((held b q ++ items_of b cs) ++ []) = dues-left b bs (q ∷ cs) [] g.dues in
    let front : Dues b bs (items_of b (ms ++ cs) ++ []) =
    subst (λ (w : List StoredVersion). Dues b bs (w ++ [])) (sym (items_of-append b ms cs))
    (dues-shrunk b bs ((items_of b ms ++ items_of b cs) ++ []) ((held b q ++ items_of b cs) ++ [])
    (sub-behind (items_of b ms ++ items_of b cs) (held b q ++ items_of b cs) [] tail) below)
    in
    record {
      ordered = subst InOrder (sym is) ordered;
      pages = Each-append (IsPage b) bs (ms ++ cs) (each-left (IsPage b) bs (q ∷ cs) g.pages)
          (Each-append (IsPage b) ms cs pages (each-right (IsPage b) bs (q ∷ cs) g.pages).1);
      dues = dues-append b bs (ms ++ cs) [] front (dues-append b ms cs [] (dues here) (dues-right b bs (q ∷ cs) [] g.dues).1);
    }

-- ---- room

pub spare-less : (o o2 n : ℕ) → o2 ≤ o → max n ((32 * n + 31) - o) ≤ max n ((32 * n + 31) - o2)
spare-less o o2 n h = omega arith

pub spare-freed : (o o2 n : ℕ) → o2 ≤ o + 32 → max n ((32 * n + 31) - o) ≤ max (n + 1) ((32 * (n + 1) + 31) - o2)
spare-freed o o2 n h = omega arith

load-most : (ps : List Page) → load ps ≤ over ps + 32
load-most [] = omega arith
load-most (p ∷ ps) = omega arith

over-at : (old : List Page) (i : ℕ) (q : Page) → i < length old → q ≡ get_or old i q
    → load old ≡ over (take i old) + ((length (slots_of q) - 32) + over (drop (i + 1) old))
over-at old i q h e = load-some old (omega arith) ∙ ap over (cut-at old i q h e) ∙ over-append (take i old) (q ∷ drop (i + 1) old)

pub spare-shrunk : (old : List Page) (i : ℕ) (q r : Page) (n : ℕ) → i < length old → q ≡ get_or old i q
    → length (slots_of r) ≤ length (slots_of q) → spare_of old n ≤ spare_of (set old i r) n
spare-shrunk old i q r n h e l =
    let a = over-at old i q h e in
    let long = length-append (take i old) (r ∷ drop (i + 1) old) in
    let b = load-some (take i old ++ (r ∷ drop (i + 1) old)) (omega arith) in
    let c = over-append (take i old) (r ∷ drop (i + 1) old) in
    subst (λ (ps : List Page). spare_of old n ≤ spare_of ps n) (sym (set-cut old i r h))
    (spare-less (load old) (load (take i old ++ (r ∷ drop (i + 1) old))) n (omega arith))

pub spare-gone : (old new : List Page) (i : ℕ) (q : Page) (n m : ℕ) → i < length old → q ≡ get_or old i q
    → new ≡ take i old ++ drop (i + 1) old → m ≡ n + 1 → spare_of old n ≤ spare_of new m
spare-gone old new i q n m h e is k =
    let a = over-at old i q h e in
    let b = load-most (take i old ++ drop (i + 1) old) in
    let c = over-append (take i old) (drop (i + 1) old) in
    let d = ap load is in
    subst (λ (z : ℕ). spare_of old n ≤ spare_of new z) (sym k) (spare-freed (load old) (load new) n (omega arith))

-- ---- a loop from the last page to the first

pub walked-start : (b : List ℕ) (f : List StoredVersion → List StoredVersion) (old : List Page) → f [] ≡ []
    → Walked b f old old (length old)
walked-start b f old e =
    let none : items_of b (drop (length old) old) ≡ [] = ap (items_of b) (drop_all (length old) old (omega arith)) in
    record { within = omega arith; short = omega arith; front = refl; tail = none ∙ sym (ap f none ∙ e) }

pub walked-all : (b : List ℕ) (f : List StoredVersion → List StoredVersion) (old new : List Page) (i : ℕ) → Walked b f old new i → i ≡ 0
    → items_of b new ≡ f (items_of b old)
walked-all b f old new i w e = subst (λ (k : ℕ). items_of b (drop k new) ≡ f (items_of b (drop k old))) e w.tail

-- one more page, from the pages mid to new
pub walked-more : (b : List ℕ) (f : List StoredVersion → List StoredVersion) (g : List StoredVersion → List StoredVersion
    → List StoredVersion) (old mid new : List Page) (i : ℕ) (d : Page) → Walked b f old mid (i + 1)
    → i ≤ length new → take i new ≡ take i mid
    → ((q : Page) → q ≡ get_or mid i q → items_of b (drop i new) ≡ g (held b q) (items_of b (drop (i + 1) mid)))
    → ((q : Page) → q ≡ get_or old i q
    → g (held b q) (f (items_of b (drop (i + 1) old))) ≡ f (held b q ++ items_of b (drop (i + 1) old)))
    → Walked b f old new i
walked-more b f g old mid new i d w s e t h =
    let within = w.within in
    let short = w.short in
    let q = get_or old i d in
    let is_old : q ≡ get_or old i q = get_or_default old i d q (omega arith) in
    let is_mid : q ≡ get_or mid i q =
    is_old ∙ sym (get_or-take (i + 1) old i q (omega arith)) ∙ ap (λ ps. get_or ps i q) (sym w.front)
    ∙ get_or-take (i + 1) mid i q (omega arith) in
    record {
      within = omega arith;
      short = s;
      front = e ∙ sym (take-take i (i + 1) mid (omega arith)) ∙ ap (take i) w.front ∙ take-take i (i + 1) old (omega arith);
      tail = t q is_mid ∙ ap (g (held b q)) w.tail ∙ h q is_old ∙ ap f (sym (items-from b old i q (omega arith) is_old));
    }

-- ---- by the page's number

pub shrunk-at : (b : List ℕ) (old : List Page) (i : ℕ) (q : Page) (ms : List Page) → IsPaged b old [] → i < length old → q ≡ get_or old i q
    → Sub (items_of b ms ++ items_of b (drop (i + 1) old)) (held b q ++ items_of b (drop (i + 1) old)) → Each (IsPage b) ms
    → (InOrder (items_of b ms ++ items_of b (drop (i + 1) old)) → Dues b ms (items_of b (drop (i + 1) old) ++ []))
    → IsPaged b (take i old ++ (ms ++ drop (i + 1) old)) []
shrunk-at b old i q ms g h e s pages dues =
    shrunk b (take i old) q (drop (i + 1) old) ms (subst (λ (ps : List Page). IsPaged b ps []) (cut-at old i q h e) g) s pages dues

pub remove-cut : (old : List Page) (i : ℕ) (q : Page) → i < length old → remove (set old i q) i ≡ take i old ++ drop (i + 1) old
remove-cut old i q h =
    ap (λ w. w ++ drop (suc i) (set old i q)) (take-set old i q)
    ∙ ap (λ w. take i old ++ w) (ap (λ k. drop k (set old i q)) (sym (add-one i)) ∙ drop-set-lt (i + 1) old i q (omega arith))

pub length-removed : (old : List Page) (i : ℕ) → i < length old → length (take i old ++ drop (i + 1) old) + 1 ≡ length old
length-removed old i h =
    let a = length-append (take i old) (drop (i + 1) old) in
    let b = length-take-le i old (omega arith) in
    let c = length-drop (i + 1) old in
    omega arith

behind-removed : (old : List Page) (i : ℕ) → i < length old → drop i (take i old ++ drop (i + 1) old) ≡ drop (i + 1) old
behind-removed old i h = drop_at (take i old) (drop (i + 1) old) i (length-take-le i old (omega arith))

-- where the page i went, and f of it is what stands behind it
pub tail-gone : (b : List ℕ) (old new : List Page) (i : ℕ) (p q : Page) (f : Page → List StoredVersion) → i < length old
    → p ≡ get_or old i p → q ≡ get_or old i q → new ≡ take i old ++ drop (i + 1) old → f q ≡ items_of b (drop (i + 1) old)
    → items_of b (drop i new) ≡ f p
tail-gone b old new i p q f h e k is g =
    ap (λ ps. items_of b (drop i ps)) is ∙ ap (items_of b) (behind-removed old i h) ∙ sym g
    ∙ ap f (k ∙ get_or_default old i q p h ∙ sym e)

-- what a page is due for is idle below it
pub idle-at : (b : List ℕ) (old : List Page) (i : ℕ) (q : Page) → IsPaged b old [] → i < length old → q ≡ get_or old i q → (u : ℕ)
    → u < q.due
    → Idle u (held b q) (items_of b (drop (i + 1) old))
idle-at b old i q g h e u l =
    let d = dues-right b (take i old) (q ∷ drop (i + 1) old) [] (subst (λ (ps : List Page). Dues b ps []) (cut-at old i q h e) g.dues) in
    subst (λ (w : List StoredVersion). Idle u (held b q) w) (append-nil (items_of b (drop (i + 1) old))) (d.0 u l)

pub order-at : (b : List ℕ) (old : List Page) (i : ℕ) (q : Page) → IsPaged b old [] → i < length old → q ≡ get_or old i q
    → InOrder (held b q ++ items_of b (drop (i + 1) old))
order-at b old i q g h e =
    in_order-right (items_of b (take i old)) (held b q ++ items_of b (drop (i + 1) old))
    (subst InOrder (ap (items_of b) (cut-at old i q h e) ∙ items_of-append b (take i old) (q ∷ drop (i + 1) old)) g.ordered)

-- a prune leaves what is idle
pub pruned-idle : (u : ℕ) (xs rest : List StoredVersion) → InOrder (xs ++ rest) → Idle u xs rest → pruned_before u xs rest ≡ xs ++ rest
pruned-idle u [] rest o i = refl
pruned-idle u (x ∷ xs) rest o i =
    let below = pruned-idle u xs rest o.1 i.1 in
    let test : next_replaces u x (pruned_before u xs rest) ≡ false =
    ap (next_replaces u x) below ∙ sym (replaced-first u x (xs ++ rest) o.0 o.1) ∙ i.0 in
    ap (λ b. cond b (pruned_before u xs rest) (x ∷ pruned_before u xs rest)) test ∙ ap (λ w. x ∷ w) below

-- one page that is idle as its due tells
pub dues-one : (b : List ℕ) (q : Page) (rest : List StoredVersion) → ((u : ℕ) → u < q.due → Idle u (held b q) rest)
    → Dues b (q ∷ []) (rest ++ [])
dues-one b q rest h = (λ u l. subst (λ (w : List StoredVersion). Idle u (held b q) w) (sym (append-nil rest)) (h u l), tt)

long-enough : (new mid : List Page) (i : ℕ) → i ≤ length mid → take i new ≡ take i mid → i ≤ length new
long-enough new mid i h e =
    let a = length-take-le i mid h in
    let b = length-take i new in
    let c = ap length e in
    omega arith

pub walked-some : (b : List ℕ) (f : List StoredVersion → List StoredVersion) (g : List StoredVersion → List StoredVersion
    → List StoredVersion) (old mid new : List Page) (i : ℕ) → Walked b f old mid (i + 1)
    → take i new ≡ take i mid
    → ((q : Page) → q ≡ get_or mid i q → items_of b (drop i new) ≡ g (held b q) (items_of b (drop (i + 1) mid)))
    → ((q : Page) → q ≡ get_or old i q
    → g (held b q) (f (items_of b (drop (i + 1) old))) ≡ f (held b q ++ items_of b (drop (i + 1) old)))
    → Walked b f old new i
walked-some b f g [] mid new i w e t h = let within = w.within in absurd (omega arith)
walked-some b f g (p ∷ ps) mid new i w e t h =
    let short = w.short in walked-more b f g (p ∷ ps) mid new i p w (long-enough new mid i (omega arith) e) e t h

pub length-kept : {X : Type 0} (p : X → Bool) (xs : List X) → length (filter p xs) ≤ length xs
length-kept p [] = omega arith
length-kept p (x ∷ xs) =
    let rest = length-kept p xs in
    elim (p x) as (λ b. length (cond b (x ∷ filter p xs) (filter p xs)) ≤ length (x ∷ xs)) [ true ↦ omega arith | false ↦ omega arith ]
