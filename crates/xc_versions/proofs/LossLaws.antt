-- A store of which one page lost versions.
use Rattle.std.proofs.Common.{◌≡◌, ℕ, ◌+◌, ◌<◌, ◌≤◌, List, [], ◌∷◌, ◌++◌, length, get_or, take, drop, set}
use Rattle.std.proofs.Common.{Vec, vec_capacity, deque_capacity}
use Rattle.std.proofs.Common.{refl, ap, sym, ◌∙◌, subst, arith, append-nil, inl, map}
use Rattle.std.specs.Prelude.{remove}
use Rattle.std.specs.declared.collections.VecDeque.{VecDeque}
use Rattle.std.specs.declared.alloc.Global.{Global}
use Rattle.std.proofs.lemmas.List.{length-set, length-take-le, take_at, take-set, drop-set, get_or_default, set-get_or}
use Rattle.std.proofs.lemmas.List.{nil_from_length}
use Rattle.xc_record.proofs.ListLaws.{Each}
use Rattle.xc_versions.specs.declared.stored.StoredVersion.{StoredVersion}
use Rattle.xc_versions.specs.declared.page.Page.{Page}
use Rattle.xc_versions.specs.Stored.{InOrder}
use Rattle.xc_versions.specs.Slots.{seen}
use Rattle.xc_versions.specs.Pages.{held, items_of, IsPage, IsEmptyPage, IsPaged, Idle, slots_of, spare_of}
use Rattle.xc_versions.specs.Pool.{IsStore, Loses}
use Rattle.xc_versions.specs.Dues.{dues_of, Shrunk}
use Rattle.xc_versions.proofs.PageLaws.{items-from}
use Rattle.xc_versions.proofs.AddLaws.{set-cut}
use Rattle.xc_versions.proofs.SubLaws.{Sub}
use Rattle.xc_versions.proofs.ShrinkLaws.{shrunk-at, remove-cut, tail-gone, length-removed, dues-one, spare-shrunk, spare-gone}
use Rattle.xc_versions.proofs.DueLaws.{shrunk-gone, shrunk-set}

-- all of its versions, and the page went to the pool
store-gone : (b : List ℕ) (pages pages2 : VecDeque Page Global) (pool pool2 : Vec Page Global) (i : ℕ) (q : Page) → IsStore b pages pool
    → i < length pages.items → q ≡ get_or pages.items i q
    → Sub (items_of b (drop (i + 1) pages.items)) (held b q ++ items_of b (drop (i + 1) pages.items))
    → pages2.items ≡ take i pages.items ++ drop (i + 1) pages.items → Each IsEmptyPage pool2.items
    → length pool2.items ≡ length pool.items + 1 → deque_capacity pages2 ≡ deque_capacity pages → vec_capacity pool2 ≡ vec_capacity pool
    → IsStore b pages2 pool2
store-gone b pages pages2 pool pool2 i q s h e sub is empty more pages_capacity pool_capacity =
    let old = pages.items in
    let long = length-removed old i h in
    let count : length pages2.items ≡ length (take i old ++ drop (i + 1) old) = ap length is in
    let pages_room = s.room.pages_room in
    let pool_room = s.room.pool_room in
    record {
      paged = subst (λ (ps : List Page). IsPaged b ps []) (sym is) (shrunk-at b old i q [] s.paged h e sub tt (λ o. tt));
      empty = empty;
      room = record { pages_room = omega arith; pool_room = omega arith };
    }

-- some of them, and the page r stands in its place
store-kept : (b : List ℕ) (pages pages2 : VecDeque Page Global) (pool : Vec Page Global) (i : ℕ) (q r : Page) → IsStore b pages pool
    → i < length pages.items → q ≡ get_or pages.items i q
    → Sub (held b r ++ items_of b (drop (i + 1) pages.items)) (held b q ++ items_of b (drop (i + 1) pages.items)) → IsPage b r
    → (InOrder (held b r ++ items_of b (drop (i + 1) pages.items)) → (u : ℕ) → u < r.due
    → Idle u (held b r) (items_of b (drop (i + 1) pages.items)))
    → pages2.items ≡ set pages.items i r → deque_capacity pages2 ≡ deque_capacity pages → IsStore b pages2 pool
store-kept b pages pages2 pool i q r s h e sub is_page idle is pages_capacity =
    let old = pages.items in
    let rest = items_of b (drop (i + 1) old) in
    let flat : items_of b (r ∷ []) ++ rest ≡ held b r ++ rest = ap (λ w. w ++ rest) (append-nil (held b r)) in
    let paged : IsPaged b (take i old ++ ((r ∷ []) ++ drop (i + 1) old)) [] =
    shrunk-at b old i q (r ∷ []) s.paged h e (subst (λ (w : List StoredVersion). Sub w (held b q ++ rest)) (sym flat) sub) (is_page, tt)
    (λ o. dues-one b r rest (idle (subst InOrder flat o))) in
    let long = length-set old i r in
    let count = ap length is in
    let pages_room = s.room.pages_room in
    let pool_room = s.room.pool_room in
    record {
      paged = subst (λ (ps : List Page). IsPaged b ps []) (sym (is ∙ set-cut old i r h)) paged;
      empty = s.empty;
      room = record { pages_room = omega arith; pool_room = omega arith };
    }

-- none of them goes
pub loses-none : (b : List ℕ) (pages : VecDeque Page Global) (pool : Vec Page Global) (i : ℕ)
    (left : List StoredVersion → List StoredVersion → List StoredVersion) → IsStore b pages pool → i < length pages.items
    → ((q : Page) → q ≡ get_or pages.items i q
    → left (held b q) (items_of b (drop (i + 1) pages.items)) ≡ held b q ++ items_of b (drop (i + 1) pages.items))
    → Loses b pages pages pool pool i left
loses-none b pages pool i left s h all = record {
  store = s;
  front = refl;
  tail = λ q e. items-from b pages.items i q h e ∙ sym (all q e);
  spare = omega arith;
  dues = inl (sym (set-get_or (dues_of pages.items) i 0));
  len = omega arith;
}

-- all of them go: the page r, which has none, stood in its place
pub loses-all : (b : List ℕ) (pages pages2 : VecDeque Page Global) (pool pool2 : Vec Page Global) (i : ℕ) (q r : Page)
    (left : List StoredVersion → List StoredVersion → List StoredVersion) → IsStore b pages pool → i < length pages.items
    → q ≡ get_or pages.items i q
    → Sub (left (held b q) (items_of b (drop (i + 1) pages.items))) (held b q ++ items_of b (drop (i + 1) pages.items))
    → held b r ++ items_of b (drop (i + 1) pages.items) ≡ left (held b q) (items_of b (drop (i + 1) pages.items))
    → length (slots_of r) ≡ 0 → pages2.items ≡ remove (set pages.items i r) i → Each IsEmptyPage pool2.items
    → length pool2.items ≡ length pool.items + 1 → deque_capacity pages2 ≡ deque_capacity pages → vec_capacity pool2 ≡ vec_capacity pool
    → Loses b pages pages2 pool pool2 i left
loses-all b pages pages2 pool pool2 i q r left s h e sub is none new empty more pages_capacity pool_capacity =
    let old = pages.items in
    let rest = items_of b (drop (i + 1) old) in
    let gone : left (held b q) rest ≡ rest = sym is ∙ ap (λ xs. map (seen b) xs ++ rest) (nil_from_length (slots_of r) none) in
    let cut : pages2.items ≡ take i old ++ drop (i + 1) old = new ∙ remove-cut old i r h in
    let long = length-removed old i h in
    let count = ap length cut in
    record {
      store = store-gone b pages pages2 pool pool2 i q s h e (subst (λ (w : List StoredVersion). Sub w (held b q ++ rest)) gone sub) cut
          empty more pages_capacity pool_capacity;
      front = ap (take i) cut ∙ take_at (take i old) (drop (i + 1) old) i (length-take-le i old (omega arith));
      tail = λ p f. tail-gone b old pages2.items i p q (λ x. left (held b x) rest) h f e cut gone;
      spare = spare-gone old pages2.items i q (length pool.items) (length pool2.items) h e cut more;
      dues = shrunk-gone old pages2.items i cut;
      len = omega arith;
    }

-- some of them go, and the page r stands in its place
pub loses-some : (b : List ℕ) (pages pages2 : VecDeque Page Global) (pool : Vec Page Global) (i : ℕ) (q r : Page)
    (left : List StoredVersion → List StoredVersion → List StoredVersion) → IsStore b pages pool → i < length pages.items
    → q ≡ get_or pages.items i q
    → Sub (left (held b q) (items_of b (drop (i + 1) pages.items))) (held b q ++ items_of b (drop (i + 1) pages.items))
    → held b r ++ items_of b (drop (i + 1) pages.items) ≡ left (held b q) (items_of b (drop (i + 1) pages.items))
    → IsPage b r
    → (InOrder (held b r ++ items_of b (drop (i + 1) pages.items)) → (u : ℕ) → u < r.due
    → Idle u (held b r) (items_of b (drop (i + 1) pages.items)))
    → length (slots_of r) ≤ length (slots_of q) → pages2.items ≡ set pages.items i r → deque_capacity pages2 ≡ deque_capacity pages
    → Loses b pages pages2 pool pool i left
loses-some b pages pages2 pool i q r left s h e sub is is_page idle fewer new pages_capacity =
    let old = pages.items in
    let rest = items_of b (drop (i + 1) old) in
    let long = length-set old i r in
    let count = ap length new in
    record {
      store = store-kept b pages pages2 pool i q r s h e (subst (λ (w : List StoredVersion). Sub w (held b q ++ rest)) (sym is) sub) is_page
          idle new pages_capacity;
      front = ap (take i) new ∙ take-set old i r;
      tail = λ p f. ap (λ ps. items_of b (drop i ps)) new ∙ ap (items_of b) (drop-set old i r h) ∙ is
          ∙ ap (λ (x : Page). left (held b x) rest) (e ∙ get_or_default old i q p h ∙ sym f);
      spare = subst (λ (ps : List Page). spare_of old (length pool.items) ≤ spare_of ps (length pool.items)) (sym new)
          (spare-shrunk old i q r (length pool.items) h e fewer);
      dues = subst (λ (ps : List Page). Shrunk i (dues_of old) (dues_of ps)) (sym new) (shrunk-set old i r h);
      len = omega arith;
    }
