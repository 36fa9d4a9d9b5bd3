use Rattle.std.proofs.Common.{◌≡◌, ◌+◌, ◌≤◌, List, [], ◌∷◌, ◌++◌, length, take, drop, set, ap, sym, ◌∙◌, subst, arith, append-nil}
use Rattle.std.proofs.Common.{vec_capacity, deque_capacity}
use Rattle.std.proofs.lemmas.List.{length-set, length-take-le, length-drop}
use Rattle.std.proofs.lemmas.Bool.{ltb-true, ltb-false}
use Rattle.xc_versions.specs.declared.page.Page.{Page}
use Rattle.xc_versions.specs.Stored.{with_version}
use Rattle.xc_versions.specs.Slots.{seen}
use Rattle.xc_versions.specs.Pages.{held, items_of, IsPage, spare_of, slots_of}
use Rattle.xc_versions.proofs.AddLaws.{Grown, in_page, added-at, set-cut, insert-cut, spare-one, spare-two, pool-there, page-at, halves}
use Rattle.xc_versions.proofs.AddLaws.{length-set-insert}
use Rattle.xc_versions.proofs.DueLaws.{grew-one, grew-two}
use Rattle.xc_versions.proofs.pages.add_at.Goals as goal
use Rattle.xc_versions.proofs.pages.add_at.Goals.{After-insert_at}

pub put-requires-clause-ordered : goal.put-requires-clause-ordered
put-requires-clause-ordered c =
    let b = c.args.bytes.now in
    (in_page b (seen b c.args.slot) c.args.pages.now.items c.args.i c.index_mut-page.result.now c.requires.store.paged c.requires.fresh
    c.requires.within c.index_mut-page.ensures.value).0

pub take_empty-upper-requires-clause-some : goal.take_empty-upper-requires-clause-some
take_empty-upper-requires-clause-some c =
    let b = c.args.bytes.now in
    let q = c.index_mut-page.result.now in
    let page = page-at b c.args.pages.now.items c.args.i q c.requires.store.paged.pages c.requires.within c.index_mut-page.ensures.value in
    let over = ltb-true 64 (length (slots_of c.put.new.self)) (sym c.if-is_over.ensures) in
    let full : length (slots_of q) ≡ 64 = let few = page.few in let long = c.put.ensures.len in omega arith in
    pool-there c.args.pages.now.items c.args.i q (length c.args.pool.now.items) c.requires.within c.index_mut-page.ensures.value full
    c.requires.room

pub returns-else-is_over-clause-gains : goal.returns-else-is_over-clause-gains
returns-else-is_over-clause-gains c =
    let b = c.args.bytes.now in
    let v = seen b c.args.slot in
    let old = c.args.pages.now.items in
    let i = c.args.i in
    let q = c.index_mut-page.result.now in
    let r = c.put.new.self in
    let n = length c.args.pool.now.items in
    let page = page-at b old i q c.requires.store.paged.pages c.requires.within c.index_mut-page.ensures.value in
    let fits = ltb-false 64 (length (slots_of r)) (sym c.if-is_over.ensures) in
    let more = c.put.ensures.len in
    let is_page : IsPage b r = record {
      some = omega arith;
      few = fits;
      room = c.put.ensures.room;
      slots = c.put.ensures.slots;
      first = c.put.ensures.first;
    } in
    let cut = set-cut old i r c.requires.within in
    let grown : Grown b v old (set old i r) =
    subst (λ (ps : List Page). Grown b v old ps) (sym cut)
    (added-at b v old i q (r ∷ []) c.requires.store.paged c.requires.fresh c.requires.within c.requires.around
    c.index_mut-page.ensures.value (append-nil (held b r) ∙ c.put.ensures.items) (is_page, tt) (c.put.ensures.due, tt)) in
    let long = length-set old i r in
    let pages_room = c.requires.store.room.pages_room in
    let pool_room = c.requires.store.room.pool_room in
    record {
      store = record {
        paged = grown.paged;
        empty = c.requires.store.empty;
        room = record { pages_room = omega arith; pool_room = omega arith };
      };
      items = grown.items;
      spare = subst (λ (ps : List Page). spare_of old n ≤ spare_of ps n + 1) (sym cut)
          (spare-one old i q r n c.requires.within c.index_mut-page.ensures.value more);
    }

full-page : (c : After-insert_at) → length (slots_of c.index_mut-page.result.now) ≡ 64
full-page c =
    let b = c.args.bytes.now in
    let q = c.index_mut-page.result.now in
    let page = page-at b c.args.pages.now.items c.args.i q c.requires.store.paged.pages c.requires.within c.index_mut-page.ensures.value in
    let over = ltb-true 64 (length (slots_of c.put.new.self)) (sym c.if-is_over.ensures) in
    let few = page.few in
    let long = c.put.ensures.len in
    omega arith

new-pages : (c : After-insert_at)
    → c.insert_at.new.items.items ≡ take c.args.i c.args.pages.now.items ++
    ((c.split.new.self ∷ c.split.new.upper ∷ []) ++ drop (c.args.i + 1) c.args.pages.now.items)
new-pages c =
    c.insert_at.ensures.items
    ∙ insert-cut c.args.pages.now.items c.args.i c.split.new.self c.split.new.upper c.requires.within

grown-two : (c : After-insert_at) → Grown c.args.bytes.now (seen c.args.bytes.now c.args.slot) c.args.pages.now.items
    c.insert_at.new.items.items
grown-two c =
    let b = c.args.bytes.now in
    let old = c.args.pages.now.items in
    let q = c.index_mut-page.result.now in
    let r = c.split.new.self in
    let s = c.split.new.upper in
    let whole : items_of b (r ∷ s ∷ []) ≡ with_version (seen b c.args.slot) (held b q) =
    halves b (slots_of c.put.new.self) r s c.split.ensures.lower c.split.ensures.upper ∙ c.put.ensures.items in
    subst (λ (ps : List Page). Grown b (seen b c.args.slot) old ps) (sym (new-pages c))
    (added-at b (seen b c.args.slot) old c.args.i q (r ∷ s ∷ []) c.requires.store.paged c.requires.fresh c.requires.within c.requires.around
    c.index_mut-page.ensures.value
    whole (c.split.ensures.lower_page, (c.split.ensures.upper_page, tt)) (
      c.split.ensures.lower_due
          ∙ c.put.ensures.due,
      (c.split.ensures.upper_due ∙ c.put.ensures.due, tt),
    ))

pub returns-then-is_over-clause-gains : goal.returns-then-is_over-clause-gains
returns-then-is_over-clause-gains c =
    let old = c.args.pages.now.items in
    let n = length c.args.pool.now.items in
    let m = length c.take_empty-upper.new.pool.items in
    let r = c.split.new.self in
    let s = c.split.new.upper in
    let more = length-set-insert old c.args.i r s c.requires.within in
    let count : length c.insert_at.new.items.items ≡ length old + 1 = ap length c.insert_at.ensures.items ∙ more in
    let taken : m + 1 ≡ n = c.take_empty-upper.ensures.len in
    let pages_capacity : deque_capacity c.args.pages.now ≤ deque_capacity c.insert_at.new.items = c.insert_at.ensures.capacity in
    let pool_capacity : vec_capacity c.take_empty-upper.new.pool ≡ vec_capacity c.args.pool.now = c.take_empty-upper.ensures.capacity in
    let pages_room = c.requires.store.room.pages_room in
    let pool_room = c.requires.store.room.pool_room in
    let full = full-page c in
    let long = c.put.ensures.len in
    let low : length (slots_of r) ≡ 32 =
    ap length c.split.ensures.lower ∙ length-take-le 32 (slots_of c.put.new.self) (omega arith) in
    let high : length (slots_of s) ≡ 33 =
    ap length c.split.ensures.upper ∙ length-drop 32 (slots_of c.put.new.self) ∙ omega arith in
    record {
      store = record {
        paged = (grown-two c).paged;
        empty = c.take_empty-upper.ensures.empty;
        room = record { pages_room = omega arith; pool_room = omega arith };
      };
      items = (grown-two c).items;
      spare = subst (λ (ps : List Page). spare_of old n ≤ spare_of ps m + 1) (sym (new-pages c))
          (spare-two old c.args.i c.index_mut-page.result.now r s n m c.requires.within c.index_mut-page.ensures.value full low high
          (sym taken));
    }

pub returns-then-is_over-clause-dues : goal.returns-then-is_over-clause-dues
returns-then-is_over-clause-dues c =
    grew-two c.args.pages.now.items c.insert_at.new.items.items c.args.i c.args.slot.commit c.index_mut-page.result.now
    c.split.new.self c.split.new.upper c.requires.within c.index_mut-page.ensures.value
    (c.split.ensures.lower_due ∙ c.put.ensures.due) (c.split.ensures.upper_due ∙ c.put.ensures.due) (new-pages c)

pub returns-else-is_over-clause-dues : goal.returns-else-is_over-clause-dues
returns-else-is_over-clause-dues c =
    grew-one c.args.pages.now.items c.args.i c.args.slot.commit c.index_mut-page.result.now c.put.new.self c.requires.within
    c.index_mut-page.ensures.value c.put.ensures.due

pub put-requires-clause-first : goal.put-requires-clause-first
put-requires-clause-first c =
    (page-at c.args.bytes.now c.args.pages.now.items c.args.i c.index_mut-page.result.now c.requires.store.paged.pages c.requires.within
    c.index_mut-page.ensures.value).first

pub put-requires-clause-slots : goal.put-requires-clause-slots
put-requires-clause-slots c =
    (page-at c.args.bytes.now c.args.pages.now.items c.args.i c.index_mut-page.result.now c.requires.store.paged.pages c.requires.within
    c.index_mut-page.ensures.value).slots
