use Rattle.std.proofs.Common.{◌≡◌, ℕ, ◌+◌, ◌<◌, ◌≤◌, List, ◌++◌, length, get_or, set, ap, sym, subst, refl, arith}
use Rattle.std.proofs.lemmas.List.{length-map}
use Rattle.xc_record.proofs.ListLaws.{Each}
use Rattle.xc_versions.specs.declared.page.Page.{Page}
use Rattle.xc_versions.specs.declared.page.PageBody.{PageBody}
use Rattle.xc_versions.specs.Slots.{seen, bytes_of}
use Rattle.xc_versions.specs.Pages.{live_of, IsPage, held, slots_of, capacity_of}
use Rattle.xc_versions.proofs.AddLaws.{page-at, vec-long}
use Rattle.xc_versions.proofs.SplitLaws.{deque-long}
use Rattle.xc_versions.proofs.MoveLaws.{alike-items, alike-paged}
use Rattle.xc_versions.proofs.CompactLaws.{MovingPages, MovedPages, MovesPage, moving_pages-more, moving_pages-done, still-old, live-within}
use Rattle.xc_versions.proofs.CompactLaws.{spare-same}
use Rattle.xc_versions.proofs.compact.move_pages.Goals as goal
use Rattle.xc_versions.proofs.compact.move_pages.Goals.{After-loop-i}

-- the next page is one of the old ones, and its bytes fit
record Next (b : List ℕ) (old : List Page) (to : List ℕ) (p : Page) : Type 0 where
  good : IsPage b p
  fits : length to + length (bytes_of b (slots_of p)) ≤ length (live_of b old)

next : (b : List ℕ) (old : List Page) (to : List ℕ) (pages : List Page) (i : ℕ) (p : Page) → Each (IsPage b) old
    → MovingPages b old to pages i → i < length old → p ≡ get_or pages i p → Next b old to p
next b old to pages i p g m h e =
    let long = m.long in
    let is_old = still-old old pages i p m.rest (omega arith) h e in
    let is = ap length m.to_is in
    let within = live-within b old i p h is_old in
    record { good = page-at b old i p g h is_old; fits = omega arith }

pub move_page-requires-clause-slots : goal.move_page-requires-clause-slots
move_page-requires-clause-slots c =
    let count = deque-long c.args.pages.now in
    let end = c.len-i-end.ensures in
    let below = c.loop-i-test.true in
    rw c.deref_mut-body.ensures.value
    (next c.args.bytes.now c.args.pages.now.items c.loop-i.to.items c.loop-i.pages.items c.loop-i.i c.index_mut-page.result.now
    c.requires.store.paged.pages c.loop-i.invariant.moving (omega arith) c.index_mut-page.ensures.value).good.slots

pub move_page-requires-clause-room : goal.move_page-requires-clause-room
move_page-requires-clause-room c =
    let count = deque-long c.args.pages.now in
    let end = c.len-i-end.ensures in
    let below = c.loop-i-test.true in
    let fits = (next c.args.bytes.now c.args.pages.now.items c.loop-i.to.items c.loop-i.pages.items c.loop-i.i c.index_mut-page.result.now
    c.requires.store.paged.pages c.loop-i.invariant.moving (omega arith) c.index_mut-page.ensures.value).fits in
    let long = vec-long c.loop-i.to in
    let room = c.requires.room in
    let had = c.loop-i.invariant.to_capacity in
    rw c.deref_mut-body.ensures.value (omega arith)

pub loop-i-preserved : goal.loop-i-preserved
loop-i-preserved c =
    let b = c.args.bytes.now in
    let old = c.args.pages.now.items in
    let pages = c.loop-i.pages.items in
    let i = c.loop-i.i in
    let p = c.index_mut-page.result.now in
    let d = c.deref_mut-body.result.now in
    let is : d ≡ p.body.value = c.deref_mut-body.ensures.value in
    let moved : PageBody = record d { items = c.move_page.new.items; first = c.first_or-body.result } in
    let q : Page = record p { body = record p.body { value = moved } } in
    let m = c.loop-i.invariant.moving in
    let long = m.long in
    let count = deque-long c.args.pages.now in
    let end = c.len-i-end.ensures in
    let below = c.loop-i-test.true in
    let within : i < length pages = omega arith in
    let was = (next b old c.loop-i.to.items pages i p c.requires.store.paged.pages m (omega arith) c.index_mut-page.ensures.value).good in
    let alike : held c.move_page.new.to.items q ≡ held b p = rw is at c.move_page.ensures.held in
    let same = ap length alike in
    let mine = length-map (slots_of q) (seen c.move_page.new.to.items) in
    let theirs = length-map (slots_of p) (seen b) in
    let some = was.some in
    let few = was.few in
    let room = was.room in
    let cap : capacity_of q ≡ capacity_of p = rw is at c.move_page.ensures.capacity in
    let one : MovesPage b p c.move_page.new.to.items q = record {
      alike = alike;
      due = refl;
      good = record {
        some = omega arith;
        few = omega arith;
        room = omega arith;
        slots = c.move_page.ensures.slots;
        first = c.first_or-body.ensures.first;
      };
    } in
    let to : c.move_page.new.to.items ≡ c.loop-i.to.items ++ bytes_of b (slots_of p) = rw is at c.move_page.ensures.to in
    let had = c.loop-i.invariant.to_capacity in
    let grew = c.move_page.ensures.to_capacity in
    record {
      moving = subst (λ (w : List ℕ). MovingPages b old w (set pages i q) (i + 1)) (sym to)
          (moving_pages-more b old c.loop-i.to.items pages i p q m within c.index_mut-page.ensures.value
          (subst (λ (w : List ℕ). MovesPage b p w q) to one));
      to_capacity = omega arith;
      capacity = c.loop-i.invariant.capacity;
    }

-- all pages are moved
all-moved : (c : After-loop-i) → MovedPages c.args.bytes.now c.args.pages.now.items c.loop-i.to.items c.loop-i.pages.items
all-moved c =
    let count = deque-long c.args.pages.now in
    let end = c.len-i-end.ensures in
    let past = c.loop-i-test.false in
    moving_pages-done c.args.bytes.now c.args.pages.now.items c.loop-i.to.items c.loop-i.pages.items c.loop-i.i c.loop-i.invariant.moving
    (omega arith)

pub returns-clause-store : goal.returns-clause-store
returns-clause-store c =
    let done = all-moved c in
    let long = done.long in
    let capacity = c.loop-i.invariant.capacity in
    let pages_room = c.requires.store.room.pages_room in
    let pool_room = c.requires.store.room.pool_room in
    record {
      paged = alike-paged c.args.bytes.now c.args.pages.now.items c.loop-i.to.items c.loop-i.pages.items _ done.alike done.good
          c.requires.store.paged;
      empty = c.requires.store.empty;
      room = record { pages_room = omega arith; pool_room = omega arith };
    }

pub returns-clause-items : goal.returns-clause-items
returns-clause-items c =
    alike-items c.args.bytes.now c.args.pages.now.items c.loop-i.to.items c.loop-i.pages.items (all-moved c).alike

pub returns-clause-spare : goal.returns-clause-spare
returns-clause-spare c =
    spare-same c.args.pages.now.items c.loop-i.pages.items (length c.args.pool.now.items) (all-moved c).load

pub returns-clause-dues : goal.returns-clause-dues
returns-clause-dues c = (all-moved c).dues
