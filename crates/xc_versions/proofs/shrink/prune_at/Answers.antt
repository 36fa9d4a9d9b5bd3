use Rattle.std.proofs.Common.{◌≡◌, ◌+◌, ◌<◌, ◌≤◌, length, drop, sym, arith, refl}
use Rattle.std.proofs.lemmas.Grind.{common_steps}
use Rattle.xc_versions.specs.Stored.{pruned_before}
use Rattle.xc_versions.specs.Pages.{held, items_of, IsPage, slots_of, capacity_of}
use Rattle.xc_versions.proofs.AddLaws.{page-at}
use Rattle.xc_versions.proofs.SubLaws.{sub-pruned}
use Rattle.xc_versions.proofs.ShrinkLaws.{idle-from-next}
use Rattle.xc_versions.proofs.LossLaws.{loses-all, loses-some}
use Rattle.xc_versions.proofs.shrink.prune_at.Goals as goal

pub returns-then-is_empty : goal.returns-then-is_empty
returns-then-is_empty c =
    let b = c.args.bytes.now in
    let q = c.index_mut-page.result.now in
    let rest = items_of b (drop (c.args.i + 1) c.args.pages.now.items) in
    loses-all b c.args.pages.now _ c.args.pool.now _ c.args.i q c.prune-dead.new.self (pruned_before c.args.cutoff) c.requires.store
    c.requires.within c.index_mut-page.ensures.value (sub-pruned c.args.cutoff (held b q) rest)
    (c.prune-dead.ensures.items rest (sym c.first_from-next.ensures.version)) (grind (arith, common_steps)) c.free.ensures.pages
    c.free.ensures.empty c.free.ensures.len c.free.ensures.pages_capacity c.free.ensures.pool_capacity

pub returns-else-is_empty : goal.returns-else-is_empty
returns-else-is_empty c =
    let b = c.args.bytes.now in
    let q = c.index_mut-page.result.now in
    let r = c.prune-dead.new.self in
    let rest = items_of b (drop (c.args.i + 1) c.args.pages.now.items) in
    let head = sym c.first_from-next.ensures.version in
    let page = page-at b c.args.pages.now.items c.args.i q c.requires.store.paged.pages c.requires.within c.index_mut-page.ensures.value in
    let some : 0 < length (slots_of r) = grind (arith, common_steps) in
    let few = page.few in
    let shorter : length (slots_of r) ≤ length (slots_of q) = c.prune-dead.ensures.len in
    let room : 65 ≤ capacity_of r =
    let cap : capacity_of r ≡ capacity_of q = c.prune-dead.ensures.capacity in let was = page.room in omega arith in
    let is_page : IsPage b r = record {
      some = some;
      few = omega arith;
      room = room;
      slots = c.prune-dead.ensures.slots;
      first = c.prune-dead.ensures.first;
    } in
    loses-some b c.args.pages.now _ c.args.pool.now c.args.i q r (pruned_before c.args.cutoff) c.requires.store c.requires.within
    c.index_mut-page.ensures.value (sub-pruned c.args.cutoff (held b q) rest) (c.prune-dead.ensures.items rest head) is_page
    (λ o u l. idle-from-next u (held b r) rest o (c.prune-dead.ensures.idle u rest head l)) shorter refl refl

pub prune-dead-requires-clause-slots : goal.prune-dead-requires-clause-slots
prune-dead-requires-clause-slots c =
    (page-at c.args.bytes.now c.args.pages.now.items c.args.i c.index_mut-page.result.now c.requires.store.paged.pages c.requires.within
    c.index_mut-page.ensures.value).slots
