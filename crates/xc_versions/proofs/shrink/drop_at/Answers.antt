use Rattle.std.proofs.Common.{◌≡◌, ℕ, ◌+◌, ◌<◌, ◌≤◌, List, ◌++◌, length, drop, map, ap, sym, subst, ◌∙◌, arith, refl}
use Rattle.std.specs.Prelude.{nat_le, filter}
use Rattle.std.proofs.lemmas.Grind.{common_steps}
use Rattle.xc_versions.specs.declared.stored.StoredVersion.{StoredVersion}
use Rattle.xc_versions.specs.declared.page.Page.{Page}
use Rattle.xc_versions.specs.Stored.{up_to}
use Rattle.xc_record.proofs.ListLaws.{Each}
use Rattle.xc_versions.specs.declared.stored.Slot.{Slot}
use Rattle.xc_versions.specs.Slots.{seen}
use Rattle.xc_versions.specs.Heads.{IsSlot}
use Rattle.xc_versions.proofs.SlotLaws.{map-filter, each-filtered}
use Rattle.xc_versions.specs.Pages.{held, items_of, IsPage, Idle, slots_of, capacity_of}
use Rattle.xc_versions.proofs.AddLaws.{page-at}
use Rattle.xc_versions.proofs.SubLaws.{Sub, sub-filter, sub-behind, idle-sub}
use Rattle.xc_versions.proofs.ShrinkLaws.{idle-at, length-kept}
use Rattle.xc_versions.proofs.LossLaws.{loses-all, loses-some}
use Rattle.xc_versions.proofs.shrink.drop_at.Goals as goal

-- what is held by a page that the late versions left
kept : (b : List ℕ) (t : ℕ) (q r : Page) → slots_of r ≡ filter (λ x. nat_le x.commit t) (slots_of q) → held b r ≡ up_to t (held b q)
kept b t q r e = ap (map (seen b)) e ∙ map-filter (seen b) (λ x. nat_le x.commit t) (slots_of q)

part : (b : List ℕ) (t : ℕ) (q : Page) (rest : List StoredVersion) → Sub (up_to t (held b q) ++ rest) (held b q ++ rest)
part b t q rest = sub-behind (up_to t (held b q)) (held b q) rest (sub-filter (λ x. nat_le x.commit t) (held b q))

pub returns-then-is_empty : goal.returns-then-is_empty
returns-then-is_empty c =
    let b = c.args.bytes.now in
    let q = c.index_mut-page.result.now in
    let r = c.drop_later.new.self in
    let rest = items_of b (drop (c.args.i + 1) c.args.pages.now.items) in
    loses-all b c.args.pages.now _ c.args.pool.now _ c.args.i q r (λ xs rest. up_to c.args.t xs ++ rest) c.requires.store c.requires.within
    c.index_mut-page.ensures.value (part b c.args.t q rest) (ap (λ w. w ++ rest) (kept b c.args.t q r c.drop_later.ensures.items))
    (grind (arith, common_steps)) c.free.ensures.pages c.free.ensures.empty c.free.ensures.len c.free.ensures.pages_capacity
    c.free.ensures.pool_capacity

pub returns-else-is_empty : goal.returns-else-is_empty
returns-else-is_empty c =
    let b = c.args.bytes.now in
    let t = c.args.t in
    let old = c.args.pages.now.items in
    let q = c.index_mut-page.result.now in
    let r = c.drop_later.new.self in
    let rest = items_of b (drop (c.args.i + 1) old) in
    let left = kept b t q r c.drop_later.ensures.items in
    let was = page-at b old c.args.i q c.requires.store.paged.pages c.requires.within c.index_mut-page.ensures.value in
    let some : 0 < length (slots_of r) = grind (arith, common_steps) in
    let few = was.few in
    let fewer : length (slots_of r) ≤ length (slots_of q) =
    rw c.drop_later.ensures.items (length-kept (λ (x : Slot). nat_le x.commit t) (slots_of q)) in
    let room = was.room in
    let same : capacity_of r ≡ capacity_of q = c.drop_later.ensures.capacity in
    let is_page : IsPage b r = record {
      some = some;
      few = omega arith;
      room = omega arith;
      slots = subst (λ (xs : List Slot). Each (IsSlot b) xs) (sym c.drop_later.ensures.items)
          (each-filtered (IsSlot b) (λ x. nat_le x.commit t) (slots_of q) was.slots);
      first = c.drop_later.ensures.first;
    } in
    loses-some b c.args.pages.now _ c.args.pool.now c.args.i q r (λ xs rest. up_to t xs ++ rest) c.requires.store c.requires.within
    c.index_mut-page.ensures.value (part b t q rest) (ap (λ w. w ++ rest) left) is_page
    (λ o u l. subst (λ (w : List StoredVersion). Idle u w rest) (sym left)
    (idle-sub u (up_to t (held b q)) (held b q) rest (sub-filter (λ x. nat_le x.commit t) (held b q))
    (idle-at b old c.args.i q c.requires.store.paged c.requires.within c.index_mut-page.ensures.value u
    (subst (λ (n : ℕ). u < n) c.drop_later.ensures.due l)))) fewer refl refl
