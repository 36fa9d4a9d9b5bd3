use Rattle.std.proofs.Common.{◌∙◌, subst, sym, ap, List}
use Rattle.xc_versions.specs.declared.page.PageBody.{PageBody}
use Rattle.xc_versions.specs.declared.stored.Slot.{Slot}
use Rattle.xc_versions.specs.Slots.{seen}
use Rattle.xc_versions.specs.Heads.{IsSlot}
use Rattle.std.specs.Ordering.{is_gt}
use Rattle.xc_versions.specs.Stored.{stored_cmp, with_version}
use Rattle.xc_record.proofs.ListLaws.{Each}
use Rattle.xc_versions.proofs.SplitLaws.{insert-with}
use Rattle.xc_versions.proofs.SlotLaws.{splits-map, map-insert, each-inserted}
use Rattle.std.specs.Prelude.{map}
use Rattle.xc_versions.proofs.page.Page.put.Goals as goal

pub returns-clause-items : goal.returns-clause-items
returns-clause-items c =
    let b = c.args.bytes.now in
    let v = seen b c.args.slot in
    let xs = c.deref_mut-body.result.now.items.items in
    let n = c.place_of-at.result in
    ap (map (seen b)) c.insert_at.ensures.items ∙ map-insert (seen b) xs n c.args.slot
    ∙ insert-with v n (map (seen b) xs) (splits-map (seen b) (λ x. is_gt (stored_cmp v x)) n xs c.place_of-at.ensures)
    ∙ ap (λ (m : PageBody). with_version v (map (seen b) m.items.items)) c.deref_mut-body.ensures.value

pub returns-clause-slots : goal.returns-clause-slots
returns-clause-slots c =
    let b = c.args.bytes.now in
    subst (λ (xs : List Slot). Each (IsSlot b) xs) (sym {A = List Slot} c.insert_at.ensures.items)
    (each-inserted (IsSlot b) c.deref_mut-body.result.now.items.items c.place_of-at.result c.args.slot
    (rw c.deref_mut-body.ensures.value c.requires.slots)
    c.requires.slot)
