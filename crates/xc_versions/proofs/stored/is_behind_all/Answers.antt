use Rattle.std.proofs.Common.{◌-◌, arith, ap, sym, ◌∙◌}
use Rattle.std.specs.Ordering.{is_gt}
use Rattle.xc_versions.specs.Stored.{stored_cmp}
use Rattle.xc_versions.specs.Slots.{seen}
use Rattle.xc_versions.specs.declared.stored.Slot.{Slot}
use Rattle.xc_versions.proofs.SplitLaws.{splits-whole}
use Rattle.xc_versions.proofs.SlotLaws.{slots-fall}
use Rattle.xc_versions.proofs.SplitLaws.{deque-long}
use Rattle.xc_versions.proofs.stored.is_behind_all.Goals as goal

pub returns-then-count-gt0 : goal.returns-then-count-gt0
returns-then-count-gt0 c t =
    let b = c.args.bytes.now in
    let v = seen b c.args.slot.now in
    let xs = c.args.items.now.items in
    splits-whole (λ x. is_gt (stored_cmp v (seen b x))) xs (c.len-count.result - 1) c.index.result.now
    (slots-fall b v xs c.requires.ordered)
    (let some = c.if-count-gt0.true in let count = c.len-count.ensures ∙ deque-long c.args.items.now in omega arith)
    (ap (λ (y : Slot). is_gt (stored_cmp v (seen b y))) (sym c.index.ensures) ∙ sym c.is_after.ensures ∙ t)
