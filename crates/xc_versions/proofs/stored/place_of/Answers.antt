use Rattle.std.proofs.Common.{ap, sym, ◌∙◌, arith}
use Rattle.std.specs.Ordering.{is_gt}
use Rattle.xc_versions.specs.Stored.{stored_cmp}
use Rattle.xc_versions.specs.Slots.{seen}
use Rattle.xc_versions.specs.declared.stored.Slot.{Slot}
use Rattle.xc_versions.proofs.SplitLaws.{narrows-front, narrows-back, narrows-done}
use Rattle.xc_versions.proofs.SlotLaws.{slots-fall}
use Rattle.xc_versions.proofs.stored.place_of.Goals as goal

pub loop-low-preserved-then-is_after : goal.loop-low-preserved-then-is_after
loop-low-preserved-then-is_after c =
    let b = c.args.bytes.now in
    let v = seen b c.args.slot.now in
    narrows-front _ _ _ _ c.loop-low.invariant (slots-fall b v c.args.items.now.items c.requires.ordered) _ c.index.result.now (omega arith)
    (sym (c.if-is_after.ensures ∙ ap (λ (y : Slot). is_gt (stored_cmp v (seen b y))) c.index.ensures))

pub loop-low-preserved : goal.loop-low-preserved
loop-low-preserved c =
    let b = c.args.bytes.now in
    let v = seen b c.args.slot.now in
    narrows-back _ _ _ _ c.loop-low.invariant (slots-fall b v c.args.items.now.items c.requires.ordered) _ c.index.result.now (omega arith)
    (omega arith)
    (sym (c.if-is_after.ensures ∙ ap (λ (y : Slot). is_gt (stored_cmp v (seen b y))) c.index.ensures))

pub returns : goal.returns
returns c = narrows-done _ _ _ _ c.loop-low.invariant (omega arith)
