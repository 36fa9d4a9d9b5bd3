use Rattle.std.proofs.Common.{ap, sym, ◌∙◌, arith}
use Rattle.xc_versions.specs.Stored.{reaches}
use Rattle.xc_versions.specs.Slots.{seen}
use Rattle.xc_versions.specs.declared.stored.Slot.{Slot}
use Rattle.xc_versions.proofs.SplitLaws.{narrows-front, narrows-back}
use Rattle.xc_versions.proofs.SlotLaws.{slots-reach}
use Rattle.xc_versions.proofs.stored.reached.Goals as goal

pub loop-low-preserved-then-reaches : goal.loop-low-preserved-then-reaches
loop-low-preserved-then-reaches c =
    let b = c.args.bytes.now in
    let k = c.args.key.now in
    narrows-front _ _ _ _ c.loop-low.invariant (slots-reach b k c.args.t c.args.items.now.items c.requires.ordered) _ c.index.result.now
    (omega arith)
    (sym (c.if-reaches.ensures ∙ ap (λ (y : Slot). reaches k c.args.t (seen b y)) c.index.ensures))

pub loop-low-preserved : goal.loop-low-preserved
loop-low-preserved c =
    let b = c.args.bytes.now in
    let k = c.args.key.now in
    narrows-back _ _ _ _ c.loop-low.invariant (slots-reach b k c.args.t c.args.items.now.items c.requires.ordered) _ c.index.result.now
    (omega arith) (omega arith)
    (sym (c.if-reaches.ensures ∙ ap (λ (y : Slot). reaches k c.args.t (seen b y)) c.index.ensures))
