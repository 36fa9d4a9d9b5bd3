use Rattle.std.proofs.Common.{◌∙◌}
use Rattle.std.specs.Ordering.{is_gt}
use Rattle.xc_versions.specs.Stored.{stored_cmp}
use Rattle.xc_versions.specs.Slots.{seen}
use Rattle.xc_versions.proofs.PageLaws.{first-held, first-slot}
use Rattle.xc_versions.proofs.page.begins_before.Goals as goal

pub is_after-requires-clause-other : goal.is_after-requires-clause-other
is_after-requires-clause-other c = rw c.deref.ensures (first-slot c.args.bytes.now c.args.page.now c.requires.page)

pub returns : goal.returns
returns c =
    let b = c.args.bytes.now in
    rw c.deref.ensures at c.is_after.ensures
    ∙ first-held b (λ x. is_gt (stored_cmp (seen b c.args.slot.now) x)) c.args.page.now c.requires.page
