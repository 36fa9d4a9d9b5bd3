use Rattle.std.proofs.Common.{◌∙◌}
use Rattle.xc_versions.specs.Stored.{reaches}
use Rattle.xc_versions.proofs.PageLaws.{first-held, first-slot}
use Rattle.xc_versions.proofs.page.begins_reaching.Goals as goal

pub reaches-requires-clause-slot : goal.reaches-requires-clause-slot
reaches-requires-clause-slot c = rw c.deref.ensures (first-slot c.args.bytes.now c.args.page.now c.requires.page)

pub returns : goal.returns
returns c =
    rw c.deref.ensures at c.reaches.ensures
    ∙ first-held c.args.bytes.now (reaches c.args.key.now c.args.t) c.args.page.now c.requires.page
