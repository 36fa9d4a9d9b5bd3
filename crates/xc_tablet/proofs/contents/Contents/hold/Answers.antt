use Rattle.std.proofs.Common.{refl, sym, ◌∙◌}
use Rattle.xc_tablet.proofs.ContentsLaws.{hold-inside, outside}
use Rattle.xc_record.specs.Path.{Hold}
use Rattle.xc_tablet.proofs.contents.Contents.hold.Goals as goal

pub returns-then-has-clause-changes : goal.returns-then-has-clause-changes
returns-then-has-clause-changes c = λ time.
    let s = c.args.self.now in
    hold-inside s _ c.args.txn c.args.sub time c.args.op.now c.requires.is (sym c.has.ensures ∙ c.if-has.true) refl
    c.hold.ensures.held

pub returns-else-has-clause-changes : goal.returns-else-has-clause-changes
returns-else-has-clause-changes c =
    λ time. outside (Hold c.args.txn c.args.sub time) c.args.self.now c.args.op.now c.requires.is (sym c.has.ensures ∙ c.if-has.false)
