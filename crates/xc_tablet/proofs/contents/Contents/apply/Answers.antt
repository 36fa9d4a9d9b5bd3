use Rattle.std.proofs.Common.{ap, refl, rules, sym, ◌∙◌}
use Rattle.std.specs.List.{find}
use Rattle.xc_intents.specs.HeldOps.{is_part, is_sought}
use Rattle.xc_tablet.proofs.ApplyLaws.{alike-applied, alike-same, alike-then}
use Rattle.xc_tablet.proofs.contents.Contents.apply.Goals as goal

pub returns-then-not-begin-clause-changes : goal.returns-then-not-begin-clause-changes
returns-then-not-begin-clause-changes c =
    let s = c.args.self.now in
    let none = c.begin.ensures.none (search rules) in
    alike-applied c.args.txn c.args.commit c.args.without.now c.args.lo c.args.hi s _
    (alike-same c.args.txn c.args.commit c.args.without.now c.args.lo c.args.hi s _ c.requires.is refl c.begin.ensures.same)
    (ap (find (is_part c.args.txn c.args.lo c.args.hi)) c.begin.ensures.same ∙ none)

pub returns-clause-changes : goal.returns-clause-changes
returns-clause-changes c =
    let s = c.args.self.now in
    let begun = record s { held = c.begin.new.self } in
    let left = c.apply_next.ensures.left c.args.lo c.args.hi c.loop.invariant.sought in
    alike-applied c.args.txn c.args.commit c.args.without.now c.args.lo c.args.hi s c.apply_next.new.self
    (alike-then c.args.txn c.args.commit c.args.without.now c.args.lo c.args.hi s begun c.apply_next.new.self
    (alike-same c.args.txn c.args.commit c.args.without.now c.args.lo c.args.hi s begun c.requires.is refl c.begin.ensures.same)
    (alike-then c.args.txn c.args.commit c.args.without.now c.args.lo c.args.hi begun c.loop.self c.apply_next.new.self
    c.loop.invariant.alike left))
    (ap (λ o. find (is_sought o) c.apply_next.new.self.held.held)
    (sym c.loop.invariant.sought ∙ sym c.apply_next.ensures.sought)
    ∙ c.apply_next.ensures.done c.loop-test.false)
