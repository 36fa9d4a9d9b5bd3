use Rattle.std.proofs.Common.{◌≡◌, [], arith, sym, ◌∙◌, ap}
use Rattle.xc_record.specs.Subs.{numbers_in}
use Rattle.xc_record.proofs.SubsLaws.{none-is, first-is}
use Rattle.xc_record.proofs.subs.SubsIterIterator.next.Goals as goal

pub returns-then-self-eq0-clause-steps : goal.returns-then-self-eq0-clause-steps
returns-then-self-eq0-clause-steps c =
    let e : c.args.self.now ≡ [] = sym c.self.view_is ∙ (ap numbers_in c.if-self-eq0.true ∙ none-is) in (e, e)

pub returns-clause-steps : goal.returns-clause-steps
returns-clause-steps c = rw (← c.self.view_is) (first-is c.self.inside.bits (omega arith) c.self.invariant)

pub returns-clause-goes : goal.returns-clause-goes
returns-clause-goes c = let e = returns-clause-steps c in grind (arith, e)
