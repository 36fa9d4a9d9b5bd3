use Rattle.std.proofs.Common.{◌<◌, length, arith, sym, ap, subst}
use Rattle.xc_source.specs.Machine.{Transaction, commit_of}
use Rattle.xc_source.proofs.WaitingLaws.{waits_on_wrote}
use Rattle.xc_source.proofs.transaction.Transaction.bound.Goals as goal

pub returns-in-Committed-clause-time : goal.returns-in-Committed-clause-time
returns-in-Committed-clause-time c =
    let wrote = waits_on_wrote c.args.header.now c.args.self.now (sym (c.if-not-waits_on.ensures)) in
    let inside : 0 < length c.self.inside.writes.items = subst (λ (t : Transaction). 0 < length t.writes) (sym c.self.view_is) wrote in
    let late = c.self.invariant.late c.in-Committed.commit (ap commit_of c.in-Committed.is) inside in
    omega (arith, late, c.get.ensures.value)
