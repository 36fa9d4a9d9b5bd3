use Rattle.xc_agree.proofs.CommitLaws.{slot-read}
use Rattle.xc_agree.proofs.commits.Commits.is_at.Goals as goal

pub returns-in-Some : goal.returns-in-Some
returns-in-Some c =
    let found = rw c.deref.ensures.value at c.in-Some.ensures.lookup in
    rw (← c.self.view_is)
    (slot-read c.self.inside.items.items c.args.txn c.args.slot c.in-Some.commit.now c.self.invariant found.3.0 found.1)
