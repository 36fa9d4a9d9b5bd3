use Rattle.std.proofs.Common.{◌<◌, ◌++◌, ◌∙◌, length, append-nil, sym, subst, ap, arith}
use Rattle.xc_source.specs.Machine.{Machine}
use Rattle.xc_source.proofs.PendingLaws.{pending-past}
use Rattle.xc_source.proofs.universe.SourceUniverse.add_pending_at.Goals as goal

pub returns-then-txn-len : goal.returns-then-txn-len
returns-then-txn-len c =
    let inside : length c.self.inside.txns < c.args.txn = omega arith in
    let beyond : length c.args.self.now.txns < c.args.txn = subst (λ (m : Machine). length m.txns < c.args.txn) c.self.view_is inside in
    sym (append-nil c.args.pairs.now.items) ∙ ap (λ ps. c.args.pairs.now.items ++ ps) (sym (pending-past c.args.self.now c.args.txn beyond))
