use Rattle.std.proofs.Common.{arith, refl}
use Rattle.xc_source.specs.Calls.{next_begun}
use Rattle.xc_source.proofs.UniverseLaws.{universe-set, same-writes, same-stage}
use Rattle.xc_source.proofs.universe.SourceUniverse.savepoint.Goals as goal

pub invariant_of-self : goal.invariant_of-self
invariant_of-self c =
    universe-set _ _ c.args.txn 0 next_begun c.self.inside.txns _ c.begin_next.ensures.next same-writes (omega arith)
    (same-stage next_begun _ (λ t. refl)) c.self.invariant
