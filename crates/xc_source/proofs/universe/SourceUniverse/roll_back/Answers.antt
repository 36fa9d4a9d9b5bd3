use Rattle.std.proofs.Common.{arith, refl}
use Rattle.xc_source.specs.Machine.{Transaction}
use Rattle.xc_source.specs.Calls.{next_begun, undone_from}
use Rattle.xc_source.proofs.UniverseLaws.{universe-set, same-writes, same-stage}
use Rattle.xc_source.proofs.universe.SourceUniverse.roll_back.Goals as goal

pub invariant_of-self : goal.invariant_of-self
invariant_of-self c =
    universe-set _ _ c.args.txn 0 (λ (t : Transaction). next_begun (undone_from c.args.sub t)) c.self.inside.txns _ c.roll_back.ensures.next
    same-writes (omega arith) (same-stage (λ (t : Transaction). next_begun (undone_from c.args.sub t)) _ (λ t. refl)) c.self.invariant
