use Rattle.std.proofs.Common.{◌≡◌, map, filter, take, not}
use Rattle.xc_record.specs.Lists.{has}
use Rattle.xc_source.proofs.transaction.Transaction.kept_ops.Given as goal

abbrev pub invariant-loop-write : goal.invariant-loop-write
invariant-loop-write l = l.room ≡ map (λ w. w.op) (filter (λ w. not (has w.sub l.self.undone)) (take l.write-index l.self.writes))
