use Rattle.std.proofs.Common.{◌≡◌, ◌++◌, map, take, drop}
use Rattle.xc_source.specs.Waiting.{taken_write}
use Rattle.xc_source.proofs.transaction.Transaction.take.Given as goal

abbrev pub invariant-loop-i : goal.invariant-loop-i
invariant-loop-i l =
    (l.self-inside.writes.items ≡ map (taken_write l.header) (take l.i l.fn.self.writes) ++ drop l.i l.fn.self.writes)
    × (l.self-inside.current ≡ l.fn.self.current) × (l.self-inside.undone ≡ l.fn.self.undone) × (l.self-inside.stage ≡ l.fn.self.stage)
