use Rattle.std.proofs.Common.{◌≡◌, ◌++◌}
use Rattle.std.specs.List.{flat_map}
use Rattle.xc_source.specs.Waiting.{pending_at}
use Rattle.xc_source.proofs.universe.SourceUniverse.pending_by.Given as goal

abbrev pub invariant-loop-txn : goal.invariant-loop-txn
invariant-loop-txn l =
    l.pairs.items ++ flat_map (pending_at l.self) l.txn-iterator ≡ flat_map (pending_at l.self) l.initial.txn-iterator
