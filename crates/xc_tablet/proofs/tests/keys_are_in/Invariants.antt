use Rattle.std.proofs.Common.{◌≡◌}
use Rattle.std.specs.List.{list_all}
use Rattle.xc_record.specs.Hash.{hash_of, holds}
use Rattle.xc_tablet.proofs.tests.keys_are_in.Given as goal

abbrev pub invariant-loop-op : goal.invariant-loop-op
invariant-loop-op l =
    list_all (λ op. holds l.header (hash_of op.key)) l.op-iterator ≡ list_all (λ op. holds l.header (hash_of op.key)) l.ops
