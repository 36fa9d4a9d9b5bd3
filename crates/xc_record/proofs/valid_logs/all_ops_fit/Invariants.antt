use Rattle.std.proofs.Common.{◌≡◌}
use Rattle.std.specs.List.{list_all}
use Rattle.xc_record.specs.Valid.{op_fits}
use Rattle.xc_record.proofs.valid_logs.all_ops_fit.Given as goal

abbrev pub invariant-loop-op : goal.invariant-loop-op
invariant-loop-op l = list_all (op_fits l.header) l.op-iterator ≡ list_all (op_fits l.header) l.ops
