use Rattle.std.proofs.Common.{◌≡◌}
use Rattle.std.specs.List.{list_all}
use Rattle.xc_text.specs.Printed.{op_spelled}
use Rattle.xc_text.specs.declared.line.Version.TheVariants.{One}
use Rattle.xc_text.proofs.plain.ops_are_plain.Given as goal

abbrev pub invariant-loop-op : goal.invariant-loop-op
invariant-loop-op l = list_all (op_spelled One) l.op-iterator ≡ list_all (op_spelled One) l.ops
