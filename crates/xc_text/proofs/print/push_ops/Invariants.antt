use Rattle.std.proofs.Common.{◌≡◌, ◌++◌, map}
use Rattle.xc_text.specs.Printed.{spaced, op_word}
use Rattle.xc_text.proofs.print.push_ops.Given as goal

abbrev pub invariant-loop-op : goal.invariant-loop-op
invariant-loop-op l = l.out ++ spaced (map (op_word l.version) l.op-iterator) ≡ l.fn.out ++ spaced (map (op_word l.version) l.ops)
