use Rattle.std.proofs.Common.{◌≡◌, ◌++◌, map, decimal}
use Rattle.xc_text.specs.Printed.{spaced}
use Rattle.xc_text.proofs.print.push_subs.Given as goal

abbrev pub invariant-loop-sub : goal.invariant-loop-sub
invariant-loop-sub l = l.out ++ spaced (map decimal l.sub-iterator) ≡ l.fn.out ++ spaced (map decimal l.subs)
