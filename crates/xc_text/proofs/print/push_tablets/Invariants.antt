use Rattle.std.proofs.Common.{◌≡◌, ◌++◌, drop, flat_map}
use Rattle.xc_text.specs.Printed.{records_text}
use Rattle.xc_text.proofs.print.push_tablets.Given as goal

abbrev pub invariant-loop-tablet : goal.invariant-loop-tablet
invariant-loop-tablet l =
    l.out ++ flat_map (records_text l.version) (drop l.tablet-index l.tablets) ≡ l.fn.out ++ flat_map (records_text l.version) l.tablets
