use Rattle.std.proofs.Common.{◌≡◌, map, take}
use Rattle.xc_source.specs.Machine.{empty_tablet}
use Rattle.xc_source.proofs.tablets.empty_tablets.Given as goal

abbrev pub invariant-loop-header : goal.invariant-loop-header
invariant-loop-header l = l.tablets.items ≡ map empty_tablet (take l.header-index l.roots)
