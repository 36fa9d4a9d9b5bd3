use Rattle.std.proofs.Common.{◌-◌, length}
use Rattle.xc_versions.specs.Dues.{NotAbove}
use Rattle.xc_versions.proofs.least.fill.Given as goal

abbrev pub invariant-loop-least : goal.invariant-loop-least
invariant-loop-least l = NotAbove l.initial.least.items l.least.items

abbrev pub decreases-loop-least : goal.decreases-loop-least
decreases-loop-least l = l.groups - length l.least.items
