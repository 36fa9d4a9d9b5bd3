use Rattle.std.proofs.Common.{◌-◌}
use Rattle.xc_versions.specs.Stored.{reaches}
use Rattle.xc_versions.specs.Slots.{seen}
use Rattle.xc_versions.proofs.SplitLaws.{Narrows}
use Rattle.xc_versions.proofs.stored.reached.Given as goal

abbrev pub invariant-loop-low : goal.invariant-loop-low
invariant-loop-low l = Narrows (λ x. reaches l.key l.t (seen l.bytes x)) l.low l.high l.items.items

abbrev pub decreases-loop-low : goal.decreases-loop-low
decreases-loop-low l = l.high - l.low
