use Rattle.std.proofs.Common.{◌-◌, ◌≤◌, length}
use Rattle.xc_text.proofs.NumberLaws.{IsLeading}
use Rattle.xc_text.proofs.cut.leading_digits.Given as goal

abbrev pub invariant-loop-len : goal.invariant-loop-len
invariant-loop-len l = IsLeading l.value l.len l.bytes × (l.len ≤ 19)

abbrev pub decreases-loop-len : goal.decreases-loop-len
decreases-loop-len l = length l.bytes - l.len
