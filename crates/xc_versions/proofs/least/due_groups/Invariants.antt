use Rattle.std.proofs.Common.{ℕ, ◌<◌, ◌≤◌, get_or}
use Rattle.xc_versions.proofs.least.due_groups.Given as goal

abbrev pub invariant-loop-left : goal.invariant-loop-left
invariant-loop-left l = record {
  to : l.left ≤ l.groups;
  idle : (k : ℕ) → l.left ≤ k → k < l.groups → l.cutoff < get_or l.least k 0;
}

abbrev pub decreases-loop-left : goal.decreases-loop-left
decreases-loop-left l = l.left
