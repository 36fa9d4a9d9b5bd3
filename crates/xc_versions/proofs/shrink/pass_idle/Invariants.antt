use Rattle.std.proofs.Common.{ℕ, ◌<◌, ◌≤◌, get_or}
use Rattle.xc_versions.specs.Dues.{dues_of}
use Rattle.xc_versions.proofs.shrink.pass_idle.Given as goal

abbrev pub invariant-loop-i : goal.invariant-loop-i
invariant-loop-i l = record {
  from : l.first ≤ l.i;
  to : l.i ≤ l.end;
  idle : (k : ℕ) → l.i ≤ k → k < l.end → l.cutoff < get_or (dues_of l.pages.items) k 0;
  lower : l.least ≤ l.initial.due;
  due : (k : ℕ) → l.i ≤ k → k < l.end → l.least ≤ get_or (dues_of l.pages.items) k 0;
}

abbrev pub decreases-loop-i : goal.decreases-loop-i
decreases-loop-i l = l.i
