use Rattle.std.proofs.Common.{◌≤◌, ◌+◌}
use Rattle.xc_measure.proofs.hold.Given as goal

abbrev pub invariant-loop-i : goal.invariant-loop-i
invariant-loop-i l = record {
  room : l.n ≤ l.held.spare + l.i;
}
