use Rattle.std.proofs.Common.{◌≤◌, ◌<◌, ◌+◌}
use Rattle.std.specs.List.{AllByRecursion}
use Rattle.xc_measure.proofs.fill.Given as goal

abbrev pub invariant-loop-i : goal.invariant-loop-i
invariant-loop-i l = record {
  earlier : AllByRecursion (λ x. x.place < l.i) l.versions.items;
  room : l.n ≤ l.versions.spare + l.i;
}
