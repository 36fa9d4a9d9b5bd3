use Rattle.std.proofs.Common.{◌≡◌, ◌≤◌, ◌+◌, length}
use Rattle.std.specs.List.{AllByRecursion}
use Rattle.xc_versions.proofs.tests.rising.Given as goal

abbrev pub invariant-loop-key : goal.invariant-loop-key
invariant-loop-key l = record {
  count : l.commit ≡ l.key-index;
  earlier : AllByRecursion (λ x. x.commit ≤ l.key-index) l.versions.items;
  room : length l.list ≤ l.versions.spare + l.key-index;
}
