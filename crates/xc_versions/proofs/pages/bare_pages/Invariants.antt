use Rattle.std.proofs.Common.{◌≡◌, ◌≤◌, length, vec_capacity}
use Rattle.xc_versions.proofs.pages.bare_pages.Given as goal

abbrev pub invariant-loop-made : goal.invariant-loop-made
invariant-loop-made l = record {
  count : length l.pages.items ≡ l._made;
  room : l.count ≤ vec_capacity l.pages;
}
