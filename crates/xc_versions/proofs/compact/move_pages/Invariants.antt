use Rattle.std.proofs.Common.{◌≡◌, ◌≤◌, vec_capacity, deque_capacity}
use Rattle.xc_versions.proofs.CompactLaws.{MovingPages}
use Rattle.xc_versions.proofs.compact.move_pages.Given as goal

abbrev pub invariant-loop-i : goal.invariant-loop-i
invariant-loop-i l = record {
  moving : MovingPages l.bytes l.initial.pages.items l.to.items l.pages.items l.i;
  to_capacity : vec_capacity l.initial.to ≤ vec_capacity l.to;
  capacity : deque_capacity l.pages ≡ deque_capacity l.initial.pages;
}
