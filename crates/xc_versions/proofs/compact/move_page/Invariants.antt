use Rattle.std.proofs.Common.{◌≡◌, ◌≤◌, vec_capacity, deque_capacity}
use Rattle.xc_versions.proofs.CompactLaws.{Moving}
use Rattle.xc_versions.proofs.compact.move_page.Given as goal

abbrev pub invariant-loop-i : goal.invariant-loop-i
invariant-loop-i l = record {
  moving : Moving l.bytes l.initial.to.items l.initial.items.items l.to.items l.items.items l.i;
  to_capacity : vec_capacity l.initial.to ≤ vec_capacity l.to;
  capacity : deque_capacity l.items ≡ deque_capacity l.initial.items;
}
