use Rattle.std.proofs.Common.{◌≡◌, ◌+◌, ◌≤◌, ◌++◌, length, deque_capacity}
use Rattle.xc_versions.proofs.queue.move_behind.Given as goal

abbrev pub invariant-loop-items : goal.invariant-loop-items
invariant-loop-items g l = record {
  whole : l.items.items ++ l.upper.items ≡ l.initial.items.items;
  count : length l.items.items + length l.upper.items ≡ length l.initial.items.items;
  within : l.count ≤ length l.items.items;
  lower_capacity : deque_capacity l.items ≡ deque_capacity l.initial.items;
  upper_capacity : deque_capacity l.upper ≡ deque_capacity l.initial.upper;
}

abbrev pub decreases-loop-items : goal.decreases-loop-items
decreases-loop-items g l = length l.items.items
