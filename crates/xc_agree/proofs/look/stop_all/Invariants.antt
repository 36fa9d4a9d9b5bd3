use Rattle.std.proofs.Common.{◌≡◌, ℕ, take, length, None}
use Rattle.std.specs.Prelude.{if◌then◌else◌}
use Rattle.xc_agree.specs.Seen.{waits_at, is_slot_of}
use Rattle.xc_agree.proofs.look.stop_all.Given as goal

abbrev pub invariant-loop-waiter : goal.invariant-loop-waiter
invariant-loop-waiter l = record {
  since : (i : ℕ)
      → waits_at l.waiting.items i ≡ (if is_slot_of i (take l.waiter-index l.waiters) then None else waits_at l.initial.waiting.items i);
  len : length l.waiting.items ≡ length l.initial.waiting.items;
}
