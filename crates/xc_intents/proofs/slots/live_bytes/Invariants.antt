use Rattle.std.proofs.Common.{◌≡◌, ◌+◌, drop, filter}
use Rattle.xc_intents.specs.Slots.{size_of, is_live}
use Rattle.xc_intents.proofs.slots.live_bytes.Given as goal

abbrev pub invariant-loop-i : goal.invariant-loop-i
invariant-loop-i l = l.live + size_of l.bytes (filter is_live (drop l.i l.slots)) ≡ size_of l.bytes (filter is_live l.slots)
