use Rattle.std.proofs.Common.{ℕ, take}
use Rattle.std.specs.Prelude.{option_and_then, map}
use Rattle.xc_agree.specs.Slots.{time_of}
use Rattle.xc_agree.specs.Seen.{Seen, IsLook, IsLeast, kind_tried, is_among}
use Rattle.xc_agree.proofs.LookLaws.{txn_of}
use Rattle.xc_agree.proofs.look.Look.finish.Given as goal

abbrev pub invariant-loop-waiter : goal.invariant-loop-waiter
invariant-loop-waiter l =
    (seen : ℕ → ℕ → Seen) → IsLook l.self l.commits seen
    → IsLeast l.found
    (λ n. option_and_then (λ c. kind_tried (is_among n (map txn_of (take l.waiter-index l.waiter-items))) c (seen n c))
    (time_of l.commits n))
