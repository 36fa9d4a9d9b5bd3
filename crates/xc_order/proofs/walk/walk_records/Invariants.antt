use Rattle.std.proofs.Common.{◌≡◌, ◌+◌, length, drop}
use Rattle.std.specs.Prelude.{fold}
use Rattle.xc_record.specs.Order.{after, accepted_from}
use Rattle.xc_record.specs.Accepted.{halt_from}
use Rattle.xc_order.proofs.walk.walk_records.Given as goal

abbrev pub invariant-loop-i : goal.invariant-loop-i
invariant-loop-i l =
    (length (accepted_from l.fn.start l.records) ≡ l.i + length (accepted_from l.order (drop l.i l.records)))
    × (fold after l.fn.start (accepted_from l.fn.start l.records) ≡ fold after l.order (accepted_from l.order (drop l.i l.records)))
    × (halt_from l.fn.start 1 l.records ≡ halt_from l.order (l.i + 1) (drop l.i l.records))
