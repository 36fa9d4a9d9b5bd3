use Rattle.std.proofs.Common.{◌≡◌, drop}
use Rattle.xc_record.specs.Bounds.{rises_from}
use Rattle.xc_script.proofs.reading.rises_from.Given as goal

abbrev pub invariant-loop-bound : goal.invariant-loop-bound
invariant-loop-bound l = rises_from l.last (drop l.bound-index l.bounds) ≡ rises_from l.fn.before l.bounds
