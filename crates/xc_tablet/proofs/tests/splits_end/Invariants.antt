use Rattle.std.proofs.Common.{◌≡◌, drop}
use Rattle.xc_tablet.specs.Batch.{splits_end}
use Rattle.xc_tablet.proofs.tests.splits_end.Given as goal

abbrev pub invariant-loop-i : goal.invariant-loop-i
invariant-loop-i l = splits_end (drop l.i l.records) ≡ splits_end l.records
