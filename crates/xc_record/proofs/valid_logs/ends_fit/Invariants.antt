use Rattle.std.proofs.Common.{◌≡◌, drop}
use Rattle.xc_record.specs.Valid.{ends_fit}
use Rattle.xc_record.proofs.valid_logs.ends_fit.Given as goal

abbrev pub invariant-loop-i : goal.invariant-loop-i
invariant-loop-i l = ends_fit l.has_children (drop l.i l.records) ≡ ends_fit l.has_children l.records
