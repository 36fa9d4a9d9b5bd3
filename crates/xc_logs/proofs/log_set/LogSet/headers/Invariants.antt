-- The headers so far are copied.
use Rattle.std.proofs.Common.{◌≡◌, take}
use Rattle.xc_record.specs.Valid.{headers_of}
use Rattle.xc_logs.proofs.log_set.LogSet.headers.Given as goal

abbrev pub invariant-loop-tablet : goal.invariant-loop-tablet
invariant-loop-tablet l = l.copies.items ≡ headers_of (take l.tablet-index l.tablet-items)
