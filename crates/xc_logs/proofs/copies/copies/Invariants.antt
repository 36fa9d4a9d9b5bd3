-- The records so far are copied.
use Rattle.std.proofs.Common.{◌≡◌, take}
use Rattle.xc_logs.proofs.copies.copies.Given as goal

abbrev pub invariant-loop-rec : goal.invariant-loop-rec
invariant-loop-rec l = l.items.items ≡ take l.rec-index l.records
