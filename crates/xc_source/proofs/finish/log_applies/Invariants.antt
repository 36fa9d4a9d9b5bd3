use Rattle.std.proofs.Common.{◌≡◌, ◌≤◌, ◌+◌, take}
use Rattle.xc_source.specs.Machine.{records_in}
use Rattle.xc_source.specs.Finish.{applies_in}
use Rattle.xc_source.proofs.finish.log_applies.Given as goal

abbrev pub invariant-loop-i : goal.invariant-loop-i
invariant-loop-i l = record {
  logged : l.journal ≡ applies_in l.txns (take l.i l.pairs) l.fn.journal;
  count : records_in l.journal.tablets ≤ records_in l.fn.journal.tablets + l.i;
  time : l.journal.time ≡ l.fn.journal.time + l.i;
}
