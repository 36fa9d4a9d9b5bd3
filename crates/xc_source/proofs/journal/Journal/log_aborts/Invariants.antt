use Rattle.std.proofs.Common.{◌≡◌, ◌≤◌, ◌+◌, take}
use Rattle.xc_source.specs.Machine.{records_in}
use Rattle.xc_source.specs.Universe.{aborts_in}
use Rattle.xc_source.proofs.journal.Journal.log_aborts.Given as goal

abbrev pub invariant-loop-i : goal.invariant-loop-i
invariant-loop-i l = record {
  logged : l.self ≡ aborts_in l.txn (take l.i l.ids) l.fn.self;
  count : records_in l.self.tablets ≤ records_in l.fn.self.tablets + l.i;
  time : l.self.time ≡ l.fn.self.time + l.i;
}
