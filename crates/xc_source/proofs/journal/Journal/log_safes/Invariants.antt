use Rattle.std.proofs.Common.{◌≡◌, ◌≤◌, ◌+◌, take}
use Rattle.xc_source.specs.Machine.{records_in}
use Rattle.xc_source.specs.Finish.{safes_in}
use Rattle.xc_source.proofs.journal.Journal.log_safes.Given as goal

abbrev pub invariant-loop-i : goal.invariant-loop-i
invariant-loop-i l = record {
  logged : l.self ≡ safes_in (take l.i l.ids) l.fn.self;
  count : records_in l.self.tablets ≤ records_in l.fn.self.tablets + l.i;
  time : l.self.time ≡ l.fn.self.time + l.i;
}
