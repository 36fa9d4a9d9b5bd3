use Rattle.std.proofs.Common.{◌≡◌, Some, length}
use Rattle.xc_tablet.specs.Contents.{LeavesAlike}
use Rattle.xc_tablet.specs.Room.{Settles}
use Rattle.xc_tablet.proofs.contents.Contents.apply.Given as goal

abbrev pub invariant-loop : goal.invariant-loop
invariant-loop l = record {
  alike : LeavesAlike l.txn l.commit l.without l.lo l.hi l.initial.self l.self;
  sought : l.self.held.sought ≡ Some (record { txn = l.txn; lo = l.lo; hi = l.hi });
  settles : Settles l.initial.self l.self;
}

abbrev pub decreases-loop : goal.decreases-loop
decreases-loop l = length l.self.held.held
