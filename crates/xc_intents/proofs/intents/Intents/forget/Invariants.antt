use Rattle.std.proofs.Common.{◌≡◌, ◌≤◌, Some, length, filter}
use Rattle.xc_intents.specs.HeldOps.{is_rest}
use Rattle.xc_intents.proofs.intents.Intents.forget.Given as goal

abbrev pub invariant-loop : goal.invariant-loop
invariant-loop l = record {
  others : filter (is_rest l.txn l.lo l.hi) l.self.held ≡ filter (is_rest l.txn l.lo l.hi) l.initial.self.held;
  sought : l.self.sought ≡ Some (record { txn = l.txn; lo = l.lo; hi = l.hi });
  room : l.initial.self.spare ≤ l.self.spare;
}

abbrev pub decreases-loop : goal.decreases-loop
decreases-loop l = length l.self.held
