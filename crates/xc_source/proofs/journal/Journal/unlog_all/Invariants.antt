use Rattle.std.proofs.Common.{◌≡◌, ◌≤◌, drop, length}
use Rattle.xc_source.specs.Universe.{unlogged_all}
use Rattle.xc_source.proofs.journal.Journal.unlog_all.Given as goal

abbrev pub invariant-loop-left : goal.invariant-loop-left
invariant-loop-left l = record {
  back : l.self ≡ unlogged_all (drop l.left l.ids) l.fn.self;
  within : l.left ≤ length l.ids;
  time : l.left ≤ l.self.time;
}

abbrev pub decreases-loop-left : goal.decreases-loop-left
decreases-loop-left l = l.left
