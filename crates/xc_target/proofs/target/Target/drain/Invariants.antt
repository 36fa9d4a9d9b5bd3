use Rattle.std.proofs.Common.{◌≡◌, ◌≤◌, None, length}
use Rattle.std.specs.Prelude.{IfSome}
use Rattle.xc_target.specs.Answers.{Keeps}
use Rattle.xc_target.proofs.PassLaws.{Draining}
use Rattle.xc_target.proofs.target.Target.drain.Given as goal

abbrev pub invariant-loop-id : goal.invariant-loop-id
invariant-loop-id g l = record {
  within : l.id ≤ l.id-end;
  known : l.id-end ≡ length l.self.pollers;
  all : l.id-end ≡ length l.fn.self.pollers;
  keeps : Keeps g.F.Feed.headers g.F.Feed.counts g.F.Feed.logs g.F.Feed.faults l.fn.feed l.feed l.fn.self l.self;
  was_open : l.fn.self.closed ≡ None;
  faults : g.F.Feed.faults l.feed ≡ g.F.Feed.faults l.fn.feed;
  drained : IfSome (g.F.Feed.logs l.fn.feed) (Draining l.id l.fn.self l.self l.halts.items);
}
