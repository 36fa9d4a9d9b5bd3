use Rattle.std.proofs.Common.{◌≡◌, ◌<◌, ◌-◌, length}
use Rattle.std.specs.Prelude.{IfSome, slice_index}
use Rattle.xc_target.specs.Answers.{Keeps, cursor_at}
use Rattle.xc_target.proofs.DrainLaws.{Polling}
use Rattle.xc_target.proofs.draining.drain_tablet.Given as goal

abbrev pub invariant-polls : goal.invariant-polls
invariant-polls g l = record {
  known : l.id < length l.target.pollers;
  keeps : Keeps g.F.Feed.headers g.F.Feed.counts g.F.Feed.logs g.F.Feed.faults l.fn.feed l.feed l.fn.target l.target;
  faults : g.F.Feed.faults l.feed ≡ g.F.Feed.faults l.fn.feed;
  polled : IfSome (g.F.Feed.logs l.fn.feed) (Polling l.id l.fn.target l.target);
}

abbrev pub decreases-polls : goal.decreases-polls
decreases-polls g l = slice_index (g.F.Feed.counts l.feed) l.id - cursor_at l.target l.id
