-- What went out and what the session says of the rest are all that it says.
use Rattle.std.proofs.Common.{◌≡◌, ℕ, List, None, drop, length}
use Rattle.std.specs.Prelude.{IfSome}
use Rattle.std.specs.Io.KnownBytes.{Appends}
use Rattle.xc_base.specs.Told.{TellsAlike}
use Rattle.xc_logs.specs.Feed.{SameFeed}
use Rattle.xc_record.specs.Agreement.{disagreement}
use Rattle.xc_record.specs.Session.{start}
use Rattle.xc_target.specs.Stands.{StandsForSession}
use Rattle.xc_tool.specs.Answers.{Kept}
use Rattle.xc_tool.proofs.CommandRuns.{GoesOn}
use Rattle.xc_tool.proofs.replay.run_commands.Given as goal

abbrev pub invariant-loop-command : goal.invariant-loop-command
invariant-loop-command g l = record {
  went : List ℕ;
  out : Appends (g.O.Sink.written l.fn.out) (g.O.Sink.written l.out) went;
  kept : Kept (g.F.Feed.headers l.feed) (g.F.Feed.counts l.feed) l.fn.target l.target;
  feed : SameFeed g.F.Feed.headers g.F.Feed.counts g.F.Feed.logs g.F.Feed.faults l.fn.feed l.feed;
  sources : l.sources ≡ length l.target.pollers;
  goes : IfSome (g.F.Feed.logs l.fn.feed) (λ logs. StandsForSession logs (start logs) l.fn.target → disagreement logs ≡ None
      → GoesOn logs l.commands went l.halted (drop l.command-index l.commands) l.target);
  quiet : g.O.Sink.faults l.out ≡ g.O.Sink.faults l.fn.out;
  tells : TellsAlike (g.O.Sink.written l.fn.out) (g.O.Sink.written l.out);
}
