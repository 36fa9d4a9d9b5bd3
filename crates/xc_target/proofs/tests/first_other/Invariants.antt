-- The target fits the feed.
use Rattle.xc_target.specs.Target.{FitsFeed}
use Rattle.xc_target.proofs.tests.first_other.Given as goal

abbrev pub invariant-loop-i : goal.invariant-loop-i
invariant-loop-i g l = FitsFeed (g.F.Feed.headers l.feed) (g.F.Feed.counts l.feed) l.target
