use Rattle.xc_tool.proofs.StepLines.{kept-alone}
use Rattle.xc_tool.proofs.commands.answer.Goals as goal

pub returns-in-Ack-clause-kept : goal.returns-in-Ack-clause-kept
returns-in-Ack-clause-kept g c =
    kept-alone (g.F.Feed.headers c.args.feed.now) (g.F.Feed.counts c.args.feed.now) c.args.target.now
    c.acknowledge.new.target c.requires.fits c.acknowledge.ensures.kept

pub returns-in-Restart-clause-kept : goal.returns-in-Restart-clause-kept
returns-in-Restart-clause-kept g c =
    kept-alone (g.F.Feed.headers c.args.feed.now) (g.F.Feed.counts c.args.feed.now) c.args.target.now
    c.restart.new.target c.requires.fits c.restart.ensures.kept

pub returns-in-Prune-clause-kept : goal.returns-in-Prune-clause-kept
returns-in-Prune-clause-kept g c =
    kept-alone (g.F.Feed.headers c.args.feed.now) (g.F.Feed.counts c.args.feed.now) c.args.target.now
    c.prune.new.target c.requires.fits c.prune.ensures.kept

pub returns-in-Failover-clause-kept : goal.returns-in-Failover-clause-kept
returns-in-Failover-clause-kept g c =
    kept-alone (g.F.Feed.headers c.args.feed.now) (g.F.Feed.counts c.args.feed.now) c.args.target.now
    c.failover.new.target c.requires.fits c.failover.ensures.kept
