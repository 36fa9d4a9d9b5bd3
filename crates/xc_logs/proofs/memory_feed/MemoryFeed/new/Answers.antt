use Rattle.xc_logs.proofs.FeedFacts.{feed_of}
use Rattle.xc_logs.proofs.memory_feed.MemoryFeed.new.Goals as goal

pub invariant_of-result : goal.invariant_of-result
invariant_of-result c = record { shape = feed_of c.args.logs.now c.tablets-tablets.ensures.valid }
