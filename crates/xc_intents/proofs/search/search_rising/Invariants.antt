use Rattle.std.proofs.Common.{◌-◌}
use Rattle.xc_intents.proofs.Searches.{Around}
use Rattle.xc_intents.proofs.search.search_rising.Given as goal

abbrev pub invariant-loop-low : goal.invariant-loop-low
invariant-loop-low l = Around l.chains l.txn l.low l.high

abbrev pub decreases-loop-low : goal.decreases-loop-low
decreases-loop-low l = l.high - l.low
