use Rattle.std.proofs.Common.{◌<◌, ◌-◌, length}
use Rattle.xc_intents.proofs.Trees.{Sought}
use Rattle.xc_intents.proofs.tree.search.Given as goal

abbrev pub invariant-loop-cur : goal.invariant-loop-cur
invariant-loop-cur l = record {
  within : l.cur < length l.chains;
  sought : Sought l.chains l.txn l.rest l.cur;
}

abbrev pub decreases-loop-cur : goal.decreases-loop-cur
decreases-loop-cur l = length l.chains - l.cur
