use Rattle.std.proofs.Common.{◌≡◌, ◌<◌, ◌-◌}
use Rattle.xc_intents.specs.Slots.{chain_at}
use Rattle.xc_intents.proofs.Trees.{Comes}
use Rattle.xc_intents.proofs.tree.plant.Given as goal

abbrev pub invariant-loop-next : goal.invariant-loop-next
invariant-loop-next l = record {
  within : l.cur < l.n;
  chains : l.chains ≡ l.initial.chains;
  comes : Comes l.chains (chain_at l.chains l.n).txn l.n l.rest l.cur;
}

abbrev pub decreases-loop-next : goal.decreases-loop-next
decreases-loop-next l = l.n - l.cur
