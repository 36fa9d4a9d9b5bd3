use Rattle.std.proofs.Common.{◌≡◌, ℕ, ◌≤◌, map}
use Rattle.xc_intents.specs.Slots.{IsTree, loose, chain_at}
use Rattle.xc_intents.proofs.tree.plant_all.Given as goal

abbrev pub invariant-loop-n : goal.invariant-loop-n
invariant-loop-n l = record {
  tree : IsTree l.chains l.n;
  same : map loose l.chains ≡ map loose l.initial.chains;
  behind : (k : ℕ) → l.n ≤ k → chain_at l.chains k ≡ chain_at l.initial.chains k;
}
