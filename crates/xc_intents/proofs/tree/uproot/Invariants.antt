use Rattle.std.proofs.Common.{◌≡◌, ◌++◌, map, take, drop}
use Rattle.xc_intents.specs.Slots.{loose}
use Rattle.xc_intents.proofs.tree.uproot.Given as goal

abbrev pub invariant-loop-chain : goal.invariant-loop-chain
invariant-loop-chain l = l.chains ≡ map loose (take l.chain-index l.initial.chains) ++ drop l.chain-index l.initial.chains
