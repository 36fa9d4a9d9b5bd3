use Rattle.std.proofs.Common.{◌≡◌, ◌++◌, map, take, drop}
use Rattle.xc_intents.specs.Slots.{cut}
use Rattle.xc_intents.proofs.slots.cut.Given as goal

abbrev pub invariant-loop-chain : goal.invariant-loop-chain
invariant-loop-chain l = l.chains ≡ map cut (take l.chain-index l.initial.chains) ++ drop l.chain-index l.initial.chains
