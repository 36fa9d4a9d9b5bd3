use Rattle.xc_intents.specs.Slots.{Rising}
use Rattle.xc_intents.proofs.search.are_rising.Given as goal

abbrev pub invariant-loop-k : goal.invariant-loop-k
invariant-loop-k l = Rising l.chains l.k
