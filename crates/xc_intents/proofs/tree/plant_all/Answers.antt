use Rattle.std.proofs.Common.{arith}
use Rattle.xc_intents.proofs.Trees.{distinct-loose, length-loose}
use Rattle.xc_intents.proofs.tree.plant_all.Goals as goal

pub plant-requires-clause-other : goal.plant-requires-clause-other
plant-requires-clause-other c = λ k low.
    distinct-loose c.args.chains.now c.loop-n.chains c.loop-n.invariant.same c.requires.distinct k c.loop-n.n low
    (omega (arith, c.loop-n-test.true, length-loose c.args.chains.now c.loop-n.chains c.loop-n.invariant.same))
