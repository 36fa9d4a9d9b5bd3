use Rattle.std.proofs.Common.{◌<◌, length, arith}
use Rattle.xc_intents.specs.Slots.{loose}
use Rattle.xc_intents.proofs.Gathers.{each-step}
use Rattle.xc_intents.proofs.tree.uproot.Goals as goal

pub loop-chain-preserved : goal.loop-chain-preserved
loop-chain-preserved c =
    let i = c.loop-chain.chain-index in
    let within : i < length c.loop-chain.chains = omega (arith, c.loop-chain-test.true, c.loop-chain.auto.chains) in
    each-step loose c.args.chains.now c.loop-chain.chains i _ _ c.loop-chain-test.true within c.loop-chain.invariant c.uproot_one.ensures
