use Rattle.std.proofs.Common.{◌-◌, ap, arith}
use Rattle.xc_intents.specs.declared.slots.Chain.{Chain}
use Rattle.xc_intents.proofs.Chains.{chain-read}
use Rattle.xc_intents.proofs.Searches.{rising-last}
use Rattle.xc_intents.proofs.search.are_rising.Goals as goal

pub loop-k-preserved : goal.loop-k-preserved
loop-k-preserved c =
    let cs = c.args.chains.now in
    let k = c.loop-k.k in
    let before = ap (λ (x : Chain). x.txn) (chain-read cs (k - 1) c.index-chains-k.result (omega (arith, c.loop-k-test.true))) in
    let here = ap (λ (x : Chain). x.txn) (chain-read cs k c.index-chains-k-in-loop-k.result c.loop-k-test.true) in
    rising-last cs k c.loop-k.invariant (λ _. omega (arith, c.if-chains-k.false, before, here))
