use Rattle.std.proofs.Common.{◌≡◌, ◌<◌, ◌-◌, length, subst, ap, arith}
use Rattle.std.proofs.lemmas.Bool.Decides.{nat_tests}
use Rattle.xc_intents.specs.declared.slots.Chain.{Chain}
use Rattle.xc_intents.specs.Slots.{chain_at}
use Rattle.xc_intents.proofs.Chains.{chain-read}
use Rattle.xc_intents.proofs.Searches.{rising-last}
use Rattle.xc_intents.proofs.search.ends_rising.Goals as goal

pub returns-else-count-lt2 : goal.returns-else-count-lt2
returns-else-count-lt2 c less n long rising =
    let cs = c.args.chains.now in
    let before = ap (λ (x : Chain). x.txn)
    (chain-read cs (length cs - 2) c.index-chains-count.result (omega (arith, c.if-count-lt2.false))) in
    let here = ap (λ (x : Chain). x.txn)
    (chain-read cs (length cs - 1) c.index-chains-count-else-count-lt2.result (omega (arith, c.if-count-lt2.false))) in
    let is_before : length cs - 2 ≡ n - 1 = omega (arith, long) in
    let is_here : length cs - 1 ≡ n = omega (arith, long) in
    let rises : (chain_at cs (length cs - 2)).txn < (chain_at cs (length cs - 1)).txn = grind (arith, nat_tests, less, before, here) in
    rising-last cs n rising
    (λ _. subst (λ j. (chain_at cs (n - 1)).txn < (chain_at cs j).txn) is_here
    (subst (λ i. (chain_at cs i).txn < (chain_at cs (length cs - 1)).txn) is_before rises))
