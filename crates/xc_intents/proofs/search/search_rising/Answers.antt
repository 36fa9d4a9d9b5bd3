use Rattle.std.proofs.Common.{◌<◌, ◌+◌, sym, subst, ap, arith}
use Rattle.std.proofs.lemmas.Bool.Decides.{nat_tests}
use Rattle.xc_intents.specs.declared.slots.Chain.{Chain}
use Rattle.xc_intents.specs.Slots.{chain_at}
use Rattle.xc_intents.proofs.Chains.{chain-read}
use Rattle.xc_intents.proofs.Searches.{Around, around-less, around-more}
use Rattle.xc_intents.proofs.search.search_rising.Goals as goal
use Rattle.xc_intents.proofs.search.search_rising.Goals.{in-Less, in-Greater}

pub loop-low-preserved : goal.loop-low-preserved
loop-low-preserved c =
    let cs = c.args.chains.now in
    let t = c.args.txn in
    let low = c.loop-low.low in
    let high = c.loop-low.high in
    let m = c.between-middle.result in
    let around = c.loop-low.invariant in
    let within : m < high = c.between-middle.ensures.1 in
    let read = ap (λ (x : Chain). x.txn)
    (chain-read cs m c.index-chains-middle.result (omega (arith, within, around.within))) in
    elim c.match-cmp.branch [
      | in-Less w ↦
          let less : (chain_at cs m).txn < t = grind (arith, nat_tests, c.cmp.ensures, w.in-Less, read) in
          subst (λ a. Around cs t a c.match-cmp.high) (sym w.low-is)
          (subst (Around cs t (m + 1)) (sym w.high-is) (around-less cs t low high m c.requires around within less))
      | in-Greater w ↦
          let more : t < (chain_at cs m).txn = grind (arith, nat_tests, c.cmp.ensures, w.in-Greater, read) in
          subst (λ a. Around cs t a c.match-cmp.high) (sym w.low-is)
          (subst (Around cs t low) (sym w.high-is) (around-more cs t low high m c.requires around within more))
    ]
