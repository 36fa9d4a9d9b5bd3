use Rattle.std.proofs.Common.{◌≡◌, ◌+◌, ◌<◌, length, None, Some, set, map, sym, ap, subst, refl, ◌∙◌, arith}
use Rattle.xc_intents.specs.Slots.{IsTree, chain_at, is_right, below, hung, loose}
use Rattle.xc_intents.proofs.Chains.{chain-read}
use Rattle.xc_intents.proofs.Trees.{comes-next, tree-grown, loose-hung}
use Rattle.xc_intents.proofs.tree.plant.Goals as goal

pub loop-next-preserved : goal.loop-next-preserved
loop-next-preserved c =
    let cs = c.args.chains.now in
    let n = c.args.n in
    let cur = c.loop-next.cur in
    let low = c.loop-next.invariant.within in
    let read = chain-read cs cur c.index-chains-cur.result (omega (arith, low, c.requires.within)) in
    let leads : below (is_right c.loop-next.rest) (chain_at cs cur) ≡ Some c.in-Some.next =
    ap (below (is_right c.loop-next.rest)) (sym read) ∙ sym c.in-Some.ensures in
    record {
      within = (c.requires.tree.later cur c.in-Some.next (is_right c.loop-next.rest) low leads).1;
      chains = refl;
      comes = rw c.behind_bit-rest.ensures (comes-next cs (chain_at cs n).txn n c.loop-next.rest cur c.in-Some.next low
          (c.requires.other cur low) leads c.loop-next.invariant.comes);
    }

pub returns-clause-tree : goal.returns-clause-tree
returns-clause-tree c =
    let cs = c.args.chains.now in
    let n = c.args.n in
    let cur = c.loop-next.cur in
    let within : cur < length cs = omega (arith, c.loop-next.invariant.within, c.requires.within) in
    let free : below (is_right c.loop-next.rest) (chain_at cs cur) ≡ None =
    ap (below (is_right c.loop-next.rest)) (sym (chain-read cs cur c.index-chains-cur.result within)) ∙ sym c.in_default.ensures in
    let hangs = c.hang.ensures ∙ ap (hung (is_right c.loop-next.rest) n) (chain-read cs cur c.index-chains-cur-2.result within) in
    subst (λ d. IsTree (set cs cur d) (n + 1)) (sym hangs)
    (tree-grown cs n cur c.loop-next.rest c.requires.within c.loop-next.invariant.within c.requires.tree c.requires.other
    c.requires.loose free c.loop-next.invariant.comes)

pub returns-clause-same : goal.returns-clause-same
returns-clause-same c =
    let cs = c.args.chains.now in
    let cur = c.loop-next.cur in
    let within : cur < length cs = omega (arith, c.loop-next.invariant.within, c.requires.within) in
    let hangs = c.hang.ensures ∙ ap (hung (is_right c.loop-next.rest) c.args.n) (chain-read cs cur c.index-chains-cur-2.result within) in
    ap (λ d. map loose (set cs cur d)) hangs ∙ loose-hung cs cur c.args.n c.loop-next.rest within
