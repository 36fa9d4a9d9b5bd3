use Rattle.std.proofs.Common.{set, ap, sym, subst, ◌∙◌}
use Rattle.xc_intents.specs.Slots.{Linked, begun}
use Rattle.xc_intents.proofs.Chains.{chain-read}
use Rattle.xc_intents.proofs.Walks.{Linked-begun}
use Rattle.xc_intents.proofs.slots.walk.Goals as goal

pub returns-in-Some-clause-linked : goal.returns-in-Some-clause-linked
returns-in-Some-clause-linked c = λ xs n l.
    let begins = c.begin.ensures ∙ ap (begun c.args.lo c.args.hi) (chain-read c.args.chains.now c.in-Some.e _ c.in-Some.ensures.0) in
    subst (λ d. Linked xs (set c.args.chains.now c.in-Some.e d) n) (sym begins)
    (Linked-begun xs c.args.chains.now n c.in-Some.e c.args.lo c.args.hi c.in-Some.ensures.0 l)
