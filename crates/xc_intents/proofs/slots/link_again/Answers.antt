use Rattle.std.proofs.Common.{ap, map, sym, subst, refl, ◌∙◌}
use Rattle.xc_intents.specs.Slots.{Linked, at, bare}
use Rattle.xc_intents.proofs.Chains.{bare-set}
use Rattle.xc_intents.proofs.Gathers.{Linked-bare}
use Rattle.xc_intents.proofs.slots.link_again.Goals as goal

pub link-requires-clause-linked : goal.link-requires-clause-linked
link-requires-clause-linked c =
    subst (λ z. Linked z c.args.chains.now c.args.i) (sym c.unlink-txn.ensures.slots)
    (Linked-bare c.args.slots.now c.args.chains.now c.args.i c.requires.slot c.requires.linked)

pub returns-in-Some-clause-same : goal.returns-in-Some-clause-same
returns-in-Some-clause-same c =
    c.link.ensures.same ∙ ap (map bare) c.unlink-txn.ensures.slots
    ∙ bare-set c.args.slots.now c.args.i (bare (at c.args.slots.now c.args.i)) c.requires.slot refl
