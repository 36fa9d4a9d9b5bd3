use Rattle.std.proofs.Common.{sym, subst}
use Rattle.xc_intents.specs.Slots.{Linked, HasChain, at}
use Rattle.xc_intents.proofs.Gathers.{Linked-cut, cut-has}
use Rattle.xc_intents.proofs.slots.chain_anew.Goals as goal

pub link_all-requires-clause-linked : goal.link_all-requires-clause-linked
link_all-requires-clause-linked c =
    subst (λ z. Linked c.args.slots.now z 0) (sym c.cut.ensures) (Linked-cut c.args.slots.now c.args.chains.now c.requires.searchable)

pub link_all-requires-clause-has : goal.link_all-requires-clause-has
link_all-requires-clause-has c = λ k low.
    subst (λ z. HasChain z (at c.args.slots.now k).txn) (sym c.cut.ensures)
    (cut-has c.args.chains.now (at c.args.slots.now k).txn (c.requires.has k low))
