use Rattle.std.proofs.Common.{rules}
use Rattle.std.proofs.lemmas.Fn.{filter_same}
use Rattle.xc_intents.specs.declared.slots.Slot.{Slot}
use Rattle.xc_intents.specs.Slots.{is_live}
use Rattle.xc_intents.proofs.slots.drop_dead.Goals as goal

pub returns-clause-slots : goal.returns-clause-slots
returns-clause-slots c = filter_same _ (λ (x : Slot). is_live x) _
    (λ x r f k. search rules) c.args.slots.now.items _ c.retain.ensures.filtered
