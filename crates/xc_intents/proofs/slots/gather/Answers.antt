use Rattle.std.proofs.Common.{◌≡◌, List, length, sym, subst, ap, ◌∙◌, arith}
use Rattle.std.specs.Vec.{with_items}
use Rattle.std.proofs.lemmas.List.{with_items_is}
use Rattle.xc_intents.specs.declared.slots.Slot.{Slot}
use Rattle.xc_intents.specs.Slots.{held_in, IsChained, Carried}
use Rattle.xc_intents.proofs.Carries.{carried-held, carried-chained}
use Rattle.xc_intents.proofs.slots.gather.Goals as goal
use Rattle.xc_intents.proofs.slots.gather.Goals.{After-carry}

carried : (c : After-carry) → Carried c.args.bytes.now c.gather_slots.new.slots.items c.carry.new.to.items c.carry.new.slots
carried c = subst (λ (xs : List Slot). Carried c.args.bytes.now xs c.carry.new.to.items c.carry.new.slots) c.deref_mut.ensures.value
    c.carry.ensures.carried

slots_are : (c : After-carry) → (with_items c.gather_slots.new.slots c.carry.new.slots).items ≡ c.carry.new.slots
slots_are c =
    let long = c.carry.ensures.carried.long in
    with_items_is c.gather_slots.new.slots c.carry.new.slots (omega (arith, c.deref_mut.ensures.len))

held : (c : After-carry) → held_in c.carry.new.to.items c.carry.new.slots ≡ held_in c.args.bytes.now c.gather_slots.new.slots.items
held c = carried-held c.args.bytes.now c.gather_slots.new.slots.items c.carry.new.to.items c.carry.new.slots (carried c)

pub returns-clause-chained : goal.returns-clause-chained
returns-clause-chained c =
    let a = (goal.at.returns-clause-chained c).After-carry in
    let d = c.carry.new.to.items in
    let cs = c.gather_slots.new.chains.items in
    subst (λ z. IsChained d z cs) (sym (slots_are a))
    (carried-chained c.args.bytes.now c.gather_slots.new.slots.items d c.carry.new.slots cs (carried a)
    (c.gather_slots.ensures.chained c.args.bytes.now c.requires.chained.holds))

pub returns-clause-held : goal.returns-clause-held
returns-clause-held c =
    let a = (goal.at.returns-clause-held c).After-carry in
    ap (held_in c.carry.new.to.items) (slots_are a) ∙ held a ∙ c.gather_slots.ensures.held c.args.bytes.now

pub returns-clause-all : goal.returns-clause-all
returns-clause-all c =
    let a = (goal.at.returns-clause-all c).After-carry in
    ap (λ zs. length (held_in c.carry.new.to.items zs)) (slots_are a) ∙ ap length (held a)
    ∙ c.gather_slots.ensures.all c.args.bytes.now ∙ sym (carried a).long ∙ ap length (sym (slots_are a))
