use Rattle.std.proofs.Common.{◌≡◌, ℕ, ◌<◌, ◌≤◌, List, length, map, filter, sym, subst, ap, ◌∙◌, arith}
use Rattle.std.specs.Vec.{with_items}
use Rattle.std.proofs.lemmas.List.{with_items_is}
use Rattle.xc_intents.specs.declared.slots.Slot.{Slot}
use Rattle.xc_intents.specs.declared.slots.Chain.{Chain}
use Rattle.xc_intents.specs.Slots.{HasChain, at, bare, is_live, is_used, loose, held_in, size_of, IsChained}
use Rattle.xc_intents.proofs.Chains.{length-bare}
use Rattle.xc_intents.proofs.Gathers.{has-filter, anew-held, anew-all, anew-size, anew-chained}
use Rattle.xc_intents.proofs.slots.gather_slots.Goals as goal
use Rattle.xc_intents.proofs.slots.gather_slots.Goals.{After-drop_unused}

pub chain_anew-requires-clause-has : goal.chain_anew-requires-clause-has
chain_anew-requires-clause-has c =
    let xs = c.args.slots.now.items in
    let slots : c.deref_mut.result.now ≡ filter is_live xs = c.deref_mut.ensures.value ∙ c.drop_dead.ensures.slots in
    subst (λ (ys : List Slot). (k : ℕ) → k < length ys → HasChain c.deref_mut-2.result.now (at ys k).txn) (sym slots)
    (subst (λ (cs : List Chain). (k : ℕ) → k < length (filter is_live xs) → HasChain cs (at (filter is_live xs) k).txn)
    (sym c.deref_mut-2.ensures.value)
    (has-filter xs c.args.chains.now.items c.requires.linked))

same : (c : After-drop_unused) → map bare c.chain_anew.new.slots ≡ map bare (filter is_live c.args.slots.now.items)
same c = c.chain_anew.ensures.same ∙ ap (map bare) (c.deref_mut.ensures.value ∙ c.drop_dead.ensures.slots)

slots_are : (c : After-drop_unused) → (with_items c.drop_dead.new.slots c.chain_anew.new.slots).items ≡ c.chain_anew.new.slots
slots_are c = with_items_is c.drop_dead.new.slots c.chain_anew.new.slots
    (omega (arith, length-bare _ c.chain_anew.new.slots c.chain_anew.ensures.same, c.deref_mut.ensures.len))

chains_are : (c : After-drop_unused) → (with_items c.args.chains.now c.chain_anew.new.chains).items ≡ c.chain_anew.new.chains
chains_are c = with_items_is c.args.chains.now c.chain_anew.new.chains
    (omega (arith, c.chain_anew.ensures.chains, c.deref_mut-2.ensures.len))

pub returns-clause-chained : goal.returns-clause-chained
returns-clause-chained c = λ b holds.
    let xs = c.args.slots.now.items in
    let ys = c.chain_anew.new.slots in
    let short : length (filter is_live xs) ≤ length xs = omega
    (arith, ap length c.drop_dead.ensures.slots, c.drop_dead.ensures.len, c.args.slots.now.ok.0, c.drop_dead.new.slots.ok.0) in
    let chained = anew-chained xs ys c.chain_anew.new.chains c.requires.small (same c) c.chain_anew.ensures.linked b holds
    c.drop_unused.new.chains.items short
    (c.drop_unused.ensures.chains ∙ ap (λ zs. map loose (filter is_used zs)) (chains_are c)) c.drop_unused.ensures.searchable
    (omega (arith, c.drop_unused.ensures.len, c.chain_anew.ensures.chains, c.requires.few, c.args.chains.now.ok.0)) in
    subst (λ z. IsChained b z c.drop_unused.new.chains.items) (sym (slots_are c)) chained

pub returns-clause-held : goal.returns-clause-held
returns-clause-held c = λ b.
    ap (held_in b) (slots_are c)
    ∙ anew-held c.args.slots.now.items c.chain_anew.new.slots c.chain_anew.new.chains c.requires.small (same c)
    c.chain_anew.ensures.linked b

pub returns-clause-all : goal.returns-clause-all
returns-clause-all c = λ b.
    ap (λ zs. length (held_in b zs)) (slots_are c)
    ∙ anew-all c.args.slots.now.items c.chain_anew.new.slots c.chain_anew.new.chains c.requires.small (same c)
    c.chain_anew.ensures.linked b
    ∙ ap length (sym (slots_are c))

pub returns-clause-size : goal.returns-clause-size
returns-clause-size c = λ b.
    ap (size_of b) (slots_are c)
    ∙ anew-size c.args.slots.now.items c.chain_anew.new.slots c.chain_anew.new.chains c.requires.small (same c)
    c.chain_anew.ensures.linked b
