use Rattle.std.proofs.Common.{◌≡◌, List, length, Some, refl, sym, subst, ap, ◌∙◌, arith}
use Rattle.std.specs.List.{find, slice_get}
use Rattle.std.specs.Option.{option_map}
use Rattle.std.specs.Vec.{with_items}
use Rattle.std.proofs.lemmas.List.{with_items_is}
use Rattle.xc_intents.specs.HeldOps.{HeldOps, is_part}
use Rattle.xc_intents.specs.declared.slots.Chain.{Chain}
use Rattle.xc_intents.specs.Slots.{IsChained, AreSlots, Linked, chain_at, walk_of, sought_by}
use Rattle.xc_intents.proofs.Walks.{found-none, none-found, sought-at, sought-same}
use Rattle.xc_intents.proofs.intents.Intents.begin.Goals as goal
use Rattle.xc_intents.proofs.intents.Intents.begin.Goals.{After-walk}

chains_are : (c : After-walk) → (with_items c.self.inside.chains c.walk.new.chains).items ≡ c.walk.new.chains
chains_are c = with_items_is c.self.inside.chains c.walk.new.chains (omega (arith, c.walk.auto.chains, c.deref_mut.ensures.len))

kept : (c : After-walk)
    → AreSlots c.self.inside.arena.items c.self.inside.slots.items (with_items c.self.inside.chains c.walk.new.chains).items
    c.self.inside.dead c.self.inside.taken
kept c =
    let xs = c.self.inside.slots.items in
    let is = c.self.invariant.chained in
    record {
      chained = subst (IsChained c.self.inside.arena.items xs) (sym (chains_are c)) (record {
        linked = c.walk.ensures.linked xs (length xs)
            (subst (λ (cs : List Chain). Linked xs cs (length xs)) (sym c.deref_mut.ensures.value) is.linked);
        holds = is.holds;
        small = is.small;
        few = omega (arith, c.walk.ensures.chains, ap length c.deref_mut.ensures.value, is.few);
      });
      count = c.self.invariant.count;
      within = c.self.invariant.within;
    }

pub invariant_of-self : goal.invariant_of-self
invariant_of-self c = kept (goal.at.invariant_of-self c).After-walk

pub invariant_of-self-in-Some : goal.invariant_of-self-in-Some
invariant_of-self-in-Some c = kept (goal.at.invariant_of-self-in-Some c).After-walk

pub returns-in-None-clause-none : goal.returns-in-None-clause-none
returns-in-None-clause-none c = λ _.
    let xs = c.self.inside.slots.items in
    let cs = c.deref_mut.result.now in
    let linked = subst (λ (zs : List Chain). Linked xs zs (length xs)) (sym c.deref_mut.ensures.value) c.self.invariant.chained.linked in
    ap (λ (h : HeldOps). find (is_part c.args.txn c.args.lo c.args.hi) h.held) (sym c.self.view_is)
    ∙ none-found c.self.inside.arena.items xs xs c.args.txn c.args.lo c.args.hi refl c.self.invariant.chained.holds
    (found-none xs cs c.args.txn c.args.lo c.args.hi linked c.in-None.ensures.found)

pub returns-in-Some-clause-sought : goal.returns-in-Some-clause-sought
returns-in-Some-clause-sought c = λ _.
    let e = c.in-Some.e in
    let ds = c.walk.new.chains in
    ap (λ (cs : List Chain). option_map sought_by (slice_get cs e)) (chains_are (goal.at.returns-in-Some-clause-sought c).After-walk)
    ∙ sought-at ds e c.in-Some.ensures.found.0
    ∙ ap (λ s. Some s)
    (sought-same (walk_of c.args.txn c.args.lo c.args.hi) (chain_at ds e) c.in-Some.ensures.found.1)
