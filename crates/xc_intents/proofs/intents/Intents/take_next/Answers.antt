use Rattle.std.proofs.Common.{◌≡◌, ℕ, ◌+◌, Bool, List, Option, length, Some, None, refl, sym, subst, ap, ◌∙◌, arith}
use Rattle.std.specs.Prelude.{IfSome, ◌<◌}
use Rattle.std.specs.List.{find, slice_get}
use Rattle.std.specs.Option.{option_map}
use Rattle.std.specs.Vec.{with_items}
use Rattle.std.proofs.lemmas.List.{with_items_is}
use Rattle.xc_record.specs.Kept.{KeyWaiting}
use Rattle.xc_intents.specs.HeldOps.{HeldOps, is_sought, without_first, given}
use Rattle.xc_intents.specs.declared.slots.Chain.{Chain}
use Rattle.xc_intents.specs.declared.slots.Slot.{Slot}
use Rattle.xc_intents.specs.Slots.{held_in, chain_at, given_at, sought_by, part_of, IsChained, AreSlots, SameWalk, TakesNext}
use Rattle.xc_intents.proofs.IntentLaws.{find-by_some, find-by_none, length-without_first, without_first-none}
use Rattle.xc_intents.proofs.Walks.{sought-at, sought-past, sought-same, nothing-sought}
use Rattle.xc_intents.proofs.intents.Intents.take_next.Goals as goal
use Rattle.xc_intents.proofs.intents.Intents.take_next.Goals.{After-take_next, Then-self-len}

-- ---- there is no walk

no-walk : (c : Then-self-len) → c.args.self.now.sought ≡ None
no-walk c = ap (λ (h : HeldOps). h.sought) (sym c.self.view_is)
    ∙ sought-past c.self.inside.chains.items c.self.inside.recent (omega (arith, c.self.inside.chains.ok.0))

finds-none : (c : Then-self-len) → find (is_sought c.args.self.now.sought) c.args.self.now.held ≡ None
finds-none c = ap (λ s. find (is_sought s) c.args.self.now.held) (no-walk c) ∙ nothing-sought c.args.self.now.held

pub returns-then-self-len-clause-taken : goal.returns-then-self-len-clause-taken
returns-then-self-len-clause-taken c = sym (ap (option_map given) (finds-none c))

pub returns-then-self-len-clause-left : goal.returns-then-self-len-clause-left
returns-then-self-len-clause-left c =
    ap (λ (h : HeldOps). h.held) c.self.view_is
    ∙ sym (without_first-none (is_sought c.args.self.now.sought) c.args.self.now.held (finds-none c))

-- ---- a walk goes on

slots_are : (c : After-take_next) → (with_items c.self.inside.slots c.take_next.new.slots).items ≡ c.take_next.new.slots
slots_are c = with_items_is c.self.inside.slots c.take_next.new.slots (omega (arith, c.take_next.auto.slots, c.deref_mut.ensures.len))

chains_are : (c : After-take_next) → (with_items c.self.inside.chains c.take_next.new.chains).items ≡ c.take_next.new.chains
chains_are c = with_items_is c.self.inside.chains c.take_next.new.chains (omega (arith, c.take_next.auto.chains, c.deref_mut-2.ensures.len))

-- the chain, and what its walk looks for
abbrev chain : After-take_next → Chain
chain c = chain_at c.deref_mut-2.result.now c.self.inside.recent

abbrev arena : After-take_next → List ℕ
arena c = c.self.inside.arena.items

walks : (c : After-take_next) → c.args.self.now.sought ≡ Some (sought_by (chain c))
walks c =
    ap (λ (h : HeldOps). h.sought) (sym c.self.view_is)
    ∙ ap (λ (cs : List Chain). option_map sought_by (slice_get cs c.self.inside.recent)) (sym c.deref_mut-2.ensures.value)
    ∙ sought-at c.deref_mut-2.result.now c.self.inside.recent (omega arith)

was_chained : (c : After-take_next) → IsChained (arena c) c.deref_mut.result.now c.deref_mut-2.result.now
was_chained c =
    subst (λ z. IsChained (arena c) z c.deref_mut-2.result.now) (sym c.deref_mut.ensures.value)
    (subst (λ z. IsChained (arena c) c.self.inside.slots.items z) (sym c.deref_mut-2.ensures.value) c.self.invariant.chained)

was_held : (c : After-take_next) → held_in (arena c) c.deref_mut.result.now ≡ held_in (arena c) c.self.inside.slots.items
was_held c = ap (held_in (arena c)) c.deref_mut.ensures.value

as-sought : {X : Type 0} (c : After-take_next) (f : (KeyWaiting → Bool) → List KeyWaiting → X)
    → f (part_of (chain c)) (held_in (arena c) c.deref_mut.result.now) ≡ f (is_sought c.args.self.now.sought) c.args.self.now.held
as-sought c f =
    ap (f (part_of (chain c))) (was_held c)
    ∙ ap (λ (h : HeldOps). f (part_of (chain c)) h.held) c.self.view_is
    ∙ ap (λ s. f (is_sought s) c.args.self.now.held) (sym (walks c))

sought-kept : (c : After-take_next) → SameWalk (chain c) (chain_at c.take_next.new.chains c.self.inside.recent)
    → length c.take_next.new.chains ≡ length c.deref_mut-2.result.now
    → option_map sought_by (slice_get (with_items c.self.inside.chains c.take_next.new.chains).items c.self.inside.recent)
    ≡ c.args.self.now.sought
sought-kept c same long =
    ap (λ (cs : List Chain). option_map sought_by (slice_get cs c.self.inside.recent)) (chains_are c)
    ∙ sought-at c.take_next.new.chains c.self.inside.recent (omega arith)
    ∙ ap (λ s. Some s) (sought-same (chain c) (chain_at c.take_next.new.chains c.self.inside.recent) same) ∙ sym (walks c)

-- what was taken out of the slot o
Takes : After-take_next → Option ℕ → Type 0
Takes c o = TakesNext (arena c) c.deref_mut.result.now c.deref_mut-2.result.now c.take_next.new.slots c.take_next.new.chains
    c.self.inside.recent o

-- the invariant, where so many slots are dead
kept : (c : After-take_next) (o : Option ℕ) (dead : ℕ) → Takes c o
    → length (held_in (arena c) c.take_next.new.slots) + dead ≡ length c.self.inside.slots.items
    → AreSlots (arena c) (with_items c.self.inside.slots c.take_next.new.slots).items
    (with_items c.self.inside.chains c.take_next.new.chains).items dead o
unfolding Takes
kept c o dead t count = record {
  chained = subst (λ z. IsChained (arena c) z (with_items c.self.inside.chains c.take_next.new.chains).items) (sym (slots_are c))
      (subst (λ z. IsChained (arena c) c.take_next.new.slots z) (sym (chains_are c)) t.chained);
  count = ap (λ zs. length (held_in (arena c) zs) + dead) (slots_are c) ∙ count
      ∙ sym (ap length (slots_are c) ∙ c.take_next.auto.slots ∙ ap length c.deref_mut.ensures.value);
  within = subst (λ (zs : List Slot). IfSome o (λ i. i < length zs)) (sym (slots_are c)) t.within;
}

taken-kept : (c : After-take_next) (o : Option ℕ) → Takes c o
    → option_map (given_at (arena c) (with_items c.self.inside.slots c.take_next.new.slots).items) o
    ≡ option_map given (find (is_sought c.args.self.now.sought) c.args.self.now.held)
unfolding Takes
taken-kept c o t =
    ap (λ zs. option_map (given_at (arena c) zs) o) (slots_are c) ∙ t.taken ∙ as-sought c (λ p hs. option_map given (find p hs))

left-kept : (c : After-take_next) (o : Option ℕ) → Takes c o
    → held_in (arena c) (with_items c.self.inside.slots c.take_next.new.slots).items
    ≡ without_first (is_sought c.args.self.now.sought) c.args.self.now.held
unfolding Takes
left-kept c o t = ap (held_in (arena c)) (slots_are c) ∙ t.left ∙ as-sought c without_first

pub invariant_of-self-in-None : goal.invariant_of-self-in-None
unfolding Takes
invariant_of-self-in-None c =
    let a = (goal.at.invariant_of-self-in-None c).After-take_next in
    let t = c.in-None.ensures.taken (arena a) (was_chained a) in
    let held = held_in (arena a) c.deref_mut.result.now in
    let none = find-by_none (part_of (chain a)) given None held t.taken refl in
    let left = t.left ∙ without_first-none (part_of (chain a)) held none ∙ was_held a in
    kept a None c.self.inside.dead t (omega (arith, ap length left, c.self.invariant.count))

pub invariant_of-self-in-Some : goal.invariant_of-self-in-Some
unfolding Takes
invariant_of-self-in-Some c =
    let a = (goal.at.invariant_of-self-in-Some c).After-take_next in
    let t = c.in-Some.ensures.taken (arena a) (was_chained a) in
    let held = held_in (arena a) c.deref_mut.result.now in
    let some = find-by_some (part_of (chain a)) given (Some (given_at (arena a) c.take_next.new.slots c.in-Some.i)) held t.taken refl in
    let fewer = length-without_first (part_of (chain a)) held some.0 some.1 in
    kept a (Some c.in-Some.i) (c.self.inside.dead + 1) t
    (omega (arith, fewer, ap length t.left, ap length (was_held a), c.self.invariant.count))

pub returns-in-None-clause-taken : goal.returns-in-None-clause-taken
unfolding Takes
returns-in-None-clause-taken c =
    let a = (goal.at.returns-in-None-clause-taken c).After-take_next in
    taken-kept a None (c.in-None.ensures.taken (arena a) (was_chained a))

pub returns-in-None-clause-left : goal.returns-in-None-clause-left
unfolding Takes
returns-in-None-clause-left c =
    let a = (goal.at.returns-in-None-clause-left c).After-take_next in
    left-kept a None (c.in-None.ensures.taken (arena a) (was_chained a))

pub returns-in-None-clause-sought : goal.returns-in-None-clause-sought
returns-in-None-clause-sought c =
    sought-kept (goal.at.returns-in-None-clause-sought c).After-take_next c.in-None.ensures.walk c.in-None.ensures.chains

pub returns-in-Some-clause-taken : goal.returns-in-Some-clause-taken
unfolding Takes
returns-in-Some-clause-taken c =
    let a = (goal.at.returns-in-Some-clause-taken c).After-take_next in
    taken-kept a (Some c.in-Some.i) (c.in-Some.ensures.taken (arena a) (was_chained a))

pub returns-in-Some-clause-left : goal.returns-in-Some-clause-left
unfolding Takes
returns-in-Some-clause-left c =
    let a = (goal.at.returns-in-Some-clause-left c).After-take_next in
    left-kept a (Some c.in-Some.i) (c.in-Some.ensures.taken (arena a) (was_chained a))

pub returns-in-Some-clause-sought : goal.returns-in-Some-clause-sought
returns-in-Some-clause-sought c =
    sought-kept (goal.at.returns-in-Some-clause-sought c).After-take_next c.in-Some.ensures.walk c.in-Some.ensures.chains
