use Rattle.std.proofs.Common.{◌≡◌, ◌+◌, List, [], ◌∷◌, ◌++◌, length, map, sym, subst, ap, ◌∙◌, refl, arith}
use Rattle.std.specs.Vec.{with_items}
use Rattle.std.proofs.lemmas.List.{with_items_is, length_push}
use Rattle.xc_intents.specs.declared.slots.Slot.{Slot}
use Rattle.xc_record.specs.Hash.{hash_of}
use Rattle.xc_record.specs.declared.record.Op.{Op}
use Rattle.xc_arena.specs.Arena.{op_at, Lies}
use Rattle.xc_intents.specs.HeldOps.{held_op}
use Rattle.xc_intents.specs.Slots.{Linked, IsChained, Keeps, Holds, bare, slot_op, held_in, fresh}
use Rattle.xc_intents.proofs.Chains.{length-bare}
use Rattle.xc_intents.proofs.Walks.{Linked-push, held-push, holds-push, holds-same, held-same}
use Rattle.xc_intents.proofs.Carries.{holds-more, held-more}
use Rattle.xc_intents.proofs.slots.append.Goals as goal
use Rattle.xc_intents.proofs.slots.append.Goals.{After-link}

pub link-requires-clause-linked : goal.link-requires-clause-linked
link-requires-clause-linked c =
    let xs = c.args.slots.now.items in
    let n : c.len-i.result ≡ length xs = omega (arith, c.args.slots.now.ok.0) in
    let ys : List Slot = xs ++ fresh c.args.txn c.args.sub c.args.op.now.key c.len-at.result ∷ [] in
    let pushed = subst (Linked ys c.args.chains.now.items) (sym n)
    (Linked-push xs c.args.chains.now.items
    (fresh c.args.txn c.args.sub c.args.op.now.key c.len-at.result) c.requires.chained.linked) in
    let slots : c.deref_mut.result.now ≡ ys =
    c.deref_mut.ensures.value ∙ c.put_last.ensures.slots
    ∙ ap (λ k. xs ++ fresh c.args.txn c.args.sub k c.len-at.result ∷ []) c.key_bytes.ensures.bytes in
    subst (λ z. Linked z c.deref_mut-2.result.now c.len-i.result) (sym slots)
    (subst (λ z. Linked ys z c.len-i.result) (sym c.deref_mut-2.ensures.value) (c.open-e.ensures.linked ys c.len-i.result pushed))

-- the slots, but for their links, are those before and one more
pushed : (c : After-link)
    → map bare c.link.new.slots ≡ map bare
    (c.args.slots.now.items ++ fresh c.args.txn c.args.sub c.args.op.now.key c.len-at.result ∷ [])
pushed c = c.link.ensures.same ∙ ap (map bare)
    (c.deref_mut.ensures.value ∙ c.put_last.ensures.slots
    ∙ ap (λ k. c.args.slots.now.items ++ fresh c.args.txn c.args.sub k c.len-at.result ∷ []) c.key_bytes.ensures.bytes)

slots_are : (c : After-link) → (with_items c.put_last.new.slots c.link.new.slots).items ≡ c.link.new.slots
slots_are c =
    let long = length-bare _ c.link.new.slots c.link.ensures.same in
    with_items_is c.put_last.new.slots c.link.new.slots (omega (arith, long, c.deref_mut.ensures.len))

chains_are : (c : After-link) → (with_items c.open-e.new.chains c.link.new.chains).items ≡ c.link.new.chains
chains_are c = with_items_is c.open-e.new.chains c.link.new.chains (omega (arith, c.link.ensures.chains, c.deref_mut-2.ensures.len))

-- the operation lies where the arena ended
place : (c : After-link) → c.len-at.result ≡ length c.args.arena.now.items
place c = omega (arith, c.args.arena.now.ok.0)

abbrev slot : After-link → Slot
slot c = fresh c.args.txn c.args.sub c.args.op.now.key c.len-at.result

op : (c : After-link) → op_at c.copy_op.new.bytes.items c.len-at.result ≡ c.args.op.now
op c = ap (op_at c.copy_op.new.bytes.items) (place c) ∙ c.copy_op.ensures.op

keeps : (c : After-link) → Keeps c.copy_op.new.bytes.items (slot c)
keeps c = record {
  lies = subst (Lies c.copy_op.new.bytes.items) (sym (place c)) c.copy_op.ensures.lies;
  hashed = ap (λ (o : Op). hash_of o.key) (sym (op c));
}

pub returns-clause-chained : goal.returns-clause-chained
returns-clause-chained c =
    let xs = c.args.slots.now.items in
    let b = c.args.arena.now.items in
    let d = c.copy_op.new.bytes.items in
    let a = (goal.at.returns-clause-chained c).After-link in
    let long = length-bare _ c.link.new.slots (pushed a) in
    let one = length_push xs (slot a) in
    let n : c.len-i.result + 1 ≡ length c.link.new.slots = omega (arith, c.args.slots.now.ok.0) in
    let old : Holds d xs = subst (λ w. Holds w xs) (sym c.copy_op.ensures.items) (holds-more b _ xs c.requires.chained.holds) in
    let chained : IsChained d c.link.new.slots c.link.new.chains = record {
      linked = subst (Linked c.link.new.slots c.link.new.chains) n c.link.ensures.linked;
      holds = holds-same d _ c.link.new.slots (pushed a) (holds-push d xs (slot a) (keeps a) old);
      small = omega (arith, c.args.slots.now.ok.0);
      few = omega (arith, c.link.ensures.chains, c.deref_mut-2.ensures.len, c.open-e.ensures.len, c.requires.few);
    } in
    subst (λ z. IsChained d z (with_items c.open-e.new.chains c.link.new.chains).items) (sym (slots_are a))
    (subst (λ z. IsChained d c.link.new.slots z) (sym (chains_are a)) chained)

pub returns-clause-held : goal.returns-clause-held
returns-clause-held c =
    let xs = c.args.slots.now.items in
    let b = c.args.arena.now.items in
    let d = c.copy_op.new.bytes.items in
    let a = (goal.at.returns-clause-held c).After-link in
    ap (held_in d) (slots_are a) ∙ held-same d _ c.link.new.slots (pushed a) ∙ held-push d xs (slot a) refl
    ∙ ap (λ ws. ws ++ slot_op d (slot a) ∷ []) (ap (λ w. held_in w xs) c.copy_op.ensures.items ∙ held-more b _ xs c.requires.chained.holds)
    ∙ ap (λ o. held_in b xs ++ held_op c.args.txn c.args.sub o ∷ []) (op a)
