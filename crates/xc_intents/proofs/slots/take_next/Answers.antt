use Rattle.std.proofs.Common.{◌<◌, List, length, Some, None, sym, subst, ap, ◌∙◌, arith}
use Rattle.std.specs.Option.{option_map}
use Rattle.std.proofs.lemmas.List.{length-set}
use Rattle.xc_intents.specs.HeldOps.{given}
use Rattle.xc_intents.specs.declared.slots.Slot.{Slot}
use Rattle.xc_intents.specs.Slots.{IsChained, IsFirst, at, chain_at, dead, held_in, slot_op, walk_of, part_of}
use Rattle.xc_intents.proofs.IntentLaws.{without_first-none}
use Rattle.xc_intents.proofs.Chains.{at-set_same, length-bare}
use Rattle.xc_intents.proofs.Walks.{held-same, none-found, found-op, found-left, found-as, chained-same, chained-dies}
use Rattle.xc_intents.proofs.slots.take_next.Goals as goal

pub returns-in-None-clause-slots : goal.returns-in-None-clause-slots
returns-in-None-clause-slots c = length-bare c.args.slots.now c.seek.new.slots c.in-None.ensures.moves.slots

pub returns-in-None-clause-taken : goal.returns-in-None-clause-taken
returns-in-None-clause-taken c = λ b h.
    let d = chain_at c.args.chains.now c.args.e in
    let moves = c.in-None.ensures.moves in
    let none = none-found b c.args.slots.now c.seek.new.slots d.txn d.lo d.hi moves.slots h.holds
    (found-as c.seek.new.slots d (chain_at c.seek.new.chains c.args.e) None moves.walk c.in-None.ensures.found) in
    record {
      chained = chained-same b c.args.slots.now c.seek.new.slots d.txn d.lo d.hi moves.slots h.holds c.seek.new.chains moves.linked
          h.small (omega (arith, moves.chains, h.few));
      within = tt;
      taken = sym (ap (option_map given) none);
      left = held-same b c.args.slots.now c.seek.new.slots moves.slots
          ∙ sym (without_first-none (part_of d) (held_in b c.args.slots.now) none);
    }

pub returns-in-Some-clause-slots : goal.returns-in-Some-clause-slots
returns-in-Some-clause-slots c =
    ap length c.take_out.ensures ∙ length-set c.seek.new.slots c.in-Some.i (dead (at c.seek.new.slots c.in-Some.i))
    ∙ length-bare c.args.slots.now c.seek.new.slots c.in-Some.ensures.moves.slots

pub returns-in-Some-clause-taken : goal.returns-in-Some-clause-taken
returns-in-Some-clause-taken c = λ b h.
    let d = chain_at c.args.chains.now c.args.e in
    let moves = c.in-Some.ensures.moves in
    let chained = chained-same b c.args.slots.now c.seek.new.slots d.txn d.lo d.hi moves.slots h.holds c.seek.new.chains moves.linked
    h.small (omega (arith, moves.chains, h.few)) in
    let found : IsFirst c.seek.new.slots (walk_of d.txn d.lo d.hi) c.in-Some.i =
    found-as c.seek.new.slots d (chain_at c.seek.new.chains c.args.e) (Some c.in-Some.i) moves.walk c.in-Some.ensures.found in
    record {
      chained = subst (λ z. IsChained b z c.seek.new.chains) (sym c.take_out.ensures)
          (chained-dies b c.seek.new.slots c.seek.new.chains c.in-Some.i c.in-Some.ensures.found.below chained);
      within = subst (λ (z : List Slot). c.in-Some.i < length z) (sym c.take_out.ensures)
          (omega (arith, length-set c.seek.new.slots c.in-Some.i (dead (at c.seek.new.slots c.in-Some.i)), c.in-Some.ensures.found.below));
      taken = ap (λ (s : Slot). Some (given (slot_op b s)))
          (ap (λ z. at z c.in-Some.i) c.take_out.ensures
          ∙ at-set_same c.seek.new.slots c.in-Some.i (dead (at c.seek.new.slots c.in-Some.i)) c.in-Some.ensures.found.below)
          ∙ sym (ap (option_map given)
          (found-op b c.args.slots.now c.seek.new.slots d.txn d.lo d.hi moves.slots h.holds c.in-Some.i found));
      left = ap (held_in b) c.take_out.ensures
          ∙ found-left b c.args.slots.now c.seek.new.slots d.txn d.lo d.hi moves.slots h.holds c.in-Some.i found;
    }
