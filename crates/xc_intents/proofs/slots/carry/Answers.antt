use Rattle.std.proofs.Common.{◌≡◌, ℕ, ◌+◌, ◌<◌, ◌++◌, List, length, get_or, set, ap, sym, subst, ◌∙◌, arith}
use Rattle.xc_record.specs.Packed.{encode_op}
use Rattle.xc_arena.specs.Arena.{op_at, Lies}
use Rattle.xc_intents.specs.declared.slots.Slot.{Slot}
use Rattle.xc_intents.specs.Slots.{at}
use Rattle.xc_intents.proofs.Carries.{Carrying, carrying-fits, carrying-more}
use Rattle.xc_intents.proofs.Chains.{slot-read}
use Rattle.xc_intents.proofs.slots.carry.Goals as goal

abbrev placed : Slot → ℕ → Slot
placed s n = record s { at = n }

-- the slot that is read is still the old one
read : (xs ys : List Slot) (i : ℕ) (d : Slot) → length ys ≡ length xs → i < length xs → at ys i ≡ at xs i → get_or ys i d ≡ at xs i
read xs ys i d long h e = slot-read ys i d (omega arith) ∙ e

pub move_op-at-requires-clause-lies : goal.move_op-at-requires-clause-lies
move_op-at-requires-clause-lies c =
    let xs = c.args.slots.now in
    let i = c.loop-i.i in
    let m = c.loop-i.invariant.carrying in
    let long = m.long in
    let within : i < length xs = omega arith in
    subst (λ (s : Slot). Lies c.args.bytes.now s.at) (sym (read xs c.loop-i.slots i _ m.long within (m.rest i (omega arith))))
    (c.requires.holds i within).lies

pub move_op-at-requires-clause-room : goal.move_op-at-requires-clause-room
move_op-at-requires-clause-room c =
    let b = c.args.bytes.now in
    let xs = c.args.slots.now in
    let ys = c.loop-i.slots in
    let i = c.loop-i.i in
    let to = c.loop-i.to.items in
    let m = c.loop-i.invariant.carrying in
    let long = m.long in
    let within : i < length xs = omega arith in
    let fits = carrying-fits b xs (length c.args.to.now.items) to ys i m within in
    let same = ap (λ (s : Slot). length (encode_op (op_at b s.at))) (slot-read ys i c.index-slots-i.result (omega arith)) in
    let room = c.requires.room in
    let capacity = c.loop-i.invariant.capacity in
    omega (arith, c.loop-i.to.ok.0, c.args.to.now.ok.0)

pub loop-i-preserved : goal.loop-i-preserved
loop-i-preserved c =
    let b = c.args.bytes.now in
    let xs = c.args.slots.now in
    let first = length c.args.to.now.items in
    let to = c.loop-i.to.items in
    let ys = c.loop-i.slots in
    let i = c.loop-i.i in
    let old = c.index-slots-i-in-loop-i.result in
    let m = c.loop-i.invariant.carrying in
    let long = m.long in
    let within : i < length xs = omega arith in
    let items : c.move_op-at.new.to.items ≡ to ++ encode_op (op_at b (at xs i).at) =
    c.move_op-at.ensures.items
    ∙ ap (λ (s : Slot). to ++ encode_op (op_at b s.at)) (read xs ys i c.index-slots-i.result m.long within (m.rest i (omega arith))) in
    record {
      carrying = subst (λ (w : List ℕ). Carrying b xs first w (set ys i (placed (get_or ys i old) c.move_op-at.result)) (i + 1)) (sym items)
          (carrying-more b xs first to ys i (placed (get_or ys i old) c.move_op-at.result) within c.requires.holds m
          (ap (λ (s : Slot). placed s c.move_op-at.result) (slot-read ys i old (omega arith))
          ∙ ap (placed (at ys i)) c.move_op-at.ensures.place));
      capacity = omega (arith, c.loop-i.invariant.capacity, c.move_op-at.ensures.capacity);
    }
