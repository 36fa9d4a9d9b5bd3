use Rattle.std.proofs.Common.{◌≡◌, ℕ, ◌+◌, ◌<◌, ◌≤◌, List, length, get_or, set, take, ap, sym, subst, ◌∙◌, arith}
use Rattle.std.proofs.Common.{length-append}
use Rattle.std.proofs.lemmas.List.{get_or_default}
use Rattle.xc_record.specs.Packed.{encode_op}
use Rattle.xc_versions.specs.declared.stored.Slot.{Slot}
use Rattle.xc_arena.specs.Arena.{op_at}
use Rattle.xc_versions.specs.Slots.{bytes_of}
use Rattle.xc_versions.proofs.AddLaws.{vec-long}
use Rattle.xc_versions.proofs.SplitLaws.{deque-long}
use Rattle.xc_versions.proofs.CompactLaws.{Moving, moving-more, still-old, bytes-within}
use Rattle.xc_versions.proofs.compact.move_page.Goals as goal

-- the bytes of one slot more fit
fits : (b first : List ℕ) (old : List Slot) (to : List ℕ) (items : List Slot) (i : ℕ) (x : Slot) → Moving b first old to items i
    → i < length items → x ≡ get_or items i x
    → length to + length (encode_op (op_at b x.at)) ≤ length first + length (bytes_of b old)
fits b first old to items i x m h e =
    let long = m.long in
    let within = bytes-within b old i x (omega arith) (still-old old items i x m.rest h (omega arith) e) in
    let is = ap length m.to_is in
    let parts = length-append first (bytes_of b (take i old)) in
    omega arith

pub move_op-at-requires-clause-room : goal.move_op-at-requires-clause-room
move_op-at-requires-clause-room c =
    let m = c.loop-i.invariant.moving in
    let long = m.long in
    let count = deque-long c.args.items.now in
    let end = c.len-i-end.ensures in
    let more = fits c.args.bytes.now c.args.to.now.items c.args.items.now.items c.loop-i.to.items c.loop-i.items.items c.loop-i.i
    c.index.result.now m (omega arith) c.index.ensures in
    let first_long = vec-long c.args.to.now in
    let to_long = vec-long c.loop-i.to in
    let capacity = c.loop-i.invariant.to_capacity in
    omega arith

abbrev moved-to : Slot → ℕ → Slot
moved-to s n = record s { at = n }

pub loop-i-preserved : goal.loop-i-preserved
loop-i-preserved c =
    let b = c.args.bytes.now in
    let first = c.args.to.now.items in
    let old = c.args.items.now.items in
    let to = c.loop-i.to.items in
    let items = c.loop-i.items.items in
    let i = c.loop-i.i in
    let x = c.index.result.now in
    let m = c.loop-i.invariant.moving in
    let long = m.long in
    let count = deque-long c.args.items.now in
    let end = c.len-i-end.ensures in
    let below = c.loop-i-test.true in
    let within : i < length items = omega arith in
    let same : c.index_mut-slot.result.now ≡ x =
    c.index_mut-slot.ensures.value ∙ get_or_default items i c.index_mut-slot.result.now x within ∙ sym c.index.ensures in
    let slot = moved-to c.index_mut-slot.result.now c.move_op-at.result in
    let is : slot ≡ moved-to x (length to) =
    ap (λ (s : Slot). moved-to s c.move_op-at.result) same ∙ ap (moved-to x) c.move_op-at.ensures.place in
    let had = c.loop-i.invariant.to_capacity in
    let grew = c.move_op-at.ensures.capacity in
    record {
      moving = subst (λ (w : List ℕ). Moving b first old w (set items i slot) (i + 1)) (sym c.move_op-at.ensures.items)
          (moving-more b first old to items i x slot c.requires.slots m within c.index.ensures is);
      to_capacity = omega arith;
      capacity = c.loop-i.invariant.capacity;
    }
