use Rattle.std.proofs.Common.{◌≡◌, ◌+◌, ◌<◌, length, map, not, Bool, true, false, sym, ◌∙◌, arith}
use Rattle.std.proofs.lemmas.Bool.{le-leb, lt-leb}
use Rattle.std.proofs.lemmas.List.{length-map}
use Rattle.std.proofs.lemmas.Slice.Eq.{bytes_eq-Decides}
use Rattle.xc_arena.specs.Arena.{key_at}
use Rattle.xc_versions.specs.Slots.{seen}
use Rattle.xc_versions.proofs.SplitLaws.{deque-long}
use Rattle.xc_versions.proofs.SlotLaws.{read-map}
use Rattle.xc_versions.proofs.RowsSeenLaws.{may-pass_later, may-pass_hidden}
use Rattle.xc_versions.proofs.rows.is_shown.Goals as goal

pub returns-then-slot-t-clause-passed : goal.returns-then-slot-t-clause-passed
returns-then-slot-t-clause-passed c = λ _.
    let b = c.args.bytes.now in
    let slots = c.args.slots.now.items in
    let x = seen b c.index-slot.result.now in
    may-pass_later c.args.t (map (seen b) slots) c.args.i x (omega (arith, length-map slots (seen b), c.requires.within))
    (read-map (seen b) slots c.args.i c.index-slot.result.now c.requires.within c.index-slot.ensures)
    (lt-leb x.commit c.args.t c.if-slot-t.true)

not-false : (b : Bool) → not b ≡ false → b ≡ true
not-false true e = cc
not-false false e = cc

pub returns-else-next-t-clause-passed : goal.returns-else-next-t-clause-passed
returns-else-next-t-clause-passed c = λ e.
    let b = c.args.bytes.now in
    let slots = c.args.slots.now.items in
    let x = seen b c.index-slot.result.now in
    let y = seen b c.index-next.result.now in
    let next : c.args.i + 1 < length slots =
    let long = deque-long c.args.slots.now in let below = c.if-i-len.false in let end = c.len.ensures in omega arith in
    may-pass_hidden c.args.t (map (seen b) slots) c.args.i x y (omega (arith, length-map slots (seen b), next))
    (read-map (seen b) slots c.args.i c.index-slot.result.now c.requires.within c.index-slot.ensures)
    (read-map (seen b) slots (c.args.i + 1) c.index-next.result.now next c.index-next.ensures)
    ((bytes_eq-Decides (key_at b c.index-slot.result.now.at) (key_at b c.index-next.result.now.at)).0
    (sym c.is_of_key.ensures ∙ not-false c.is_of_key.result e))
    (le-leb y.commit c.args.t c.if-next-t.false)
