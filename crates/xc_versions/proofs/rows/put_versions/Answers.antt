use Rattle.std.proofs.Common.{◌≡◌, ℕ, ◌+◌, ◌<◌, List, length, map, get_or, cond, refl, ap, sym, ◌∙◌, subst, arith}
use Rattle.std.proofs.lemmas.Bool.{le-leb}
use Rattle.std.proofs.lemmas.List.{length-map}
use Rattle.xc_record.specs.Rows.{put_row}
use Rattle.xc_versions.specs.Slots.{seen}
use Rattle.xc_versions.proofs.SplitLaws.{deque-long}
use Rattle.xc_versions.proofs.SlotLaws.{read-map}
use Rattle.xc_versions.proofs.RowsSeenLaws.{Seen, after_version, seen-more, seen-pass, seen-under}
use Rattle.xc_versions.proofs.rows.put_versions.Goals as goal
use Rattle.xc_versions.proofs.rows.put_versions.Goals.{then-is_shown+in_ok-put_version, else-is_shown}

pub put_version-requires-clause-under : goal.put_version-requires-clause-under
put_version-requires-clause-under c =
    let b = c.args.bytes.now in
    let slots = c.args.slots.now.items in
    let long = deque-long c.args.slots.now in
    let below = c.loop-i-test.true in
    let end = c.len-i-end.ensures in
    let count = length-map slots (seen b) in
    seen-under c.args.t c.args.rows.now.items c.loop-i.rows.items (map (seen b) slots) c.loop-i.i (seen b c.index-slot.result.now)
    c.loop-i.invariant (omega arith) (read-map (seen b) slots c.loop-i.i c.index-slot.result.now (omega arith) c.index-slot.ensures)

pub loop-i-preserved : goal.loop-i-preserved
loop-i-preserved c =
    let b = c.args.bytes.now in
    let t = c.args.t in
    let slots = c.args.slots.now.items in
    let versions = map (seen b) slots in
    let x = seen b c.index-slot.result.now in
    let rows = c.loop-i.rows.items in
    let count = length-map slots (seen b) in
    let within : c.loop-i.i < length slots =
    let long = deque-long c.args.slots.now in let below = c.loop-i-test.true in let end = c.len-i-end.ensures in omega arith in
    let read : x ≡ get_or versions c.loop-i.i x =
    read-map (seen b) slots c.loop-i.i c.index-slot.result.now within c.index-slot.ensures in
    let long : c.loop-i.i < length versions = omega arith in
    elim c.if-is_shown.branch [
      | then-is_shown+in_ok-put_version w ↦
          let after : after_version t x rows ≡ c.if-is_shown.rows.items =
          ap (λ b. cond b (put_row x.key x.value rows) rows) (le-leb x.commit t (w.if-is_shown.ensures.put refl x read))
          ∙ sym (ap (λ v. v.items) w.rows-is ∙ w.in_ok-put_version.ensures) in
          subst (λ (r : List (List ℕ × List ℕ)). Seen t c.args.rows.now.items r versions (c.loop-i.i + 1)) after
          (seen-more t c.args.rows.now.items rows versions c.loop-i.i x c.loop-i.invariant long read)
      | else-is_shown w ↦
          subst (λ (r : List (List ℕ × List ℕ)). Seen t c.args.rows.now.items r versions (c.loop-i.i + 1))
          (sym (ap (λ v. v.items) w.rows-is))
          (seen-pass t c.args.rows.now.items rows versions c.loop-i.i x c.loop-i.invariant long read (w.if-is_shown.ensures.passed refl))
    ]
