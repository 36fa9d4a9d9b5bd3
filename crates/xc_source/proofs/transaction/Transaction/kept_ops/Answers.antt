use Rattle.std.proofs.Common.{◌≡◌, ◌∙◌, ◌++◌, ◌∷◌, [], ap, sym, arith, true, false, map, filter, take, get_or, length, ◌<◌}
use Rattle.std.proofs.Common.{if◌then◌else◌, append-nil}
use Rattle.std.proofs.lemmas.Grind.{common_steps}
use Rattle.xc_record.specs.Lists.{has}
use Rattle.xc_source.proofs.WaitingLaws.{keeps, kept-next}
use Rattle.xc_source.proofs.transaction.Transaction.kept_ops.Goals as goal
use Rattle.xc_source.proofs.transaction.Transaction.kept_ops.Goals.{then-not-contains+in_ok-push_at, else-not-contains}

pub loop-write-preserved : goal.loop-write-preserved
loop-write-preserved c =
    let t = c.args.self.now in
    let i = c.loop-write.write-index in
    let v = c.write-item.result in
    let within : i < length t.writes = grind (arith, common_steps) in
    let at : v ≡ get_or t.writes i v = grind (arith, common_steps) in
    let next = kept-next t.undone t.writes i v within at in
    let before = map (λ w. w.op) (filter (keeps t.undone) (take i t.writes)) in
    let asked : c.contains.result ≡ has v.sub t.undone = grind (arith, common_steps) in
    elim c.if-not-contains.branch [
      | then-not-contains+in_ok-push_at w ↦
          let test : keeps t.undone v ≡ true = grind (arith, common_steps) in
          let pushed : w.push_at.new.self ≡ c.loop-write.room ++ v.op ∷ [] = grind (arith, common_steps) in
          w.room-is ∙ pushed ∙ ap (λ os. os ++ v.op ∷ []) c.loop-write.invariant
          ∙ ap (λ b. before ++ (if b then v.op ∷ [] else [])) (sym test) ∙ sym next
      | else-not-contains w ↦
          let test : keeps t.undone v ≡ false = grind (arith, common_steps) in
          w.room-is ∙ c.loop-write.invariant ∙ sym (append-nil before)
          ∙ ap (λ b. before ++ (if b then v.op ∷ [] else [])) (sym test) ∙ sym next
    ]
