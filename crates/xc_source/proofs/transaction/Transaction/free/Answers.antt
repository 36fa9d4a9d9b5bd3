use Rattle.std.proofs.Common.{◌≡◌, ◌∙◌, ap, sym, arith, ◌&&◌, bytes_eq, get_or, if◌then◌else◌, None, ℕ, BTreeMap}
use Rattle.std.specs.BTreeMap.{get}
use Rattle.std.specs.Cmp.Lexicographic.{slice_cmp}
use Rattle.std.specs.Ordering.{nat_cmp}
use Rattle.xc_base.specs.declared.name.Key.{Key}
use Rattle.std.proofs.lemmas.Grind.{common_steps}
use Rattle.xc_source.proofs.HolderLaws.{freed-next, same-key}
use Rattle.xc_source.proofs.transaction.Transaction.free.Goals as goal
use Rattle.xc_source.proofs.transaction.Transaction.free.Goals.{then-waits, else-waits}

pub loop-write-preserved : goal.loop-write-preserved
loop-write-preserved c = λ key.
    let at : c.write-item.result ≡ get_or c.args.self.now.writes c.loop-write.write-index c.write-item.result = grind
    (arith, common_steps) in
    elim c.if-waits.branch [
      | then-waits w ↦ freed-next c.args.self.now.writes c.loop-write.write-index c.write-item.result key _ _ _
          (grind (arith, common_steps)) at
          (c.loop-write.invariant key)
          (ap (λ (h : BTreeMap Key ℕ). get (slice_cmp nat_cmp) h key) w.holders-is ∙ w.remove.ensures.updates.0 key
          ∙ ap (λ b. if b then None else get (slice_cmp nat_cmp) c.loop-write.holders key)
          (same-key w.key.result key ∙ ap (bytes_eq key) w.key.ensures
          ∙ ap (λ x. x && bytes_eq key c.write-item.result.op.key) (sym w.if-waits.true ∙ c.waits.ensures)))
      | else-waits w ↦ freed-next c.args.self.now.writes c.loop-write.write-index c.write-item.result key _ _ _
          (grind (arith, common_steps)) at
          (c.loop-write.invariant key)
          (ap (λ (h : BTreeMap Key ℕ). get (slice_cmp nat_cmp) h key) w.holders-is
          ∙ ap (λ x. if (x && bytes_eq key c.write-item.result.op.key) then None else get (slice_cmp nat_cmp) c.loop-write.holders key)
          (sym w.if-waits.false ∙ c.waits.ensures))
    ]
