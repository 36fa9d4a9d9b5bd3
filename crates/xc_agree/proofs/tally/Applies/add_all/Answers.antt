use Rattle.std.proofs.Common.{[], ◌∷◌, ◌++◌, take, length-take, ap, sym, ◌∙◌, append_assoc, arith}
use Rattle.xc_agree.specs.Tally.{applies_in, writes}
use Rattle.xc_agree.proofs.TallyLaws.{count-within, applies-append, writes-append}
use Rattle.xc_agree.proofs.Steps.{add_item}
use Rattle.xc_agree.proofs.tally.Applies.add_all.Goals as goal

pub add-requires : goal.add-requires
add-requires c =
    let within = count-within (take c.loop-r.r-index c.args.records.now) in
    omega (arith, length-take c.loop-r.r-index c.args.records.now)

pub loop-r-preserved : goal.loop-r-preserved
loop-r-preserved c =
    let front = take c.loop-r.r-index c.args.records.now in
    let r = c.r-item.result in
    let more = add_item [] c.args.records.now c.loop-r.r-index r c.loop-r-test.true c.r-item.is in
    let w = sym (writes-append front (r ∷ [])) ∙ ap writes more in (
      c.in_ok-add.ensures.items ∙ ap (λ xs. xs ++ applies_in (r ∷ [])) c.loop-r.invariant.0
          ∙ append_assoc c.args.self.now.items.items (applies_in front) (applies_in (r ∷ []))
          ∙ ap (λ xs. c.args.self.now.items.items ++ xs) (sym (applies-append front (r ∷ [])) ∙ ap applies_in more),
      omega (arith, c.in_ok-add.ensures.writes),
    )
