use Rattle.std.proofs.Common.{List, subst, ◌∙◌}
use Rattle.std.specs.Prelude.{option_and_then, map}
use Rattle.std.proofs.lemmas.List.{take_all}
use Rattle.xc_agree.specs.Slots.{time_of}
use Rattle.xc_agree.specs.Seen.{IsLeast, kind_tried, is_among}
use Rattle.xc_agree.specs.declared.look.Waiter.{Waiter}
use Rattle.xc_agree.proofs.LookLaws.{try-waiter, try-all, txn_of}
use Rattle.xc_agree.proofs.look.Look.finish.Goals as goal

pub loop-waiter-preserved : goal.loop-waiter-preserved
loop-waiter-preserved c = λ seen h.
    let items : List Waiter = c.as_slice-waiter-items.result.now in
    let none : Waiter = record { txn = 0; slot = 0 } in
    try-waiter c.args.self.now c.args.commits.now seen c.loop-waiter.found c.straggler-found.result items c.loop-waiter.waiter-index none h
    c.as_slice-waiter-items.ensures.value c.loop-waiter-test.true c.straggler-found.ensures (c.loop-waiter.invariant seen h)

pub returns : goal.returns
returns c = λ seen h.
    let items : List Waiter = c.as_slice-waiter-items.result.now in
    try-all c.args.self.now c.args.commits.now seen c.loop-waiter.found h
    (subst (λ (ws : List Waiter). IsLeast c.loop-waiter.found
    (λ n. option_and_then (λ x. kind_tried (is_among n (map txn_of ws)) x (seen n x)) (time_of c.args.commits.now n)))
    (take_all c.loop-waiter.waiter-index items c.loop-waiter-test.false
    ∙ c.as_slice-waiter-items.ensures.value) (c.loop-waiter.invariant seen h))
