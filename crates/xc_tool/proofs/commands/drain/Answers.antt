use Rattle.std.proofs.Common.{◌∙◌}
use Rattle.std.proofs.lemmas.Option.{IfSome_then}
use Rattle.xc_record.specs.declared.session.Command.TheVariants as command
use Rattle.xc_record.specs.Step.{drained}
use Rattle.xc_tool.proofs.StepLines.{drained-legal, drained-answers, drain-closed, ok-then, told-answers}
use Rattle.xc_tool.proofs.commands.drain.Goals as goal

pub returns-in-Ok-clause-step : goal.returns-in-Ok-clause-step
returns-in-Ok-clause-step g c =
    IfSome_then (g.F.Feed.logs c.args.feed.now) c.in-Ok.ensures.drained (λ logs f m is st.
    let made = f m is st in
    let legal = drained-legal logs m st.valid is made.1.still_open in
    ok-then c.halts_answer.result c.halts_answer.ensures.told (λ a k.
    drained-answers logs m _ c.deref.result.now a.text a.halted c.drain.new.self (c.safe.ensures logs (drained logs m) legal made.1.stands)
    (c.deref.ensures.value ∙ made.0) made.1 k.0 k.1))

pub returns-in-Err-Closed-clause-step : goal.returns-in-Err-Closed-clause-step
returns-in-Err-Closed-clause-step g c =
    IfSome_then (g.F.Feed.logs c.args.feed.now) c.in-Err-Closed.ensures.failed (λ logs f m is st.
    let closed = drain-closed logs m c.in-Err-Closed.t c.in-Err-Closed.field-0 _ c.in-Err-Closed.field-0-is (f m is st) in
    ok-then c.line_answer.result c.line_answer.ensures.told (λ a k. told-answers logs m command.Drain _ _ a.text a.halted closed k))
