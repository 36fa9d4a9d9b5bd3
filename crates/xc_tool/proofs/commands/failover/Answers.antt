use Rattle.std.proofs.Common.{refl, Some}
use Rattle.xc_record.specs.declared.session.Command.TheVariants as command
use Rattle.xc_tool.proofs.StepLines.{closed-legal, closed-line, failed-over, ok-then, told-answers}
use Rattle.xc_tool.proofs.commands.failover.Goals as goal

pub returns-in-Ok-clause-step : goal.returns-in-Ok-clause-step
returns-in-Ok-clause-step c =
    λ logs m is st agree.
    let made = c.in-Ok.ensures.step logs m is st in
    let legal = closed-legal logs m c.in-Ok.t st.valid is made.1.still_open made.0 in
    ok-then c.restored.result (c.restored.ensures.step logs (record m { closed = Some c.in-Ok.t }) legal made.1.stands agree)
    (λ a k. failed-over logs m c.in-Ok.t a.text a.halted _ made.0 made.1 k.0 k.1)

pub returns-in-Err-clause-step : goal.returns-in-Err-clause-step
returns-in-Err-clause-step c =
    λ logs m is st agree.
    let closed = closed-line logs m command.Failover c.in-Err.closed.t _ refl (c.in-Err.ensures.step logs m is st) in
    ok-then c.line_answer.result c.line_answer.ensures.told (λ a k. told-answers logs m command.Failover _ _ a.text a.halted closed k)
