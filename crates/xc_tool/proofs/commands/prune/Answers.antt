use Rattle.xc_tool.proofs.StepLines.{prune-line, prune-closed, prune-early}
use Rattle.xc_tool.proofs.commands.prune.Goals as goal

pub returns-in-Ok-clause-step : goal.returns-in-Ok-clause-step
returns-in-Ok-clause-step c =
    λ logs m is st. prune-line logs m c.args.u c.in-Ok.cutoff _ (c.in-Ok.ensures.step logs m is st)

pub returns-in-Err-Closed-clause-step : goal.returns-in-Err-Closed-clause-step
returns-in-Err-Closed-clause-step c =
    λ logs m is st. prune-closed logs m c.args.u c.in-Err-Closed.t c.in-Err-Closed.field-0 _ c.in-Err-Closed.field-0-is
    (c.in-Err-Closed.ensures.step logs m is st)

pub returns-in-Err-Ahead-clause-step : goal.returns-in-Err-Ahead-clause-step
returns-in-Err-Ahead-clause-step c =
    λ logs m is st. prune-early logs m c.args.u c.in-Err-Ahead.safe c.in-Err-Ahead.field-0 _ c.in-Err-Ahead.field-0-is
    (c.in-Err-Ahead.ensures.step logs m is st)
