use Rattle.std.proofs.Common.{refl}
use Rattle.xc_record.specs.declared.session.Command.TheVariants as command
use Rattle.xc_tool.proofs.StepLines.{closed-line, restarted}
use Rattle.xc_tool.proofs.commands.restart.Goals as goal

pub returns-in-Ok-clause-step : goal.returns-in-Ok-clause-step
returns-in-Ok-clause-step c =
    λ logs m is st. restarted logs m c.args.id c.in-Ok.place _ (c.in-Ok.ensures.step logs m is st)

pub returns-in-Err-clause-step : goal.returns-in-Err-clause-step
returns-in-Err-clause-step c =
    λ logs m is st. closed-line logs m (command.Restart c.args.id) c.in-Err.closed.t _ refl (c.in-Err.ensures.step logs m is st)
