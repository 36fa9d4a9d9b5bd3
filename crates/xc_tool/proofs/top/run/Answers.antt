use Rattle.std.proofs.Common.{sym, ◌∙◌}
use Rattle.xc_tool.proofs.Statuses.{usage_ran, no_command}
use Rattle.xc_tool.proofs.top.run.Goals as goal

pub returns-clause-usage : goal.returns-clause-usage
returns-clause-usage g c e = sym c.form_of.ensures.form ∙ usage_ran _ _ _ _ _ _ c.dispatch.ensures.ran e

pub returns-clause-no_command : goal.returns-clause-no_command
returns-clause-no_command g c e = no_command _ _ _ _ _ c.dispatch.ensures.ran (c.form_of.ensures.form ∙ e)
