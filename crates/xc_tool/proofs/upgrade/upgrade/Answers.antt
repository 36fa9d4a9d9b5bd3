use Rattle.xc_run.proofs.Gets.{got_logs}
use Rattle.xc_run.proofs.Runs.{ran_written, ran_ended}
use Rattle.xc_tool.specs.Outcome.{upgrade_input, upgrade_output, refusal_output}
use Rattle.xc_tool.proofs.Statuses.{never_ended, upgrade_in_order, ended_in_order, upgrade_stops_in_order}
use Rattle.xc_tool.proofs.upgrade.upgrade.Goals as goal

pub returns-in-Ok-clause-ran : goal.returns-in-Ok-clause-ran
returns-in-Ok-clause-ran g c = λ script same.
    ran_written refusal_output (λ a b. upgrade_input a) upgrade_output _ _ _ _ _ _ (got_logs upgrade_input _ _ _ c.in-Ok.ensures.took same)
    c.print_upgraded.ensures

pub returns-in-Ok-clause-order : goal.returns-in-Ok-clause-order
returns-in-Ok-clause-order g c = λ script same. upgrade_in_order _ _ _ _ _ _ c.print_upgraded.ensures

pub returns-in-Err-clause-ran : goal.returns-in-Err-clause-ran
returns-in-Err-clause-ran g c = λ script same.
    ran_ended refusal_output never_ended (λ a b. upgrade_input a) upgrade_output _ _ _ _ _ _
    (got_logs upgrade_input _ _ _ c.in-Err.ensures.took same) c.end.ensures

pub returns-in-Err-clause-order : goal.returns-in-Err-clause-order
returns-in-Err-clause-order g c =
    λ script same. ended_in_order _ _ _ _ _ _ (upgrade_stops_in_order _ _ _ c.in-Err.ensures.took same) c.end.ensures
