use Rattle.xc_run.proofs.Gets.{got_logs}
use Rattle.xc_run.proofs.Runs.{ran_written, ran_ended}
use Rattle.xc_tool.specs.Outcome.{audit_input, audit_output, refusal_output}
use Rattle.xc_tool.proofs.Statuses.{never_ended, audit_in_order, ended_in_order, audit_stops_in_order}
use Rattle.xc_tool.proofs.audit.audit.Goals as goal

pub returns-in-Ok-clause-ran : goal.returns-in-Ok-clause-ran
returns-in-Ok-clause-ran g c = λ script same.
    ran_written refusal_output (λ a b. audit_input a) audit_output _ _ _ _ _ _ (got_logs audit_input _ _ _ c.in-Ok.ensures same)
    c.print_audit.ensures

pub returns-in-Ok-clause-order : goal.returns-in-Ok-clause-order
returns-in-Ok-clause-order g c = λ script same. audit_in_order _ _ _ _ _ _ c.print_audit.ensures

pub returns-in-Err-clause-ran : goal.returns-in-Err-clause-ran
returns-in-Err-clause-ran g c = λ script same.
    ran_ended refusal_output never_ended (λ a b. audit_input a) audit_output _ _ _ _ _ _ (got_logs audit_input _ _ _ c.in-Err.ensures same)
    c.end.ensures

pub returns-in-Err-clause-order : goal.returns-in-Err-clause-order
returns-in-Err-clause-order g c = λ script same. ended_in_order _ _ _ _ _ _ (audit_stops_in_order _ _ _ c.in-Err.ensures same) c.end.ensures
