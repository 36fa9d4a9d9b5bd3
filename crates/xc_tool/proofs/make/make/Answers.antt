use Rattle.xc_run.proofs.Gets.{got_script}
use Rattle.xc_run.proofs.Runs.{ran_written, ran_ended}
use Rattle.xc_tool.specs.Outcome.{make_input, make_output, refusal_output}
use Rattle.xc_tool.proofs.Statuses.{never_ended, make_in_order, ended_in_order, make_stops_in_order}
use Rattle.xc_tool.proofs.make.make.Goals as goal

pub returns-in-Ok-clause-ran : goal.returns-in-Ok-clause-ran
returns-in-Ok-clause-ran g c = λ logs same.
    ran_written refusal_output (λ a b. make_input b) make_output _ _ _ _ _ _ (got_script make_input _ _ _ c.in-Ok.ensures.took same)
    c.print_made.ensures

pub returns-in-Ok-clause-order : goal.returns-in-Ok-clause-order
returns-in-Ok-clause-order g c = λ logs same. make_in_order c.in-Ok.universe _ _ _ _ _ c.print_made.ensures

pub returns-in-Err-clause-ran : goal.returns-in-Err-clause-ran
returns-in-Err-clause-ran g c = λ logs same.
    ran_ended refusal_output never_ended (λ a b. make_input b) make_output _ _ _ _ _ _
    (got_script make_input _ _ _ c.in-Err.ensures.took same) c.end.ensures

pub returns-in-Err-clause-order : goal.returns-in-Err-clause-order
returns-in-Err-clause-order g c =
    λ logs same. ended_in_order _ _ _ _ _ _ (make_stops_in_order _ _ _ c.in-Err.ensures.took same) c.end.ensures
