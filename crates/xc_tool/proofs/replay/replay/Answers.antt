use Rattle.xc_run.proofs.Runs.{ran_ended}
use Rattle.xc_tool.proofs.Statuses.{never_ended, replay_in_order, ended_in_order}
use Rattle.xc_tool.specs.Outcome.{replay_input, replay_output, refusal_output}
use Rattle.xc_tool.proofs.replay.replay.Goals as goal

pub returns-in-Ok-clause-order : goal.returns-in-Ok-clause-order
returns-in-Ok-clause-order g c = replay_in_order (c.in-Ok.logs, c.in-Ok.script) _ _ _ _ _ c.run_session.ensures

pub returns-in-Err-clause-ran : goal.returns-in-Err-clause-ran
returns-in-Err-clause-ran g c =
    ran_ended refusal_output never_ended replay_input replay_output _ _ _ _ _ _ c.in-Err.ensures.got c.end.ensures

pub returns-in-Err-clause-order : goal.returns-in-Err-clause-order
returns-in-Err-clause-order g c = ended_in_order _ _ _ _ _ _ c.in-Err.ensures.order c.end.ensures
