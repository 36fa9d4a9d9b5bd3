use Rattle.std.proofs.Common.{refl}
use Rattle.std.proofs.lemmas.Result.{err_from_is_err_and}
use Rattle.xc_run.proofs.Gets.{stopped_first}
use Rattle.xc_tool.proofs.Statuses.{order_first, order_second}
use Rattle.xc_tool.proofs.replay.take_input.Goals as goal

pub returns-in_err-logs-clause-got : goal.returns-in_err-logs-clause-got
returns-in_err-logs-clause-got g c =
    let p = err_from_is_err_and c.from_residual.result c.from_residual.ensures.1 in
    rw (p.1, p.2) (stopped_first _ _ _ _ _ c.in_err-logs.ensures.took (record { same = refl; faults = refl }))

pub returns-in_err-logs-clause-order : goal.returns-in_err-logs-clause-order
returns-in_err-logs-clause-order g c =
    let p = err_from_is_err_and c.from_residual.result c.from_residual.ensures.1 in
    rw (p.1, p.2) (order_first _ _ _ c.in_err-logs.ensures.took (record { same = refl; faults = refl }))

pub returns-in_err-script-clause-order : goal.returns-in_err-script-clause-order
returns-in_err-script-clause-order g c =
    let p = err_from_is_err_and c.from_residual-in_err-script.result c.from_residual-in_err-script.ensures.1 in
    rw (p.1, p.2) (order_second _ _ _ _ _ c.in_ok-logs.ensures.took c.in_err-script.ensures.took)
