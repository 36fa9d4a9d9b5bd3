use Rattle.std.specs.Prelude.{◌^◌}
use Rattle.std.proofs.lemmas.Result.{err_from_is_err_and}
use Rattle.xc_run.proofs.Reading.{took_stopped}
use Rattle.xc_tool.specs.declared.refusal.Refusal.TheVariants.{SourceTooLong}
use Rattle.xc_tool.specs.Outcome.{make_in}
use Rattle.xc_tool.proofs.make.take_source.Goals as goal

pub returns-in_err-text-clause-took : goal.returns-in_err-text-clause-took
returns-in_err-text-clause-took g c =
    let p = err_from_is_err_and c.from_residual.result c.from_residual.ensures.1 in
    rw (p.1, p.2) (took_stopped (2 ^ 20) SourceTooLong make_in _ _ c.in_err-text.ensures)
