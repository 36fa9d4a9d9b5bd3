use Rattle.std.proofs.Common.{refl, ◌∙◌}
use Rattle.xc_tool.proofs.StepLines.{scanned, ok-then}
use Rattle.xc_tool.proofs.commands.scan.Goals as goal

pub returns-clause-step : goal.returns-clause-step
returns-clause-step c =
    λ logs m is st agree.
    ok-then c.rows_answer.result c.rows_answer.ensures.told (λ a k.
    scanned logs m _ _ c.as_slice-rows.result.now a.text a.halted _ (c.safe.ensures logs m is st) refl (c.as_slice-rows.ensures
    ∙ c.in-Ok.ensures logs m is st agree) k.0 k.1 st)
