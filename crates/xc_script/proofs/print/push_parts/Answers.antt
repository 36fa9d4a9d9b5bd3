use Rattle.xc_script.specs.Parts.{part_text}
use Rattle.xc_script.proofs.Prefixes.{begun_at, failed}
use Rattle.xc_script.proofs.print.push_parts.Goals as goal

pub returns-in_err-push_part : goal.returns-in_err-push_part
returns-in_err-push_part c = failed _ _ _ _ c.from_residual.ensures.0
    (begun_at part_text _ _ _ _ _ _ c.loop-part-test.true c.loop-part.invariant c.in_err-push_part.ensures)
