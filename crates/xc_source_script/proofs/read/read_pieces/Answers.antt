use Rattle.xc_script.proofs.LineTextLaws.{line_taken}
use Rattle.xc_source_script.specs.SourceText.{rules}
use Rattle.xc_source_script.proofs.AllowedLaws.{step_keeps}
use Rattle.xc_source_script.proofs.read.read_pieces.Goals as goal

pub loop-line-preserved : goal.loop-line-preserved
loop-line-preserved c =
    let taken = c.in_default.ensures in (
      line_taken rules c.loop-line.reading _ c.args.lines.now c.loop-line.line-index _ c.args.rest.now _ c.loop-line-test.true taken
          c.loop-line.invariant.0,
      step_keeps c.loop-line.reading _ _ c.loop-line.invariant.1 taken,
    )
