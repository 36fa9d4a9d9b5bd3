use Rattle.std.proofs.Common.{arith}
use Rattle.xc_text.proofs.StepLaws.{goes_on, stops}
use Rattle.xc_text.proofs.read.read_lines.Goals as goal

pub returns-in-Err : goal.returns-in-Err
returns-in-Err c =
    rw c.at_line.ensures
    (stops c.lines.reading _ c.lines.number c.cut_line.result.0.now c.lines.rest.now c.in-Some.after.now _ c.lines.invariant.whole
    (rw c.in-Some.is at c.cut_line.ensures.pieces) c.in-Err.ensures)

pub lines-preserved : goal.lines-preserved
lines-preserved c = record {
  whole = goes_on c.lines.reading c.take_line.new.self c.lines.number c.cut_line.result.0.now c.lines.rest.now c.in-Some.after.now _
      c.lines.invariant.whole (rw c.in-Some.is at c.cut_line.ensures.pieces) c.in_default-take_line.ensures;
  counted = let shorter = rw c.in-Some.is at c.cut_line.ensures.shorter in omega (arith, shorter);
}
