use Rattle.std.proofs.lemmas.Result.{err_from_is_err_and}
use Rattle.xc_text.proofs.StepLaws.{inner_read, inner_refused}
use Rattle.xc_text.proofs.reading.Reading.take_inner.Goals as goal

pub returns-in_err-line : goal.returns-in_err-line
returns-in_err-line c =
    let p = err_from_is_err_and c.from_residual.result c.from_residual.ensures.1 in rw (p.1, p.2)
    (inner_refused c.args.self.now c.args.line.now _ c.requires c.in_err-line.ensures.line)

pub returns : goal.returns
returns c = rw (inner_read c.args.self.now c.args.line.now c.in_ok-line.line c.requires c.in_ok-line.ensures.line) c.take.ensures
