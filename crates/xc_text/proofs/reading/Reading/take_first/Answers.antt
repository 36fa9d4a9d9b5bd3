use Rattle.xc_text.proofs.StepLaws.{start_read, start_refused}
use Rattle.xc_text.proofs.reading.Reading.take_first.Goals as goal

pub returns-in-Ok : goal.returns-in-Ok
returns-in-Ok c = rw (start_read c.args.self.now c.args.line.now c.in-Ok.line c.requires c.in-Ok.ensures.line) c.start.ensures

pub returns-in-Err-Bad : goal.returns-in-Err-Bad
returns-in-Err-Bad c = start_refused c.args.self.now c.args.line.now _ c.requires (rw c.in-Err-Bad.field-0-is at c.in-Err-Bad.ensures.line)
