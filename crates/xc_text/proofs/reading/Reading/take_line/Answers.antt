use Rattle.xc_text.proofs.StepLaws.{at_ended}
use Rattle.xc_text.proofs.reading.Reading.take_line.Goals as goal

pub returns-in-Ended : goal.returns-in-Ended
returns-in-Ended c = at_ended c.args.self.now c.args.line.now c.in-Ended.is
