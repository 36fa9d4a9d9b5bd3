use Rattle.xc_text.proofs.ValidLaws.{reads_valid}
use Rattle.xc_text.proofs.read.read_logs.Goals as goal

pub returns-clause-valid : goal.returns-clause-valid
returns-clause-valid c = reads_valid c.read_lines.result c.args.text.now c.read_lines.ensures
