use Rattle.xc_source_script.proofs.SpelledRun.{spelled_is_read}
use Rattle.xc_source_script.proofs.laws.what_is_spelled_is_read.Goals as goal

pub returns : goal.returns
returns c = spelled_is_read
