use Rattle.xc_text.proofs.SpelledRun.{spells_one}
use Rattle.xc_text.proofs.laws.no_text_spells_two_logs.Goals as goal

pub returns : goal.returns
returns c = spells_one
