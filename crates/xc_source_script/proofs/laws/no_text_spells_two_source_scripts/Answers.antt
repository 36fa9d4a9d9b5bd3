use Rattle.xc_source_script.proofs.SpelledRun.{spells_one}
use Rattle.xc_source_script.proofs.laws.no_text_spells_two_source_scripts.Goals as goal

pub returns : goal.returns
returns c = spells_one
