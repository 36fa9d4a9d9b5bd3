use Rattle.std.proofs.Common.{ap}
use Rattle.xc_source_script.specs.Words.{root_in}
use Rattle.xc_source_script.proofs.WordLists.{few_words, many_words}
use Rattle.xc_source_script.proofs.line.read_root.Goals as goal

pub returns-in_default : goal.returns-in_default
returns-in_default c = ap root_in (few_words c.args.words.now c.in_default.len_below)

pub returns-in_default-3 : goal.returns-in_default-3
returns-in_default-3 c = ap root_in (many_words c.args.words.now c.in_default.len_at_least)
