use Rattle.std.proofs.Common.{ap}
use Rattle.xc_source_script.specs.Words.{command_in}
use Rattle.xc_source_script.proofs.WordLists.{too_many}
use Rattle.xc_source_script.proofs.command.read_command.Goals as goal

pub returns-in_default : goal.returns-in_default
returns-in_default c = ap command_in (too_many c.args.version c.args.verb.now c.args.words.now c.in_default.len_at_least)
