use Rattle.std.proofs.Common.{arith, ap}
use Rattle.std.proofs.lemmas.Grind.{common_steps}
use Rattle.xc_script.specs.Words.{command_in, command_of}
use Rattle.xc_script.proofs.WordLists.{too_many}
use Rattle.xc_script.proofs.command.read_command.Goals as goal

pub returns-in-empty : goal.returns-in-empty
unfolding command_of
returns-in-empty c = let read = c.bare.ensures c.args.version in grind (arith, common_steps)

pub returns-in-len3 : goal.returns-in-len3
unfolding command_of
returns-in-len3 c = let read = c.with_three.ensures c.args.version in grind (arith, common_steps)

pub returns-in_default : goal.returns-in_default
returns-in_default c = ap (command_in c.args.version) (too_many c.args.verb.now c.args.words.now c.in_default.len_at_least)
