use Rattle.std.proofs.Common.{rules}
use Rattle.xc_script.proofs.command.with_two.Goals as goal

pub returns-then-eq : goal.returns-then-eq
returns-then-eq c = let read = c.read_poll.ensures c.args.version in search rules
