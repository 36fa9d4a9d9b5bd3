use Rattle.std.proofs.Common.{rules}
use Rattle.xc_script.proofs.command.with_three.Goals as goal

pub returns-then-eq : goal.returns-then-eq
returns-then-eq c = λ version. let read = c.read_stop.ensures version in search rules
