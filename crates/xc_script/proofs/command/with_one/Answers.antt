use Rattle.std.proofs.Common.{rules}
use Rattle.xc_script.proofs.command.with_one.Goals as goal

pub returns-then-eq : goal.returns-then-eq
returns-then-eq c = let read = c.read_ack.ensures c.args.version in search rules

pub returns-then-eq-2 : goal.returns-then-eq-2
returns-then-eq-2 c = let read = c.read_restart.ensures c.args.version in search rules

pub returns-then-eq-4 : goal.returns-then-eq-4
returns-then-eq-4 c = let read = c.read_prune.ensures c.args.version in search rules
