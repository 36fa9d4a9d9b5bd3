use Rattle.std.proofs.Common.{◌≡◌, ◌+◌, drop}
use Rattle.xc_source.specs.Commands.{made_from}
use Rattle.xc_source_script.proofs.making.do_commands.Given as goal

abbrev pub invariant-loop-command : goal.invariant-loop-command
invariant-loop-command l =
    (made_from l.line (drop l.command-index l.commands) l.universe ≡ made_from l.fn.first l.commands l.fn.universe)
    × (l.line ≡ l.fn.first + l.command-index)
