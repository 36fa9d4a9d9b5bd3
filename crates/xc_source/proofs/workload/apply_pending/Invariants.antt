use Rattle.std.proofs.Common.{◌≡◌, drop, map}
use Rattle.xc_source.specs.Commands.{run}
use Rattle.xc_source.specs.Workload.{apply_command}
use Rattle.xc_source.proofs.workload.apply_pending.Given as goal

abbrev pub invariant-loop-pair : goal.invariant-loop-pair
invariant-loop-pair l =
    run (map apply_command (drop l.pair-index l.pair-items)) l.u ≡ run (map apply_command l.pair-items) l.fn.u
