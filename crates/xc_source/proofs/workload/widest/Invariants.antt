use Rattle.std.proofs.Common.{◌≡◌, ◌&&◌, ◌==◌, drop, find}
use Rattle.std.specs.List.{enumerate_from}
use Rattle.xc_source.specs.Machine.{is_open}
use Rattle.xc_source.specs.Workload.{width, most_width, widest}
use Rattle.xc_source.proofs.workload.widest.Given as goal

abbrev pub invariant-loop-id : goal.invariant-loop-id
invariant-loop-id l =
    find (λ p. is_open p.1 && width p.1 == most_width l.tablets) (enumerate_from l.id (drop l.id l.tablets)) ≡ widest l.tablets
