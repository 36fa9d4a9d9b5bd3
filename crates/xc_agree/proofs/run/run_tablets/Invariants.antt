use Rattle.std.proofs.Common.{[], take}
use Rattle.xc_record.specs.Accepted.{accepted_tablets_after}
use Rattle.xc_agree.specs.Runs.{IsRuns}
use Rattle.xc_agree.proofs.run.run_tablets.Given as goal

abbrev pub invariant-loop-t : goal.invariant-loop-t
invariant-loop-t l = IsRuns l.runs.items (accepted_tablets_after [] (take l.t-index l.tablets)) (take l.t-index l.tablets)
