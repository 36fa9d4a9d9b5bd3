use Rattle.std.proofs.Common.{◌≡◌, map, take}
use Rattle.xc_agree.specs.Runs.{end_from}
use Rattle.xc_agree.proofs.judgement.ends_of.Given as goal

abbrev pub invariant-loop-run : goal.invariant-loop-run
invariant-loop-run l = l.ends.items ≡ map end_from (take l.run-index l.runs)
