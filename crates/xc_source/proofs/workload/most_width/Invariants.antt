use Rattle.std.proofs.Common.{◌≡◌, max, drop, map, filter, fold}
use Rattle.xc_source.specs.Machine.{is_open}
use Rattle.xc_source.specs.Workload.{width, most_width}
use Rattle.xc_source.proofs.workload.most_width.Given as goal

abbrev pub invariant-loop-tablet : goal.invariant-loop-tablet
invariant-loop-tablet l =
    fold (λ most n. max most n) l.most (map width (filter is_open (drop l.tablet-index l.tablets))) ≡ most_width l.tablets
