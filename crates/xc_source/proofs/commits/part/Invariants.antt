use Rattle.std.proofs.Common.{◌≡◌, ◌++◌, take, drop}
use Rattle.xc_source.proofs.commits.part.Given as goal

abbrev pub invariant-loop-op : goal.invariant-loop-op
invariant-loop-op l = l.part ++ take l.left (drop l.before l.op-iterator) ≡ take l.count (drop l.first l.ops)
