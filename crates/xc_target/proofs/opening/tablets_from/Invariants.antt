use Rattle.std.proofs.Common.{◌≡◌, ◌≤◌, ◌++◌, drop, true}
use Rattle.xc_record.specs.Bounds.{ranges_from, rises_from}
use Rattle.xc_target.specs.Target.{new_tablets}
use Rattle.xc_target.proofs.opening.tablets_from.Given as goal

abbrev pub invariant-loop-bound : goal.invariant-loop-bound
invariant-loop-bound l = record {
  so_far : l.tablets.items ++ new_tablets l.headers (ranges_from l.lo (drop l.bound-index l.bounds)) ≡ new_tablets l.headers
      (ranges_from l.first l.bounds);
  small : l.lo ≤ 65535;
  rises : rises_from l.lo (drop l.bound-index l.bounds) ≡ true;
}
