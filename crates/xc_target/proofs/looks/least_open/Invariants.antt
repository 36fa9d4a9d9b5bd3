use Rattle.std.proofs.Common.{◌≡◌, ◌≤◌, ◌^◌, min, drop}
use Rattle.xc_target.specs.Target.{least_open}
use Rattle.xc_target.proofs.looks.least_open.Given as goal

abbrev pub invariant-loop-poller : goal.invariant-loop-poller
invariant-loop-poller l = record {
  so_far : min l.least (least_open (drop l.poller-index l.pollers)) ≡ least_open l.pollers;
  within : l.least ≤ 2 ^ 62;
}
