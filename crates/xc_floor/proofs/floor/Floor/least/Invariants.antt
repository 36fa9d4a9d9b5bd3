use Rattle.std.proofs.Common.{◌≡◌, ◌≤◌, ◌^◌, min, drop}
use Rattle.xc_model.specs.Floors.{least_kept}
use Rattle.xc_floor.proofs.LeastOf.{least_of}
use Rattle.xc_floor.proofs.floor.Floor.least.Given as goal

abbrev pub invariant-loop-header : goal.invariant-loop-header
invariant-loop-header l = record {
  so_far : min l.least (least_of l.self (drop l.header-index l.self.headers)) ≡ least_kept l.self;
  within : l.least ≤ 2 ^ 62;
}
