use Rattle.std.proofs.Common.{◌≡◌, ◌≤◌, ◌^◌, min, drop}
use Rattle.xc_record.specs.Valid.{headers_of}
use Rattle.xc_model.specs.Floors.{least_kept}
use Rattle.xc_floor.specs.Orders.{floors_of}
use Rattle.xc_floor.proofs.LeastOf.{least_of}
use Rattle.xc_floor.proofs.safe_at.least_over.Given as goal

abbrev pub invariant-loop-tablet : goal.invariant-loop-tablet
invariant-loop-tablet l =
    let f = floors_of (headers_of l.tablets) l.orders in
    record {
      so_far : min l.least (least_of f (headers_of (drop l.tablet-index l.tablets))) ≡ least_kept f;
      within : l.least ≤ 2 ^ 62;
    }
