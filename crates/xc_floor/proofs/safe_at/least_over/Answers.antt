use Rattle.std.proofs.Common.{arith}
use Rattle.xc_record.specs.Valid.{headers_of}
use Rattle.xc_floor.specs.Orders.{floors_of}
use Rattle.xc_floor.proofs.LeastOf.{least_of-start}
use Rattle.xc_floor.proofs.safe_at.least_over.Goals as goal

pub loop-tablet-init : goal.loop-tablet-init
loop-tablet-init c = record {
  so_far = least_of-start (floors_of (headers_of c.args.tablets.now) c.args.orders.now) (headers_of c.args.tablets.now);
  within = omega arith;
}
