use Rattle.std.proofs.Common.{arith}
use Rattle.xc_tablet.proofs.Widths.{puts-wider, holds-wider}
use Rattle.xc_tablet.proofs.room.Room.of.Goals as goal

pub returns-then-all-le-FEW_OPS-2-clause-puts : goal.returns-then-all-le-FEW_OPS-2-clause-puts
returns-then-all-le-FEW_OPS-2-clause-puts c =
    let hi = c.ranges.hi.fits in
    omega (arith, puts-wider c.args.lo c.args.hi c.args.records.now (omega arith), c.counted-all.ensures.puts)

pub returns-then-all-le-FEW_OPS-2-clause-holds : goal.returns-then-all-le-FEW_OPS-2-clause-holds
returns-then-all-le-FEW_OPS-2-clause-holds c =
    let hi = c.ranges.hi.fits in
    omega (arith, holds-wider c.args.lo c.args.hi c.args.records.now (omega arith), c.counted-all.ensures.holds)
