use Rattle.std.proofs.Common.{◌≡◌}
use Rattle.xc_model.specs.Stands.{restore}
use Rattle.xc_tablet.proofs.Zips.{zip_more}
use Rattle.xc_retain.proofs.each.restore_all.Goals as goal

pub loop-tablet-preserved : goal.loop-tablet-preserved
loop-tablet-preserved c =
    let so = c.loop-tablet in
    let one = rw (← c.tablet-item.is) at c.restore.ensures.restored in
    let p = zip_more (λ x y. y ≡ restore c.args.t x) so.tablet-index c.args.tablets.now so.tablets c.tablet-item.result c.restore.new.self
    c.loop-tablet-test.true
    so.invariant.first so.invariant.rest c.tablet-item.is one in
    record { first = p.0; rest = p.1 }
