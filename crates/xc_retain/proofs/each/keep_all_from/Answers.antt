use Rattle.xc_model.specs.Stands.{KeepsFrom}
use Rattle.xc_tablet.proofs.Zips.{zip_more}
use Rattle.xc_retain.proofs.each.keep_all_from.Goals as goal

pub loop-tablet-preserved : goal.loop-tablet-preserved
loop-tablet-preserved c =
    let so = c.loop-tablet in
    let one = rw (← c.tablet-item.is) at c.keep_from.ensures.kept in
    let p = zip_more (KeepsFrom c.args.cutoff) so.tablet-index c.args.tablets.now so.tablets c.tablet-item.result c.keep_from.new.self
    c.loop-tablet-test.true
    so.invariant.first so.invariant.rest c.tablet-item.is one in
    record { first = p.0; rest = p.1 }
