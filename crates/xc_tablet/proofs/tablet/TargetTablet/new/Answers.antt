use Rattle.xc_tablet.specs.State.{seen}
use Rattle.xc_tablet.proofs.TabletLaws.{new-tablet_stands}
use Rattle.xc_tablet.proofs.tablet.TargetTablet.new.Goals as goal

pub returns-in-Ok-clause-stands : goal.returns-in-Ok-clause-stands
returns-in-Ok-clause-stands c =
    λ logs valid same. new-tablet_stands c.args.lo c.args.hi c.args.headers.now (seen c.in-Ok.state) c.in-Ok.ensures.seen logs valid same
