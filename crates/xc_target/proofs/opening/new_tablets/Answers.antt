use Rattle.xc_target.proofs.NewLaws.{rises-after}
use Rattle.xc_target.proofs.opening.new_tablets.Goals as goal

pub tablets_from-requires-clause-rises : goal.tablets_from-requires-clause-rises
tablets_from-requires-clause-rises c =
    rises-after c.args.bounds.now c.in-Some.rest.now c.in-Some.first.now c.in-Some.ensures.cases.0 c.requires.bounds
