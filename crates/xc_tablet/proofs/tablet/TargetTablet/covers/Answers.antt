use Rattle.std.proofs.Common.{ap, ◌∙◌}
use Rattle.xc_model.specs.Floors.{least_kept}
use Rattle.xc_model.specs.Stands.{TargetTablet}
use Rattle.xc_model.proofs.FloorLaw.{kept-values}
use Rattle.xc_tablet.proofs.tablet.TargetTablet.covers.Goals as goal

pub returns-clause-safe : goal.returns-clause-safe
returns-clause-safe c = λ logs u stands.
    c.least.ensures.value ∙ ap (λ (x : TargetTablet). least_kept x.floors) c.self.view_is
    ∙ kept-values logs c.args.self.now.places c.args.self.now.floors stands.valid stands.places stands.floors
