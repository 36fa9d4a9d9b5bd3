use Rattle.std.proofs.Common.{ap, ◌∙◌}
use Rattle.xc_record.specs.Kept.{read}
use Rattle.xc_model.specs.Stands.{TargetTablet, kept_at}
use Rattle.xc_model.proofs.ReadLaw.{reads-show-rows}
use Rattle.xc_tablet.proofs.tablet.TargetTablet.read.Goals as goal

pub returns-clause-shows : goal.returns-clause-shows
returns-clause-shows c = λ logs u stands agree from to.
    c.at.ensures.value ∙ ap (λ (x : TargetTablet). read c.args.t (kept_at x c.args.key.now)) c.self.view_is
    ∙ reads-show-rows logs c.args.self.now u c.args.t c.args.key.now stands agree from to c.requires
