use Rattle.std.proofs.Common.{◌∙◌, ap}
use Rattle.xc_target.specs.Target.{TargetState, least_open}
use Rattle.xc_target.proofs.SessionLaws.{safe-is}
use Rattle.xc_target.proofs.target.Target.safe.Goals as goal

pub returns : goal.returns
returns c = λ logs m is st.
    c.least_open.ensures ∙ ap least_open c.deref.ensures.value ∙ ap (λ (t : TargetState). least_open t.pollers) c.self.view_is
    ∙ safe-is logs m c.args.self.now is st
