use Rattle.std.proofs.Common.{◌≡◌, ◌∙◌, map, ap, subst, arith}
use Rattle.xc_record.specs.Bounds.{IsPartition}
use Rattle.xc_record.specs.Session.{safe_now}
use Rattle.xc_record.specs.Rows.{row}
use Rattle.xc_model.specs.Rows.{range_of}
use Rattle.xc_target.specs.Target.{TargetState, least_open, shown_at}
use Rattle.xc_target.proofs.SessionLaws.{safe-is}
use Rattle.xc_target.proofs.ReadLaws.{shows-row}
use Rattle.xc_target.proofs.target.Target.read.Goals as goal

pub returns : goal.returns
returns c = λ logs m is st agree.
    let safe : c.least_open.result ≡ safe_now logs m = c.least_open.ensures ∙ ap least_open c.deref-2.ensures.value
    ∙ ap (λ (t : TargetState). least_open t.pollers) c.self.view_is ∙ safe-is logs m c.args.self.now is st in
    let p : IsPartition (map range_of c.args.self.now.tablets) =
    subst (λ (t : TargetState). IsPartition (map range_of t.tablets)) c.self.view_is c.self.invariant.ranges in
    let low = is.cutoff in
    c.shown.ensures ∙ ap (shown_at c.least_open.result c.args.key.now)
    (c.deref.ensures.value ∙ ap (λ (t : TargetState). t.tablets) c.self.view_is)
    ∙ shows-row logs m c.args.self.now is st agree c.least_open.result (omega arith) (omega arith) p c.args.key.now
    ∙ ap (λ v. row logs v c.args.key.now) safe
