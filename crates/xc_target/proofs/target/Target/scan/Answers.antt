use Rattle.std.proofs.Common.{◌≡◌, ◌∙◌, map, ap, subst}
use Rattle.xc_record.specs.Bounds.{IsPartition}
use Rattle.xc_record.specs.Session.{safe_now}
use Rattle.xc_model.specs.Rows.{range_of}
use Rattle.xc_target.specs.Target.{TargetState, least_open}
use Rattle.xc_target.proofs.SessionLaws.{safe-is}
use Rattle.xc_target.proofs.ScanLaws.{scanned-rows}
use Rattle.xc_target.proofs.target.Target.scan.Goals as goal

pub returns : goal.returns
returns c = λ logs m is st agree.
    let t = c.args.self.now in
    let pollers = c.deref-2.ensures.value ∙ ap (λ (t : TargetState). t.pollers) c.self.view_is in
    let tablets = c.deref.ensures.value ∙ ap (λ (t : TargetState). t.tablets) c.self.view_is in
    let safe : c.least_open.result ≡ safe_now logs m = c.least_open.ensures ∙ ap least_open pollers ∙ safe-is logs m t is st in
    let shared : IsPartition (map range_of t.tablets) =
    subst (λ (t : TargetState). IsPartition (map range_of t.tablets)) c.self.view_is c.self.invariant.ranges in
    let found = c.rows_of_all.ensures in
    scanned-rows logs m t is st agree c.least_open.result c.deref.result.now c.rows_of_all.result safe tablets shared found.rows found.order
