use Rattle.std.proofs.Common.{◌≡◌, ◌≤◌, ◌∙◌, map, ap, subst}
use Rattle.std.proofs.lemmas.Result.{err_from_is_err_and}
use Rattle.xc_record.specs.Bounds.{IsPartition}
use Rattle.xc_record.specs.Session.{safe_now}
use Rattle.xc_model.specs.Rows.{range_of}
use Rattle.xc_target.specs.Target.{TargetState, least_open, shown_at}
use Rattle.xc_target.proofs.SessionLaws.{safe-is}
use Rattle.xc_target.proofs.ReadLaws.{shows-row, not-readable}
use Rattle.xc_target.proofs.target.Target.read_at.Goals as goal

pub returns-in_err-readable-clause-refuses : goal.returns-in_err-readable-clause-refuses
returns-in_err-readable-clause-refuses c = λ logs m is st.
    let safe : c.least_open.result ≡ safe_now logs m = c.least_open.ensures ∙ ap least_open c.deref.ensures.value
    ∙ ap (λ (t : TargetState). least_open t.pollers) c.self.view_is ∙ safe-is logs m c.args.self.now is st in
    let p = err_from_is_err_and c.from_residual.result c.from_residual.ensures.1 in
    let cutoff : c.self.inside.retention ≡ m.cutoff = ap (λ (t : TargetState). t.cutoff) c.self.view_is ∙ st.cutoff in
    rw (p.1, p.2) (not-readable logs m _ _ _ _ cutoff safe c.in_err-readable.ensures)

pub returns-clause-shows : goal.returns-clause-shows
returns-clause-shows c = λ logs m is st agree.
    let safe : c.least_open.result ≡ safe_now logs m = c.least_open.ensures ∙ ap least_open c.deref.ensures.value
    ∙ ap (λ (t : TargetState). least_open t.pollers) c.self.view_is ∙ safe-is logs m c.args.self.now is st in
    let cutoff : c.self.inside.retention ≡ m.cutoff = ap (λ (t : TargetState). t.cutoff) c.self.view_is ∙ st.cutoff in
    let p : IsPartition (map range_of c.args.self.now.tablets) =
    subst (λ (t : TargetState). IsPartition (map range_of t.tablets)) c.self.view_is c.self.invariant.ranges in
    let low : m.cutoff ≤ c.args.u = subst (λ n. n ≤ c.args.u) cutoff c.in_ok-readable.ensures.0 in
    let high : c.args.u ≤ safe_now logs m = subst (λ n. c.args.u ≤ n) safe c.in_ok-readable.ensures.1 in (
      low,
      (
        high,
        c.shown.ensures ∙ ap (shown_at c.args.u c.args.key.now)
            (c.deref-2.ensures.value ∙ ap (λ (t : TargetState). t.tablets) c.self.view_is)
            ∙ shows-row logs m c.args.self.now is st agree c.args.u low high p c.args.key.now,
      ),
    )
