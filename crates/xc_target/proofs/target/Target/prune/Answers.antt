use Rattle.std.proofs.Common.{◌≡◌, ◌∙◌, ℕ, List, Result, ap, subst, sym}
use Rattle.std.specs.List.{AllZip}
use Rattle.std.specs.Vec.{with_items}
use Rattle.std.proofs.lemmas.List.{with_items_is}
use Rattle.xc_record.specs.Bounds.{IsPartition}
use Rattle.xc_record.specs.Session.{safe_now}
use Rattle.xc_model.specs.Stands.{TargetTablet}
use Rattle.xc_retain.specs.Retention.{IsPruned as IsKept}
use Rattle.xc_retain.specs.declared.retention.Ahead.{Ahead}
use Rattle.xc_target.specs.Target.{TargetState, least_open}
use Rattle.xc_target.specs.Stands.{StandsForSession}
use Rattle.xc_target.proofs.SessionLaws.{safe-is}
use Rattle.xc_target.proofs.MoveLaws.{seen, Thins, ranges-thin, length-thin, keeps-thin}
use Rattle.xc_target.proofs.PruneLaws.{thinned, same-thins, pruned-at, refused-as}
use Rattle.xc_target.proofs.target.Target.prune.Goals as goal
use Rattle.xc_target.proofs.target.Target.prune.Goals.{in-Ok, in-Err}

abbrev after : goal.Joined-prune → List TargetTablet
after c = (with_items c.self.inside.tablets c.prune.new.tablets).items

-- what the retention says of all tablets, where it answers r
abbrev Kept : goal.Joined-prune → Result ℕ Ahead → Type 0
Kept c r = IsKept c.args.u c.least_open-safe.result c.self.inside.retention c.prune.new.self c.self.inside.tablets.items (after c) r

kept : (c : goal.Joined-prune) → Kept c c.prune.result
kept c =
    let p = subst (λ (xs : _). IsKept c.args.u c.least_open-safe.result c.self.inside.retention c.prune.new.self xs c.prune.new.tablets
    c.prune.result) c.deref_mut.ensures.value c.prune.ensures.pruned in
    let long = length-thin Thins c.self.inside.tablets.items c.prune.new.tablets
    (thinned _ _ _ _ c.self.inside.tablets.items c.prune.new.tablets c.prune.result p) in
    subst (λ (ys : _). IsKept c.args.u c.least_open-safe.result c.self.inside.retention c.prune.new.self c.self.inside.tablets.items ys
    c.prune.result) (sym (with_items_is c.self.inside.tablets c.prune.new.tablets (long ∙ sym c.self.inside.tablets.ok.0))) p

thin : (c : goal.Joined-prune) → AllZip Thins c.self.inside.tablets.items (after c)
thin c = thinned _ _ _ _ c.self.inside.tablets.items (after c) c.prune.result (kept c)

pub invariant_of-self : goal.invariant_of-self
invariant_of-self c = record {
  ranges = subst IsPartition (sym (ranges-thin Thins same-thins c.self.inside.tablets.items (after c) (thin c))) c.self.invariant.ranges;
}

pub returns-clause-step : goal.returns-clause-step
returns-clause-step c = λ logs m is st.
    let t = seen c.self.inside in
    let safe : c.least_open-safe.result ≡ safe_now logs m = c.least_open-safe.ensures ∙ ap least_open c.deref.ensures.value
    ∙ ap (λ (t : TargetState). least_open t.pollers) c.self.view_is ∙ safe-is logs m c.args.self.now is st in
    let stands = subst (StandsForSession logs m) (sym c.self.view_is) st in
    elim c.match-prune.branch [
      | in-Ok w ↦ rw w.result-is (pruned-at logs m t is stands c.in_default.is c.args.u c.least_open-safe.result c.prune.new.self (after c)
          safe w.in-Ok.cutoff (subst (Kept c) w.in-Ok.is (kept c)))
      | in-Err w ↦ rw w.result-is (refused-as logs m t is stands c.in_default.is c.args.u c.least_open-safe.result c.prune.new.self
          (after c)
          safe w.in-Err.ahead (subst (Kept c) w.in-Err.is (kept c)))
    ]

pub returns-clause-keeps : goal.returns-clause-keeps
returns-clause-keeps c =
    keeps-thin (seen c.self.inside) c.args.self.now Thins same-thins (after c) c.prune.new.self c.self.inside.closed c.self.view_is (thin c)
