use Rattle.std.proofs.Common.{◌≡◌, ◌∙◌, ap, subst, sym, Some}
use Rattle.std.specs.List.{AllZip}
use Rattle.std.specs.Vec.{with_items}
use Rattle.std.proofs.lemmas.List.{with_items_is}
use Rattle.xc_record.specs.Bounds.{IsPartition}
use Rattle.xc_record.specs.Session.{safe_now}
use Rattle.xc_model.specs.Stands.{restore}
use Rattle.xc_target.specs.Target.{TargetState, least_open}
use Rattle.xc_target.specs.Stands.{StandsForSession}
use Rattle.xc_target.proofs.SessionLaws.{safe-is}
use Rattle.xc_target.proofs.MoveLaws.{seen, is-closed, ranges-thin, length-thin, keeps-thin, restore-thins}
use Rattle.xc_target.proofs.target.Target.failover.Goals as goal

restored : (c : goal.After-self-2-1) → AllZip (λ x y. y ≡ restore c.least_open-t.result x) c.self.inside.tablets.items
    (with_items c.self.inside.tablets c.restore.new.tablets).items
restored c =
    let z = subst (λ (xs : _). AllZip
    (λ x y. y ≡ restore c.least_open-t.result x) xs c.restore.new.tablets) c.deref_mut.ensures.value c.restore.ensures.restored in
    let long = length-thin (λ x y. y ≡ restore c.least_open-t.result x) c.self.inside.tablets.items c.restore.new.tablets z in
    subst (AllZip (λ x y. y ≡ restore c.least_open-t.result x) c.self.inside.tablets.items)
    (sym (with_items_is c.self.inside.tablets c.restore.new.tablets (long ∙ sym c.self.inside.tablets.ok.0))) z

pub invariant_of-self : goal.invariant_of-self
invariant_of-self c = record {
  ranges = subst IsPartition
      (sym (ranges-thin (λ x y. y ≡ restore c.least_open-t.result x) (restore-thins c.least_open-t.result) c.self.inside.tablets.items
      (with_items c.self.inside.tablets c.restore.new.tablets).items (restored c))) c.self.invariant.ranges;
}

pub returns-clause-step : goal.returns-clause-step
returns-clause-step c = λ logs m is st.
    let t = seen c.self.inside in
    let safe : c.least_open-t.result ≡ safe_now logs m = c.least_open-t.ensures ∙ ap least_open c.deref.ensures.value
    ∙ ap (λ (t : TargetState). least_open t.pollers) c.self.view_is ∙ safe-is logs m c.args.self.now is st in
    is-closed logs m t is (subst (StandsForSession logs m) (sym c.self.view_is) st) c.in_default.is c.least_open-t.result
    (with_items c.self.inside.tablets c.restore.new.tablets).items safe (restored c)

pub returns-clause-keeps : goal.returns-clause-keeps
returns-clause-keeps c =
    keeps-thin (seen c.self.inside) c.args.self.now (λ x y. y ≡ restore c.least_open-t.result x) (restore-thins c.least_open-t.result)
    (with_items c.self.inside.tablets c.restore.new.tablets).items c.self.inside.retention (Some c.least_open-t.result) c.self.view_is
    (restored c)
