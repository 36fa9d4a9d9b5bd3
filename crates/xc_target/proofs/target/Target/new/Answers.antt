use Rattle.std.proofs.Common.{◌≡◌, List, None, map, subst, sym}
use Rattle.xc_record.specs.Bounds.{IsPartition}
use Rattle.xc_record.specs.Session.{start}
use Rattle.xc_model.specs.Rows.{range_of}
use Rattle.xc_model.specs.Stands.{TargetTablet}
use Rattle.xc_target.specs.Target.{TargetState, FitsFeed, new_target}
use Rattle.xc_target.specs.Stands.{StandsForSession}
use Rattle.xc_target.proofs.NewLaws.{new-ranges, new-target-stands, new-target-fits}
use Rattle.xc_target.proofs.target.Target.new.Goals as goal

is-new : (c : goal.After-new)
    → ◌≡◌ {A = TargetState} (record {
      tablets = c.in_ok-tablets.tablets.items;
      pollers = c.in_ok-pollers.pollers.items;
      cutoff = c.new.result;
      closed = None;
    }) (new_target c.args.headers.now c.args.bounds.now)
is-new c =
    let tablets = c.in_ok-tablets.ensures in
    let pollers = c.in_ok-pollers.ensures in
    let cutoff = c.new.ensures in
    cc

pub invariant_of-result : goal.invariant_of-result
invariant_of-result c = record {
  ranges = subst (λ (xs : List TargetTablet). IsPartition (map range_of xs)) (sym (c.in_ok-tablets.ensures))
      (new-ranges c.args.headers.now c.args.bounds.now c.requires.bounds);
}

pub returns-clause-stands : goal.returns-clause-stands
returns-clause-stands c = λ logs valid same. subst (StandsForSession logs (start logs)) (sym (is-new c))
    (new-target-stands logs valid c.args.headers.now c.args.bounds.now same)

pub returns-clause-fits : goal.returns-clause-fits
returns-clause-fits c = λ counts logs feed. subst (FitsFeed c.args.headers.now counts) (sym (is-new c))
    (new-target-fits c.args.headers.now counts logs feed c.requires.headers c.args.bounds.now)
