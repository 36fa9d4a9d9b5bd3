use Rattle.std.proofs.Common.{subst}
use Rattle.xc_model.specs.Stands.{TargetTablet, KeepsFrom}
use Rattle.xc_model.proofs.KeepLaws.{cutoffs-keep}
use Rattle.xc_tablet.specs.State.{seen}
use Rattle.xc_tablet.proofs.CutLaws.{kept-state, kept-keeps, with_versions}
use Rattle.xc_tablet.proofs.tablet.TargetTablet.keep_from.Goals as goal

pub invariant_of-self : goal.invariant_of-self
invariant_of-self c = kept-state c.self.inside.state c.keep_from.new.self c.args.cutoff c.self.invariant c.keep_from.ensures.items

pub returns : goal.returns
returns c =
    let keeps = subst (λ (x : TargetTablet). KeepsFrom c.args.cutoff x (seen (with_versions c.self.inside.state c.keep_from.new.self)))
    c.self.view_is
    (kept-keeps c.self.inside.state c.keep_from.new.self c.args.cutoff c.self.invariant c.keep_from.ensures.items) in
    record {
      kept = keeps;
      stands = λ logs u stands covered. cutoffs-keep logs c.args.self.now (seen (with_versions c.self.inside.state c.keep_from.new.self)) u
          c.args.cutoff stands covered keeps;
    }
