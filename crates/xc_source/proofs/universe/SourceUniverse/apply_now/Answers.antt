use Rattle.std.proofs.Common.{refl}
use Rattle.std.proofs.Common.{◌≡◌, ap, subst, arith, Some}
use Rattle.std.proofs.lemmas.Grind.{common_steps}
use Rattle.std.proofs.Common.{get_or, length, ◌<◌}
use Rattle.std.specs.Prelude.{slice_get}
use Rattle.std.proofs.lemmas.Option.{slice_get-get_or}
use Rattle.xc_source.specs.Universe.{Logged}
use Rattle.xc_source.specs.Waiting.{taken}
use Rattle.xc_source.proofs.UniverseLaws.{universe-set, same-stage, same-taken, apply-next}
use Rattle.xc_source.proofs.universe.SourceUniverse.apply_now.Goals as goal

pub invariant_of-self-2 : goal.invariant_of-self-2
invariant_of-self-2 c =
    let header = (get_or c.tablets.result.now c.args.id c.index-tablets-id.result).header in
    universe-set c.self.inside.journal.time c.log_apply.new.journal.time c.args.txn 0 (taken header) c.self.inside.txns _ c.take.ensures
    (same-taken header)
    (let s = ap (λ (j : Logged). j.time) c.in_ok-time.ensures.ok.1 in omega (arith, s))
    (same-stage (taken header) _ (λ t. refl)) c.self.invariant

pub returns-clause-ok : goal.returns-clause-ok
returns-clause-ok c =
    let b = get_or c.tablets.result.now c.args.id c.index-tablets-id.result in
    let within : c.args.id < length c.tablets.result.now = grind (arith, common_steps) in (
      grind (arith, common_steps),
      apply-next c.args.txn c.args.id c.args.self.now c.self.inside.journal c.log_apply.new.journal c.self.inside.commits
          c.self.inside.txns c.take.new.self c.at.result.now b c.self.view_is c.at.ensures
          (subst (λ ts. slice_get ts c.args.id ≡ Some b) c.tablets.ensures.tablets
          (slice_get-get_or c.tablets.result.now c.args.id c.index-tablets-id.result within))
          (c.in_ok-time.ensures.ok.1) c.take.ensures,
    )
