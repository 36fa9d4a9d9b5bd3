use Rattle.std.proofs.Common.{◌≡◌, ◌∙◌, ap, max, subst, sym, arith}
use Rattle.std.specs.List.{AllZip}
use Rattle.xc_model.specs.Stands.{KeepsFrom}
use Rattle.xc_retain.specs.Retention.{StillStands}
use Rattle.xc_retain.proofs.RetainLaws.{pruned-stands}
use Rattle.xc_tablet.proofs.Zips.{zip-refl, zip-map}
use Rattle.xc_retain.proofs.retention.Retention.prune.Goals as goal

pub returns-then-u-safe-clause-stands : goal.returns-then-u-safe-clause-stands
returns-then-u-safe-clause-stands c =
    λ logs. zip-refl (StillStands logs c.args.safe c.args.self.now c.args.self.now) c.args.tablets.now (λ x s covers. s)

pub returns-clause-stands : goal.returns-clause-stands
returns-clause-stands c = λ logs.
    let old = c.args.self.now in
    let u = c.args.u in
    let is : c.max-self-inside.result ≡ max old u = c.max-self-inside.ensures ∙ ap (λ n. max n u) c.self.view_is in
    let kept = subst (λ n. AllZip (KeepsFrom n) c.args.tablets.now c.keep_all_from.new.tablets) is c.keep_all_from.ensures in
    subst (λ n. AllZip (StillStands logs c.args.safe old n) c.args.tablets.now c.keep_all_from.new.tablets) (sym is)
    (zip-map (KeepsFrom (max old u)) (StillStands logs c.args.safe old (max old u))
    (λ x y k. pruned-stands logs c.args.safe old u x y (omega (arith, c.if-u-safe.false)) k)
    c.args.tablets.now c.keep_all_from.new.tablets kept)
