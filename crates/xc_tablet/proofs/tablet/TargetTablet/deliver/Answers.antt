use Rattle.std.proofs.Common.{◌≡◌, ℕ, ◌-◌, length, take, drop, ap, sym, ◌∙◌, subst}
use Rattle.xc_record.specs.declared.record.Logs.{Logs}
use Rattle.xc_record.specs.Accepted.{accepted}
use Rattle.xc_model.specs.Laws.{BatchTaken}
use Rattle.xc_model.specs.Stands.{TargetTablet, StandsFor, TakesBatch}
use Rattle.xc_tablet.specs.State.{seen}
use Rattle.xc_tablet.proofs.TabletLaws.{on_ok-map, batch-moves, batch-stands}
use Rattle.xc_tablet.proofs.tablet.TargetTablet.deliver.Goals as goal

pub returns-clause-moved : goal.returns-clause-moved
returns-clause-moved c =
    let x = c.args.self.now in
    let y = seen c.deliver.new.self in
    let count = sym (ap (λ (z : TargetTablet). length z.places) c.self.view_is) ∙ c.self.invariant.count
    ∙ ap (λ (z : TargetTablet). length z.floors.headers) c.self.view_is in
    on_ok-map (TakesBatch c.args.id c.args.from c.args.records.now (seen c.self.inside.state) y)
    (BatchTaken c.args.id c.args.from c.args.records.now x y) c.deliver.result
    (λ t. batch-moves c.args.id c.args.from c.args.records.now x y c.requires.first c.requires.next c.requires.started count
    (subst (λ (z : TargetTablet). TakesBatch c.args.id c.args.from c.args.records.now z y) c.self.view_is t))
    c.deliver.ensures.taken

pub returns-clause-stands : goal.returns-clause-stands
returns-clause-stands c =
    let x = c.args.self.now in
    let y = seen c.deliver.new.self in
    on_ok-map (TakesBatch c.args.id c.args.from c.args.records.now (seen c.self.inside.state) y)
    ((logs : Logs) (u : ℕ) → StandsFor logs u x → c.args.records.now ≡ take (length c.args.records.now)
    (drop (c.args.from - 1) (accepted logs c.args.id)) → StandsFor logs u y) c.deliver.result
    (λ t. batch-stands c.args.id c.args.from c.args.records.now x y c.requires.first c.requires.next c.requires.started
    (subst (λ (z : TargetTablet). TakesBatch c.args.id c.args.from c.args.records.now z y) c.self.view_is t))
    c.deliver.ensures.taken
