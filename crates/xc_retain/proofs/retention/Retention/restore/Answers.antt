use Rattle.std.proofs.Common.{◌≡◌}
use Rattle.xc_model.specs.Stands.{restore}
use Rattle.xc_retain.specs.Retention.{IsRestored, ShowsSame}
use Rattle.xc_retain.proofs.RetainLaws.{is-restored, shows-same}
use Rattle.xc_tablet.proofs.Zips.{zip-map}
use Rattle.xc_retain.proofs.retention.Retention.restore.Goals as goal

pub returns-clause-stood : goal.returns-clause-stood
returns-clause-stood c = λ logs u.
    let t = c.args.t in
    zip-map (λ x y. y ≡ restore t x) (IsRestored logs u t) (is-restored logs u t) c.args.tablets.now c.restore_all.new.tablets
    c.restore_all.ensures

pub returns-clause-reads : goal.returns-clause-reads
returns-clause-reads c = λ v.
    let t = c.args.t in
    zip-map (λ x y. y ≡ restore t x) (ShowsSame t v) (shows-same t v) c.args.tablets.now c.restore_all.new.tablets c.restore_all.ensures
