use Rattle.std.proofs.Common.{◌*◌, ◌/◌, ◌<◌}
use Rattle.std.specs.Prelude.{nat_le}
use Rattle.xc_record.proofs.ListLaws.{Each-filter}
use Rattle.xc_versions.specs.declared.stored.StoredVersion.{StoredVersion}
use Rattle.xc_versions.proofs.VersionLaws.{each-kept}
use Rattle.xc_versions.proofs.plain.shrink.Goals as goal

pub returns-then-next-eq0 : goal.returns-then-next-eq0
returns-then-next-eq0 c =
    rw c.drop_after.ensures.items
    (Each-filter (λ x. x.place < c.args.place) (λ (x : StoredVersion). nat_le x.commit (c.next-t.result / 8 * 7)) c.args.versions.now.items
    c.requires.earlier)

pub returns-in_ok-items : goal.returns-in_ok-items
returns-in_ok-items c =
    rw c.keep_from.ensures.items (each-kept (λ x. x.place < c.args.place) c.next-t.result c.args.versions.now.items c.requires.earlier)
