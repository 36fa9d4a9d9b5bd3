use Rattle.std.proofs.Common.{◌≡◌, ◌+◌, ◌<◌, arith}
use Rattle.xc_record.proofs.ListLaws.{Each-weaker}
use Rattle.xc_versions.specs.declared.stored.StoredVersion.{StoredVersion}
use Rattle.xc_versions.specs.Stored.{stored}
use Rattle.xc_versions.proofs.VersionLaws.{new-last, each-with}
use Rattle.xc_versions.proofs.plain.add.Goals as goal

pub add-requires-clause-fresh : goal.add-requires-clause-fresh
add-requires-clause-fresh c =
    let v : StoredVersion = stored c.in_ok-op.op.key c.next-commit.result c.next-number.result c.args.place c.in_ok-op.op.value in
    rw c.in_ok-reserve.ensures.items
    (new-last v c.args.versions.now.items
    (Each-weaker (λ x. x.place < c.args.place) (λ x. x.key ≡ v.key → x.commit ≡ v.commit → x.txn ≡ v.txn → x.place < v.place)
    (λ x h a b d. h) c.args.versions.now.items c.requires.earlier))

pub returns : goal.returns
returns c =
    let v : StoredVersion = stored c.in_ok-op.op.key c.next-commit.result c.next-number.result c.args.place c.in_ok-op.op.value in
    let xs = c.args.versions.now.items in
    rw (c.add.ensures.items, c.in_ok-reserve.ensures.items)
    (each-with (λ x. x.place < c.args.place + 1) v xs (omega arith)
    (Each-weaker (λ x. x.place < c.args.place) (λ x. x.place < c.args.place + 1) (λ x h. omega arith) xs c.requires.earlier))
