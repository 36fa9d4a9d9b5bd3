use Rattle.std.proofs.Common.{◌≡◌, ◌+◌, ◌<◌, arith}
use Rattle.xc_record.proofs.ListLaws.{Each-weaker}
use Rattle.xc_versions.specs.declared.stored.StoredVersion.{StoredVersion}
use Rattle.xc_versions.specs.Stored.{stored}
use Rattle.xc_versions.proofs.VersionLaws.{new-last, each-with}
use Rattle.xc_measure.proofs.fill.Goals as goal

pub add-requires-clause-fresh : goal.add-requires-clause-fresh
add-requires-clause-fresh c =
    let v : StoredVersion = stored c.in_ok-op.op.key c.commit_of-commit.result 0 c.loop-i.i c.in_ok-op.op.value in
    new-last v c.loop-i.versions.items
    (Each-weaker (λ x. x.place < c.loop-i.i) (λ x. x.key ≡ v.key → x.commit ≡ v.commit → x.txn ≡ v.txn → x.place < v.place) (λ x h a b d. h)
    c.loop-i.versions.items c.loop-i.invariant.earlier)

pub loop-i-preserved : goal.loop-i-preserved
loop-i-preserved c =
    let v : StoredVersion = stored c.in_ok-op.op.key c.commit_of-commit.result 0 c.loop-i.i c.in_ok-op.op.value in
    let before = c.loop-i.invariant.room in
    let spare = c.add.ensures.spare in
    record {
      earlier = rw c.add.ensures.items (each-with (λ x. x.place < c.loop-i.i + 1) v c.loop-i.versions.items (omega arith)
          (Each-weaker (λ x. x.place < c.loop-i.i) (λ x. x.place < c.loop-i.i + 1) (λ x h. omega arith) c.loop-i.versions.items
          c.loop-i.invariant.earlier));
      room = omega arith;
    }
