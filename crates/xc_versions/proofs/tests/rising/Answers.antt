use Rattle.std.proofs.Common.{◌≡◌, ◌+◌, ◌<◌, ◌≤◌, arith}
use Rattle.xc_record.proofs.ListLaws.{Each-weaker}
use Rattle.xc_versions.specs.declared.stored.StoredVersion.{StoredVersion}
use Rattle.xc_versions.specs.Stored.{stored}
use Rattle.xc_versions.proofs.VersionLaws.{new-later, each-with}
use Rattle.xc_versions.proofs.tests.rising.Goals as goal

pub add-requires-clause-fresh : goal.add-requires-clause-fresh
add-requires-clause-fresh c =
    let v : StoredVersion = stored c.in_ok-op.op.key (c.loop-key.commit + 1) 0 0 c.in_ok-op.op.value in
    let i = c.loop-key.key-index in
    let count : c.loop-key.commit ≡ i = c.loop-key.invariant.count in
    new-later v c.loop-key.versions.items
    (Each-weaker (λ x. x.commit ≤ i) (λ x. x.commit < v.commit) (λ x h. omega arith) c.loop-key.versions.items
    c.loop-key.invariant.earlier)

pub loop-key-preserved : goal.loop-key-preserved
loop-key-preserved c =
    let v : StoredVersion = stored c.in_ok-op.op.key (c.loop-key.commit + 1) 0 0 c.in_ok-op.op.value in
    let i = c.loop-key.key-index in
    let count : c.loop-key.commit ≡ i = c.loop-key.invariant.count in
    let before = c.loop-key.invariant.room in
    let spare = c.add.ensures.spare in
    record {
      count = omega arith;
      earlier = rw c.add.ensures.items (each-with (λ x. x.commit ≤ i + 1) v c.loop-key.versions.items (omega arith)
          (Each-weaker (λ x. x.commit ≤ i) (λ x. x.commit ≤ i + 1) (λ x h. omega arith) c.loop-key.versions.items
          c.loop-key.invariant.earlier));
      room = omega arith;
    }
