use Rattle.std.proofs.Common.{refl, sym, ◌∙◌}
use Rattle.xc_tablet.proofs.ContentsLaws.{put-inside, outside, last-of_counted}
use Rattle.xc_versions.proofs.VersionLaws.{new-last}
use Rattle.xc_versions.specs.Stored.{stored}
use Rattle.xc_record.specs.Path.{Put}
use Rattle.xc_tablet.proofs.contents.Contents.put.Goals as goal

pub add-requires-clause-fresh : goal.add-requires-clause-fresh
add-requires-clause-fresh c =
    let s = c.args.self.now in
    let v = stored c.args.op.now.key c.args.time 0 s.next c.args.op.now.value in
    new-last v s.versions.items (last-of_counted v s.versions.items c.requires.is.counted)

pub returns-then-has-clause-changes : goal.returns-then-has-clause-changes
returns-then-has-clause-changes c =
    let s = c.args.self.now in
    put-inside s _ c.args.time c.args.op.now c.requires.is (record {
      range = (refl, refl);
      inside = sym c.has.ensures ∙ c.if-has.true;
      at = refl;
      items = c.add.ensures.items;
      next = refl;
    }) refl

pub returns-else-has-clause-changes : goal.returns-else-has-clause-changes
returns-else-has-clause-changes c =
    outside (Put c.args.time) c.args.self.now c.args.op.now c.requires.is (sym c.has.ensures ∙ c.if-has.false)
