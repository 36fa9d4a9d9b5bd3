use Rattle.std.proofs.Common.{◌≡◌, true}
use Rattle.xc_tablet.specs.Contents.{all_held}
use Rattle.xc_record.specs.Path.{Put}
use Rattle.xc_tablet.proofs.ContentsLaws.{Left, AddsLeft}
use Rattle.xc_tablet.proofs.contents.Contents.put_all.Given as goal

abbrev pub invariant-loop-op : goal.invariant-loop-op
invariant-loop-op l = record {
  keep : all_held l.header l.op-iterator ≡ true;
  left : Left (Put l.time) l.ops l.op-iterator l.initial.self l.self;
  adds : AddsLeft l.ops l.op-iterator l.initial.self l.self;
}
