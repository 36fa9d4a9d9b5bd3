use Rattle.std.proofs.Common.{List, ◌∷◌, subst}
use Rattle.xc_record.specs.Path.{Put}
use Rattle.xc_record.specs.declared.record.Op.{Op}
use Rattle.xc_tablet.proofs.ContentsLaws.{Left, AddsLeft, left-more, adds-more}
use Rattle.xc_tablet.proofs.RoomLaws.{all-next}
use Rattle.xc_tablet.proofs.contents.Contents.put_all.Goals as goal

pub put-requires-clause-keep : goal.put-requires-clause-keep
put-requires-clause-keep c =
    (all-next c.args.header.now c.in-Some.op c.next.new.self c.loop-op.op-iterator c.in-Some.ensures.steps c.loop-op.invariant.keep).0

pub loop-op-preserved : goal.loop-op-preserved
loop-op-preserved c =
    let s = c.args.self.now in
    let ops = c.args.ops.now in
    let d = c.loop-op.self in
    let left : Left (Put c.args.time) ops (c.in-Some.op ∷ c.next.new.self) s d =
    subst (λ (rest : List Op). Left (Put c.args.time) ops rest s d) c.in-Some.ensures.steps c.loop-op.invariant.left in
    let adds : AddsLeft ops (c.in-Some.op ∷ c.next.new.self) s d =
    subst (λ (rest : List Op). AddsLeft ops rest s d) c.in-Some.ensures.steps c.loop-op.invariant.adds in
    let keep = all-next c.args.header.now c.in-Some.op c.next.new.self c.loop-op.op-iterator c.in-Some.ensures.steps
    c.loop-op.invariant.keep in
    record {
      keep = keep.1;
      left = left-more (Put c.args.time) ops c.in-Some.op c.next.new.self s d _ left c.put.ensures.changes;
      adds = adds-more ops c.in-Some.op c.next.new.self s d _ left.range adds c.put.ensures.adds;
    }
