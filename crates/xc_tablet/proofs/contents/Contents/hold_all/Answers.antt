use Rattle.std.proofs.Common.{◌≤◌, List, ◌∷◌, subst}
use Rattle.xc_record.specs.Path.{Hold}
use Rattle.xc_record.specs.declared.record.Op.{Op}
use Rattle.xc_tablet.specs.Room.{count_in}
use Rattle.xc_tablet.proofs.ContentsLaws.{Left, HoldsLeft, left-more, left-none, holds-more, room-first, room-rest}
use Rattle.xc_tablet.proofs.RoomLaws.{all-next}
use Rattle.xc_tablet.proofs.contents.Contents.hold_all.Goals as goal

pub hold-requires-clause-keep : goal.hold-requires-clause-keep
hold-requires-clause-keep c =
    (all-next c.args.header.now c.in-Some.op c.next.new.self c.loop-op.op-iterator c.in-Some.ensures.steps c.loop-op.invariant.keep).0

pub hold-requires-clause-is : goal.hold-requires-clause-is
hold-requires-clause-is c = c.loop-op.invariant.is

pub hold-requires-clause-room : goal.hold-requires-clause-room
hold-requires-clause-room c =
    let d = c.loop-op.self in
    room-first d c.in-Some.op c.next.new.self
    (subst (λ (rest : List Op). count_in d.lo d.hi rest ≤ d.held.spare) c.in-Some.ensures.steps c.loop-op.invariant.room)

pub loop-op-preserved : goal.loop-op-preserved
loop-op-preserved c =
    let s = c.args.self.now in
    let ops = c.args.ops.now in
    let d = c.loop-op.self in
    let adds : HoldsLeft ops (c.in-Some.op ∷ c.next.new.self) s d =
    subst (λ (rest : List Op). HoldsLeft ops rest s d) c.in-Some.ensures.steps c.loop-op.invariant.adds in
    let keep = all-next c.args.header.now c.in-Some.op c.next.new.self c.loop-op.op-iterator c.in-Some.ensures.steps
    c.loop-op.invariant.keep in
    record {
      keep = keep.1;
      left = λ time. left-more (Hold c.args.txn c.args.sub time) ops c.in-Some.op c.next.new.self s d _
          (subst (λ (rest : List Op). Left (Hold c.args.txn c.args.sub time) ops rest s d) c.in-Some.ensures.steps
          (c.loop-op.invariant.left time)) (c.hold.ensures.changes time);
      is = (c.hold.ensures.changes 0).is;
      room = room-rest d _ c.in-Some.op c.next.new.self (c.hold.ensures.changes 0).range c.hold.ensures.adds
          (subst (λ (rest : List Op). count_in d.lo d.hi rest ≤ d.held.spare) c.in-Some.ensures.steps c.loop-op.invariant.room);
      adds = holds-more ops c.in-Some.op c.next.new.self s d _ (c.loop-op.invariant.left 0).range adds c.hold.ensures.adds;
    }

pub returns-clause-changes : goal.returns-clause-changes
returns-clause-changes c = λ time. left-none (Hold c.args.txn c.args.sub time) c.args.ops.now c.args.self.now c.loop-op.self
    (subst (λ (rest : List Op). Left (Hold c.args.txn c.args.sub time) c.args.ops.now rest c.args.self.now c.loop-op.self)
    c.in-None.ensures.steps.0 (c.loop-op.invariant.left time))
