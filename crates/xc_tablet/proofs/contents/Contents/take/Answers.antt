use Rattle.std.proofs.Common.{ℕ, cond, ap, sym, subst, ◌∙◌, arith, rules}
use Rattle.xc_record.specs.declared.record.Kind.{Kind}
use Rattle.xc_record.specs.Hash.{hash_of, holds}
use Rattle.xc_record.specs.Path.{Put, Hold, kind_events, record_events}
use Rattle.xc_record.specs.Kept.{steps}
use Rattle.xc_versions.specs.Stored.{Store}
use Rattle.xc_tablet.specs.Contents.{Changes, keys_keep}
use Rattle.xc_tablet.specs.Room.{is_apply, puts_of, holds_of}
use Rattle.xc_tablet.proofs.Aparts.{changes-apart}
use Rattle.xc_tablet.proofs.RoomLaws.{owned, room-behind, room-passed}
use Rattle.xc_tablet.proofs.contents.Contents.take.Goals as goal

pub returns-in-Write-clause-changes : goal.returns-in-Write-clause-changes
returns-in-Write-clause-changes c =
    let h = c.args.header.now in
    subst (λ (t : ℕ). Changes (λ k x. cond (holds h (hash_of k)) (steps (kind_events k t c.args.item.now.kind) x) x) c.args.self.now
    c.put_all.new.self) c.get.ensures.value
    (subst (λ (q : Kind). Changes (λ k x. cond (holds h (hash_of k)) (steps (kind_events k c.get.result q) x) x) c.args.self.now
    c.put_all.new.self) (sym c.in-Write.is)
    (owned (Put c.get.result) h c.in-Write.ops c.args.self.now c.put_all.new.self (ap (keys_keep h) (sym c.in-Write.is)
    ∙ c.requires.keep) c.put_all.ensures.changes))

pub returns-in-Intent-clause-changes : goal.returns-in-Intent-clause-changes
returns-in-Intent-clause-changes c =
    let h = c.args.header.now in
    let t = c.args.item.now.time in
    subst (λ (q : Kind). Changes (λ k x. cond (holds h (hash_of k)) (steps (kind_events k t q) x) x) c.args.self.now c.hold_all.new.self)
    (sym c.in-Intent.is)
    (owned (Hold c.in-Intent.txn c.in-Intent.sub t) h c.in-Intent.ops c.args.self.now c.hold_all.new.self
    (ap (keys_keep h) (sym c.in-Intent.is) ∙ c.requires.keep) (c.hold_all.ensures.changes t))

pub returns-in-Intent-clause-room : goal.returns-in-Intent-clause-room
returns-in-Intent-clause-room c = λ rs room.
    let s = c.args.self.now in
    let e = c.in-Intent.is in
    let a = c.hold_all.ensures.adds in
    let p = ap (puts_of s.lo s.hi) e in
    let q = ap (holds_of s.lo s.hi) e in
    room-behind c.args.item.now rs s c.hold_all.new.self (c.hold_all.ensures.changes 0).range (ap is_apply e) (omega (arith, a.versions))
    (omega (arith, a.held)) (omega (arith, a.waits)) room

pub returns-in-Abort-clause-room : goal.returns-in-Abort-clause-room
returns-in-Abort-clause-room c = λ rs room.
    let s = c.args.self.now in
    let e = c.in-Abort.is in
    let a = c.abort.ensures.settles in
    let spare = ap (λ (v : Store). v.spare) c.abort.ensures.versions in
    let p = ap (puts_of s.lo s.hi) e in
    let q = ap (holds_of s.lo s.hi) e in
    room-behind c.args.item.now rs s c.abort.new.self c.abort.ensures.changes.range (ap is_apply e) (omega (arith, spare))
    (omega (arith, a.held)) (omega (arith, a.fewer)) room

pub returns-then-is_apart-clause-changes : goal.returns-then-is_apart-clause-changes
returns-then-is_apart-clause-changes c =
    changes-apart (λ k x. steps (record_events k c.args.item.now) x) c.args.header.now c.args.self.now c.requires.is
    (c.is_apart.ensures.apart (search rules))

pub returns-then-is_apart-clause-room : goal.returns-then-is_apart-clause-room
returns-then-is_apart-clause-room c = λ rs room. room-passed c.args.item.now rs c.args.self.now room
