use Rattle.std.proofs.Common.{◌≡◌, true, List, sym, subst, arith}
use Rattle.std.specs.Prelude.{nat_le}
use Rattle.std.specs.List.{list_all}
use Rattle.xc_record.specs.declared.record.Record.{Record}
use Rattle.xc_record.specs.Valid.{ops_in}
use Rattle.xc_model.specs.Stands.{TargetTablet, TakesAll}
use Rattle.xc_tablet.specs.Contents.{all_keep}
use Rattle.xc_tablet.specs.Room.{HasRoom}
use Rattle.xc_tablet.specs.State.{seen, Ready}
use Rattle.xc_tablet.proofs.StateLaws.{alike-state, alike-seen, few-at_all, small-past, held-past, ready-past, past-is}
use Rattle.xc_tablet.proofs.state.State.deliver.Goals as goal

pub make_room-requires-clause-keep : goal.make_room-requires-clause-keep
make_room-requires-clause-keep c =
    let s = c.args.self.now in
    let h = c.header-header.result in
    let e = past-is s c.args.id c.args.from h c.args.records.now c.past-past.result.now c.index.result.now c.requires.is
    c.header-header.ensures c.index.ensures c.past-past.ensures in
    subst (λ (rs : List Record). all_keep h rs ≡ true) (sym e)
    (held-past c.args.id c.args.from h c.args.records.now s c.requires.is c.requires.can c.header-header.ensures)

pub make_room-requires-clause-small : goal.make_room-requires-clause-small
make_room-requires-clause-small c =
    let s = c.args.self.now in
    let h = c.header-header.result in
    let e = past-is s c.args.id c.args.from h c.args.records.now c.past-past.result.now c.index.result.now c.requires.is
    c.header-header.ensures c.index.ensures c.past-past.ensures in
    subst (λ (rs : List Record). list_all (λ r. nat_le (ops_in r.kind) 64) rs ≡ true) (sym e)
    (small-past c.args.id c.args.from h c.args.records.now s c.requires.is c.requires.can c.header-header.ensures)

pub make_room-requires-clause-waits : goal.make_room-requires-clause-waits
make_room-requires-clause-waits c = omega (arith, few-at_all c.args.self.now c.requires.is)

pub returns-in_err-make_room-clause-is : goal.returns-in_err-make_room-clause-is
returns-in_err-make_room-clause-is c = alike-state c.args.self.now c.make_room.new.self c.make_room.ensures.alike c.requires.is

pub take_all-requires : goal.take_all-requires
take_all-requires c =
    let s = c.args.self.now in
    let h = c.header-header.result in
    let d = c.make_room.new.self in
    let e = past-is s c.args.id c.args.from h c.args.records.now c.past-past.result.now c.index.result.now c.requires.is
    c.header-header.ensures c.index.ensures c.past-past.ensures in
    subst (λ (rs : List Record). Ready c.args.id h rs (record s { contents = d })) (sym e)
    (ready-past c.args.id c.args.from h c.args.records.now s c.requires.is c.requires.can c.header-header.ensures d
    c.make_room.ensures.alike (subst (λ (rs : List Record). HasRoom rs d) e c.in_ok-make_room.ensures.room))

pub returns-clause-taken : goal.returns-clause-taken
returns-clause-taken c =
    let s = c.args.self.now in
    let h = c.header-header.result in
    let e = past-is s c.args.id c.args.from h c.args.records.now c.past-past.result.now c.index.result.now c.requires.is
    c.header-header.ensures c.index.ensures c.past-past.ensures in
    subst (λ (rs : List Record). TakesAll c.args.id rs (seen s) (seen c.take_all.new.self)) e
    (subst (λ (x : TargetTablet). TakesAll c.args.id c.past-past.result.now x (seen c.take_all.new.self))
    (alike-seen s c.make_room.new.self c.make_room.ensures.alike) c.take_all.ensures.taken)
