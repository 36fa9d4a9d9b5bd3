use Rattle.std.proofs.Common.{◌+◌, List, take, drop, sym, subst}
use Rattle.xc_record.specs.declared.record.Record.{Record}
use Rattle.xc_model.specs.Stands.{TakesAll}
use Rattle.xc_model.proofs.Batches.{batches-grow}
use Rattle.xc_tablet.specs.State.{seen, Ready}
use Rattle.xc_tablet.proofs.StateLaws.{ready-first, drop-first, take-first}
use Rattle.xc_tablet.proofs.state.State.take_all.Goals as goal

pub take_in-requires : goal.take_in-requires
take_in-requires c =
    let rs = c.args.records.now in
    let i = c.loop-item.item-index in
    let r = c.item-item.result in
    ready-first c.args.id c.args.header.now r (drop (i + 1) rs) c.loop-item.self
    (subst (λ (q : List Record). Ready c.args.id c.args.header.now q c.loop-item.self)
    (drop-first rs i r c.loop-item-test.true c.item-item.is) c.loop-item.invariant.ready)

pub loop-item-preserved : goal.loop-item-preserved
loop-item-preserved c =
    let rs = c.args.records.now in
    let i = c.loop-item.item-index in
    let r = c.item-item.result in
    record {
      ready = c.take_in.ensures.ready (drop (i + 1) rs)
          (subst (λ (q : List Record). Ready c.args.id c.args.header.now q c.loop-item.self)
          (drop-first rs i r c.loop-item-test.true c.item-item.is) c.loop-item.invariant.ready);
      taken = subst (λ (q : List Record). TakesAll c.args.id q (seen c.args.self.now) (seen c.take_in.new.self))
          (sym (take-first rs i r c.loop-item-test.true c.item-item.is))
          (batches-grow c.args.id (take i rs) r (seen c.args.self.now) (seen c.loop-item.self) (seen c.take_in.new.self)
          c.loop-item.invariant.taken c.take_in.ensures.taken);
    }
