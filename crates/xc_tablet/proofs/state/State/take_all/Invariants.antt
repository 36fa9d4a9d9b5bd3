use Rattle.std.proofs.Common.{take, drop}
use Rattle.xc_model.specs.Stands.{TakesAll}
use Rattle.xc_tablet.specs.State.{seen, Ready}
use Rattle.xc_tablet.proofs.state.State.take_all.Given as goal

abbrev pub invariant-loop-item : goal.invariant-loop-item
invariant-loop-item l = record {
  ready : Ready l.id l.header (drop l.item-index l.records) l.self;
  taken : TakesAll l.id (take l.item-index l.records) (seen l.initial.self) (seen l.self);
}
