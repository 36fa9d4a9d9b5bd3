use Rattle.std.proofs.Common.{◌≡◌, take, drop}
use Rattle.std.specs.List.{AllZip}
use Rattle.xc_model.specs.Stands.{restore}
use Rattle.xc_retain.proofs.each.restore_all.Given as goal

abbrev pub invariant-loop-tablet : goal.invariant-loop-tablet
invariant-loop-tablet l = record {
  first : AllZip (λ x y. y ≡ restore l.t x) (take l.tablet-index l.fn.tablets) (take l.tablet-index l.tablets);
  rest : drop l.tablet-index l.tablets ≡ drop l.tablet-index l.fn.tablets;
}
