use Rattle.std.proofs.Common.{◌≡◌, take, drop}
use Rattle.std.specs.List.{AllZip}
use Rattle.xc_target.specs.Target.{Opens}
use Rattle.xc_target.proofs.opening.open_children.Given as goal

abbrev pub invariant-loop-i : goal.invariant-loop-i
invariant-loop-i l = record {
  first : AllZip (Opens l.parent) (take l.i l.fn.pollers) (take l.i l.pollers);
  rest : drop l.i l.pollers ≡ drop l.i l.fn.pollers;
}
