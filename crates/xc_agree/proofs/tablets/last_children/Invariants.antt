use Rattle.std.proofs.Common.{◌≡◌, take, length}
use Rattle.xc_agree.specs.Cases.{AreLast}
use Rattle.xc_agree.proofs.tablets.last_children.Given as goal

abbrev pub invariant-loop-i : goal.invariant-loop-i
invariant-loop-i l = record {
  count : length l.lasts.items ≡ length l.tablets;
  last : AreLast l.lasts.items (take l.i l.tablets);
}
