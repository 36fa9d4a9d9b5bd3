use Rattle.std.proofs.Common.{◌≡◌, ◌+◌, true}
use Rattle.xc_tablet.specs.Contents.{all_held}
use Rattle.xc_tablet.specs.Room.{count_in}
use Rattle.xc_tablet.proofs.room.count_in.Given as goal

abbrev pub invariant-loop-op : goal.invariant-loop-op
invariant-loop-op l = record {
  keep : all_held l.header l.op-iterator ≡ true;
  count : l.count + count_in l.lo l.hi l.op-iterator ≡ count_in l.lo l.hi l.ops;
}
