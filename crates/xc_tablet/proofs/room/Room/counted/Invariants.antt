use Rattle.std.proofs.Common.{◌≡◌, ◌+◌, ◌*◌, ◌≤◌, ◌||◌, drop, true}
use Rattle.xc_tablet.specs.Contents.{all_keep}
use Rattle.xc_tablet.specs.Room.{puts_in, holds_in, has_apply}
use Rattle.xc_tablet.proofs.room.Room.counted.Given as goal

abbrev pub invariant-loop-item : goal.invariant-loop-item
invariant-loop-item l = record {
  keep : all_keep l.header (drop l.item-index l.records) ≡ true;
  puts : l.room.puts + puts_in l.lo l.hi (drop l.item-index l.records) ≡ puts_in l.lo l.hi l.records;
  holds : l.room.holds + holds_in l.lo l.hi (drop l.item-index l.records) ≡ holds_in l.lo l.hi l.records;
  applies : (l.room.applies || has_apply (drop l.item-index l.records)) ≡ has_apply l.records;
  few_puts : l.room.puts ≤ 64 * l.item-index;
  few_holds : l.room.holds ≤ 64 * l.item-index;
}
