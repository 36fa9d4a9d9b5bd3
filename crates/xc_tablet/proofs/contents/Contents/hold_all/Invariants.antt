use Rattle.std.proofs.Common.{◌≡◌, ◌≤◌, ℕ, true}
use Rattle.xc_record.specs.Path.{Hold}
use Rattle.xc_tablet.specs.Room.{count_in}
use Rattle.xc_tablet.specs.Contents.{IsContents, all_held}
use Rattle.xc_tablet.proofs.ContentsLaws.{Left, HoldsLeft}
use Rattle.xc_tablet.proofs.contents.Contents.hold_all.Given as goal

abbrev pub invariant-loop-op : goal.invariant-loop-op
invariant-loop-op l = record {
  keep : all_held l.header l.op-iterator ≡ true;
  left : (time : ℕ) → Left (Hold l.txn l.sub time) l.ops l.op-iterator l.initial.self l.self;
  is : IsContents l.self;
  room : count_in l.self.lo l.self.hi l.op-iterator ≤ l.self.held.spare;
  adds : HoldsLeft l.ops l.op-iterator l.initial.self l.self;
}
