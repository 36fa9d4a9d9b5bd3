use Rattle.std.proofs.Common.{◌≡◌, ℕ, take}
use Rattle.std.specs.Prelude.{◌&&◌, ◌||◌}
use Rattle.xc_record.specs.Hash.{holds}
use Rattle.xc_agree.specs.Seen.{since_in}
use Rattle.xc_agree.specs.Held.{is_held, is_start, intends_since, InSlots}
use Rattle.xc_agree.proofs.held.hold.Given as goal

abbrev pub invariant-loop-i : goal.invariant-loop-i
invariant-loop-i l = record {
  held : InSlots l.commits l.held → (n h : ℕ) → is_held l.more.items n h
      ≡ ((is_held l.held n h && (holds l.header h && is_start (since_in l.commits l.look n))) || intends_since n h
      (since_in l.commits l.look n) (take l.i l.records));
  slots : InSlots l.commits l.held → InSlots l.commits l.more.items;
}
