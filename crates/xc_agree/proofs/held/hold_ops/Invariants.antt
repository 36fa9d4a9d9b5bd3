use Rattle.std.proofs.Common.{◌≡◌, ℕ, List}
use Rattle.std.specs.Prelude.{◌&&◌, ◌||◌, ◌==◌, true}
use Rattle.xc_agree.specs.declared.commits.Commit.{Commit}
use Rattle.xc_agree.specs.Seen.{is_in_slot}
use Rattle.xc_agree.specs.Held.{is_held, writes_at, InSlots}
use Rattle.xc_agree.proofs.held.hold_ops.Given as goal

abbrev pub invariant-loop-op : goal.invariant-loop-op
invariant-loop-op l = record {
  held : (n h : ℕ)
      → (is_held l.held.items n h || (l.waiter.txn == n && writes_at h l.op-iterator)) ≡
      (is_held l.initial.held.items n h || (l.waiter.txn == n && writes_at h l.ops));
  slots : (commits : List Commit) → is_in_slot commits l.waiter.txn l.waiter.slot ≡ true → InSlots commits l.initial.held.items
      → InSlots commits l.held.items;
}
