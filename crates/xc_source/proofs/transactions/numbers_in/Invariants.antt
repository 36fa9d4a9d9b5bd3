use Rattle.std.proofs.Common.{◌≡◌, ◌||◌, ℕ}
use Rattle.std.specs.BTreeMap.{values, is_at}
use Rattle.std.specs.BTreeSet.{contains, IsOrdered}
use Rattle.std.specs.List.{list_any}
use Rattle.std.specs.Ordering.{nat_cmp}
use Rattle.xc_source.proofs.transactions.numbers_in.Given as goal

abbrev pub invariant-loop-txn : goal.invariant-loop-txn
invariant-loop-txn l = record {
  ordered : IsOrdered nat_cmp l.numbers;
  all : (n : ℕ) → (contains nat_cmp l.numbers n || list_any (is_at (nat_cmp n)) l.txn-iterator)
      ≡ list_any (is_at (nat_cmp n)) (values l.waiting);
}
