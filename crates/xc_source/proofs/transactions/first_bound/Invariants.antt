use Rattle.std.proofs.Common.{◌≡◌}
use Rattle.std.specs.BTreeMap.Range.{entries_between}
use Rattle.std.specs.declared.ops.Bound.TheVariants.{Included, Unbounded}
use Rattle.std.specs.Ordering.{nat_cmp}
use Rattle.xc_record.specs.Lists.{first_some}
use Rattle.xc_source.specs.Holders.{numbered, bound_at}
use Rattle.xc_source.proofs.transactions.first_bound.Given as goal

abbrev pub invariant-loop-txn : goal.invariant-loop-txn
invariant-loop-txn l =
    first_some (λ p. bound_at l.header (numbered l.items p.1)) l.txn-iterator
    ≡ first_some (λ p. bound_at l.header (numbered l.items p.1)) (entries_between nat_cmp (Included l.earliest) Unbounded l.waiting.entries)
