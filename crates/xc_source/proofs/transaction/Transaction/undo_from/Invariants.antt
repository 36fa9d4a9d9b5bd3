use Rattle.std.proofs.Common.{◌≡◌, ◌-◌, fold}
use Rattle.std.specs.List.{range_with_len}
use Rattle.xc_record.specs.Lists.{insert_number}
use Rattle.xc_source.proofs.transaction.Transaction.undo_from.Given as goal

abbrev pub invariant-loop-n : goal.invariant-loop-n
invariant-loop-n l =
    (l.self-inside.undone ≡ fold (λ undone n. insert_number n undone) l.fn.self.undone (range_with_len l.sub (l.n - l.sub)))
    × (l.self-inside.writes.items ≡ l.fn.self.writes) × (l.self-inside.current ≡ l.fn.self.current)
    × (l.self-inside.stage ≡ l.fn.self.stage)
