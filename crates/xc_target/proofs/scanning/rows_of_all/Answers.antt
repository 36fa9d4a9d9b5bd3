use Rattle.std.proofs.Common.{List, ℕ, subst, sym, rules}
use Rattle.std.specs.List.Sorted.{IsSortedByKey}
use Rattle.std.specs.Ordering.{nat_cmp, is_lt}
use Rattle.std.specs.Cmp.Lexicographic.{slice_cmp}
use Rattle.std.proofs.lemmas.Cmp.{nat_list_cmp_total}
use Rattle.std.proofs.lemmas.List.MinMax.{ranks_by}
use Rattle.std.proofs.lemmas.List.Sorted.{answers_always}
use Rattle.xc_target.proofs.scanning.rows_of_all.Goals as goal

abbrev Row : Type 0
Row = List ℕ × List ℕ

pub returns-clause-order : goal.returns-clause-order
returns-clause-order c =
    subst (IsSortedByKey (λ (r : Row). r.0) (slice_cmp nat_cmp)) (sym c.from_vec.ensures)
    (c.in_ok-sort_by.ensures.sorted (λ (r s : Row). is_lt (slice_cmp nat_cmp r.0 s.0))
    (ranks_by nat_list_cmp_total (λ (r : Row). r.0)) (answers_always _ _ _ (λ f b r g h. search rules)))
