-- The rows that several target tablets show.
--     range_of x      the range of a target tablet
--     all_rows t xs      the rows that the tablets show at t, merged in byte order of keys
use Rattle.std.specs.Prelude.{ℕ, List, flat_map}
use Rattle.std.specs.declared.cmp.Ordering.{Ordering}
use Rattle.std.specs.Ordering.{nat_cmp}
use Rattle.std.specs.Cmp.Lexicographic.{slice_cmp}
use Rattle.xc_record.specs.Lists.{sort_by}
use Rattle.xc_model.specs.Stands.{TargetTablet, rows_shown}

abbrev pub range_of : TargetTablet → ℕ × ℕ
range_of x = (x.lo, x.hi)

abbrev pub row_cmp : List ℕ × List ℕ → List ℕ × List ℕ → Ordering
row_cmp r s = slice_cmp nat_cmp r.0 s.0

abbrev pub all_rows : ℕ → List TargetTablet → List (List ℕ × List ℕ)
all_rows t xs = sort_by row_cmp (flat_map (rows_shown t) xs)
