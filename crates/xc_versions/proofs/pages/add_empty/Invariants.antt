use Rattle.std.proofs.Common.{◌≡◌, ◌+◌, length, vec_capacity}
use Rattle.std.specs.List.{AllByRecursion}
use Rattle.xc_versions.specs.Pages.{IsEmptyPage}
use Rattle.xc_versions.proofs.pages.add_empty.Given as goal

abbrev pub invariant-loop-page : goal.invariant-loop-page
invariant-loop-page l = record {
  empty : AllByRecursion IsEmptyPage l.pool.items;
  count : length l.pool.items ≡ length l.initial.pool.items + length l.yielded;
  capacity : vec_capacity l.pool ≡ vec_capacity l.initial.pool;
}
