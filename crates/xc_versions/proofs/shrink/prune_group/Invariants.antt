use Rattle.std.proofs.Common.{◌≡◌, ℕ, ◌+◌, ◌*◌, ◌<◌, ◌≤◌, List, [], length, get_or, min}
use Rattle.xc_versions.specs.Stored.{kept}
use Rattle.xc_versions.specs.Pages.{spare_of, IsPaged}
use Rattle.xc_versions.specs.Dues.{dues_of, Covers}
use Rattle.xc_versions.specs.Pool.{IsStore, Walked}
use Rattle.xc_versions.specs.declared.page.Page.{Page}
use Rattle.xc_versions.proofs.shrink.prune_group.Given as goal

abbrev pub invariant-loop-i : goal.invariant-loop-i
invariant-loop-i l = record {
  from : l.group * 64 ≤ l.i;
  within : l.i ≤ length l.pages.items;
  store : IsStore l.bytes l.pages l.pool;
  least : Covers (dues_of l.pages.items) l.least.items;
  walked : (all : List Page) → IsPaged l.bytes all [] → Walked l.bytes (kept l.cutoff) all l.initial.pages.items
      (min (length l.initial.pages.items) (l.group * 64 + 64))
      → Walked l.bytes (kept l.cutoff) all l.pages.items l.i;
  spare : spare_of l.initial.pages.items (length l.initial.pool.items) ≤ spare_of l.pages.items (length l.pool.items);
  fewer : length l.pages.items ≤ length l.initial.pages.items;
  due : length l.pages.items ≡ length l.initial.pages.items → (k : ℕ) → l.i ≤ k
      → k < min (length l.initial.pages.items) (l.group * 64 + 64) → l.due ≤ get_or (dues_of l.pages.items) k 0;
}

abbrev pub decreases-loop-i : goal.decreases-loop-i
decreases-loop-i l = l.i
