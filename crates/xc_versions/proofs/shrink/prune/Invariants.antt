use Rattle.std.proofs.Common.{◌≤◌, ◌+◌, ◌*◌, length, min}
use Rattle.xc_versions.specs.Stored.{kept}
use Rattle.xc_versions.specs.Pages.{spare_of}
use Rattle.xc_versions.specs.Dues.{dues_of, Covers}
use Rattle.xc_versions.specs.Pool.{IsStore, Walked}
use Rattle.xc_versions.proofs.shrink.prune.Given as goal

abbrev pub invariant-loop-left : goal.invariant-loop-left
invariant-loop-left l = record {
  store : IsStore l.bytes l.pages l.pool;
  least : Covers (dues_of l.pages.items) l.least.items;
  walked : Walked l.bytes (kept l.cutoff) l.initial.pages.items l.pages.items
      (min (length l.pages.items) (l.left * 64));
  within : l.left * 64 ≤ length l.pages.items + 64;
  spare : spare_of l.initial.pages.items (length l.initial.pool.items) ≤ spare_of l.pages.items (length l.pool.items);
}

abbrev pub decreases-loop-left : goal.decreases-loop-left
decreases-loop-left l = l.left
