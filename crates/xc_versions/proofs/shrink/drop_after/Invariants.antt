use Rattle.std.proofs.Common.{◌≤◌, length}
use Rattle.xc_versions.specs.Stored.{up_to}
use Rattle.xc_versions.specs.Pages.{spare_of}
use Rattle.xc_versions.specs.Dues.{dues_of, Covers}
use Rattle.xc_versions.specs.Pool.{IsStore, Walked}
use Rattle.xc_versions.proofs.shrink.drop_after.Given as goal

abbrev pub invariant-loop-i : goal.invariant-loop-i
invariant-loop-i l = record {
  store : IsStore l.bytes l.pages l.pool;
  least : Covers (dues_of l.pages.items) l.least.items;
  walked : Walked l.bytes (up_to l.t) l.initial.pages.items l.pages.items l.i;
  spare : spare_of l.initial.pages.items (length l.initial.pool.items) ≤ spare_of l.pages.items (length l.pool.items);
}

abbrev pub decreases-loop-i : goal.decreases-loop-i
decreases-loop-i l = l.i
