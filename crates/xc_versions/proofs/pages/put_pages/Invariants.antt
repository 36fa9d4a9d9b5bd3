use Rattle.std.proofs.Common.{drop}
use Rattle.xc_versions.specs.Pages.{items_of}
use Rattle.xc_versions.proofs.RowsSeenLaws.{Left}
use Rattle.xc_versions.proofs.pages.put_pages.Given as goal

abbrev pub invariant-loop-i : goal.invariant-loop-i
invariant-loop-i l = Left l.t l.initial.rows.items l.rows.items (items_of l.bytes l.pages.items) (items_of l.bytes (drop l.i l.pages.items))
