use Rattle.std.proofs.Common.{map}
use Rattle.xc_versions.specs.Slots.{seen}
use Rattle.xc_versions.proofs.RowsSeenLaws.{Seen}
use Rattle.xc_versions.proofs.rows.put_versions.Given as goal

abbrev pub invariant-loop-i : goal.invariant-loop-i
invariant-loop-i l = Seen l.t l.initial.rows.items l.rows.items (map (seen l.bytes) l.slots.items) l.i
