use Rattle.std.proofs.Common.{◌≡◌, ◌++◌, drop, flat_map}
use Rattle.xc_text.specs.Printed.{record_text}
use Rattle.xc_text.proofs.print.push_records.Given as goal

abbrev pub invariant-loop-entry : goal.invariant-loop-entry
invariant-loop-entry l =
    l.out ++ flat_map (record_text l.version l.id) (drop l.entry-index l.records) ≡ l.fn.out ++ flat_map (record_text l.version l.id)
    l.records
