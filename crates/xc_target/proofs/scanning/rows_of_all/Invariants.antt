use Rattle.std.proofs.Common.{◌≡◌, take}
use Rattle.std.specs.Prelude.{flat_map}
use Rattle.xc_model.specs.Stands.{rows_shown}
use Rattle.xc_target.proofs.scanning.rows_of_all.Given as goal

abbrev pub invariant-loop-tablet : goal.invariant-loop-tablet
invariant-loop-tablet l = l.rows.items ≡ flat_map (rows_shown l.t) (take l.tablet-index l.tablets)
