use Rattle.std.proofs.Common.{List, take}
use Rattle.xc_agree.specs.declared.commits.Commit.{Commit}
use Rattle.xc_agree.specs.Held.{InSlots, StaysHeld}
use Rattle.xc_agree.proofs.held.hold_still.Given as goal

abbrev pub invariant-loop-x : goal.invariant-loop-x
invariant-loop-x l = (commits : List Commit) → InSlots commits l.held
    → StaysHeld l.still.items commits l.look l.header (take l.x-index l.held)
