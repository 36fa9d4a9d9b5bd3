use Rattle.std.proofs.Common.{◌≡◌, List, take}
use Rattle.xc_agree.specs.declared.commits.Commit.{Commit}
use Rattle.xc_agree.specs.Seen.{IsIdle}
use Rattle.xc_agree.specs.Held.{InSlots}
use Rattle.xc_agree.proofs.BeginLaws.{Beginning}
use Rattle.xc_agree.proofs.look.Look.begin.Given as goal

abbrev pub invariant-loop-x : goal.invariant-loop-x
invariant-loop-x l = record {
  place : l.self.place ≡ 0;
  begun : (commits : List Commit) → IsIdle l.initial.self commits → InSlots commits l.held
      → Beginning l.self commits l.header (take l.x-index l.held);
}
