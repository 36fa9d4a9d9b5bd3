use Rattle.std.proofs.Common.{◌≡◌, ℕ, ◌+◌, take}
use Rattle.std.specs.Prelude.{fold}
use Rattle.xc_agree.specs.Seen.{Seen, see, IsLook}
use Rattle.xc_agree.specs.Slots.{undone_of}
use Rattle.xc_agree.proofs.look.Look.take_all.Given as goal

abbrev pub invariant-loop-r : goal.invariant-loop-r
invariant-loop-r l =
    (l.self.place ≡ l.initial.self.place + l.r-index)
    × ((seen : ℕ → ℕ → Seen) → IsLook l.initial.self l.commits seen → IsLook l.self l.commits
    (λ n c. fold (see n c (undone_of l.commits n)) (seen n c) (take l.r-index l.records)))
