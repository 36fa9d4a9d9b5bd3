use Rattle.std.proofs.Common.{◌≡◌, ◌+◌, ◌++◌, take}
use Rattle.xc_agree.specs.Tally.{applies_in, writes}
use Rattle.xc_agree.proofs.tally.Applies.add_all.Given as goal

abbrev pub invariant-loop-r : goal.invariant-loop-r
invariant-loop-r l =
    (l.self.items.items ≡ l.initial.self.items.items ++ applies_in (take l.r-index l.records))
    × (l.self.writes ≡ l.initial.self.writes + writes (take l.r-index l.records))
