use Rattle.std.proofs.Common.{take}
use Rattle.xc_agree.proofs.NoteLaws.{AreNoted}
use Rattle.xc_agree.proofs.tally.note_commits.Given as goal

abbrev pub invariant-loop-i : goal.invariant-loop-i
invariant-loop-i l = AreNoted l.applies (take l.i l.tablets)
