use Rattle.std.proofs.Common.{length}
use Rattle.xc_text.proofs.SubsRead.{Risen}
use Rattle.xc_text.proofs.without.read_subs.Given as goal

abbrev pub invariant-words : goal.invariant-words
invariant-words l = Risen l.subs l.last l.words l.fn.words

abbrev pub decreases-words : goal.decreases-words
decreases-words l = length l.words
