use Rattle.std.proofs.Common.{length}
use Rattle.xc_text.specs.Spans.{IsSpan}
use Rattle.xc_text.proofs.OpsLaws.{Seen}
use Rattle.xc_text.proofs.operations.read_ops.Given as goal

abbrev pub invariant-words : goal.invariant-words
invariant-words l = record { seen : Seen l.version l.read.ops l.words l.fn.words; span : IsSpan l.span l.read.ops }

abbrev pub decreases-words : goal.decreases-words
decreases-words l = length l.words
