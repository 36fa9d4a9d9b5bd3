use Rattle.std.proofs.Common.{◌≡◌, length, is_some}
use Rattle.xc_text.specs.Lines.{all_numbers}
use Rattle.xc_text.proofs.without.all_are_numbers.Given as goal

abbrev pub invariant-words : goal.invariant-words
invariant-words l = is_some (all_numbers l.words) ≡ is_some (all_numbers l.fn.words)

abbrev pub decreases-words : goal.decreases-words
decreases-words l = length l.words
