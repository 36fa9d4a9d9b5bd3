use Rattle.std.proofs.Common.{◌≡◌, length, is_some}
use Rattle.std.specs.List.{list_all}
use Rattle.xc_text.specs.Lines.{op_written}
use Rattle.xc_text.proofs.operations.all_have_form.Given as goal

abbrev pub invariant-words : goal.invariant-words
invariant-words l = list_all (λ word. is_some (op_written word)) l.words ≡ list_all (λ word. is_some (op_written word)) l.fn.words

abbrev pub decreases-words : goal.decreases-words
decreases-words l = length l.words
