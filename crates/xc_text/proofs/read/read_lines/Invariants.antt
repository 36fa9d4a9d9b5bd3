-- What is left of the text gives what the whole gives.
use Rattle.std.proofs.Common.{◌≡◌, ◌+◌, ◌≤◌, length}
use Rattle.xc_base.specs.Words.{split_on}
use Rattle.xc_text.specs.LogText.{lines_from, logs_of}
use Rattle.xc_text.proofs.read.read_lines.Given as goal

abbrev pub invariant-lines : goal.invariant-lines
invariant-lines l = record {
  whole : lines_from l.reading l.number (split_on 10 l.rest) ≡ logs_of l.text;
  counted : l.number + length l.rest ≤ length l.text + 1;
}

abbrev pub decreases-lines : goal.decreases-lines
decreases-lines l = length l.rest
