use Rattle.std.proofs.Common.{drop}
use Rattle.xc_script.proofs.WordLists.{Seen, texts}
use Rattle.xc_script.proofs.words.read_bounds.Given as goal

abbrev pub invariant-loop-word : goal.invariant-loop-word
invariant-loop-word l = Seen (texts l.words) (texts (drop l.word-index l.words)) l.bounds l.all_fit
