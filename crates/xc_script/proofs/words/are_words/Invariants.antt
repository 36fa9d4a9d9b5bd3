use Rattle.std.proofs.Common.{◌≡◌, drop}
use Rattle.std.specs.List.{list_all}
use Rattle.xc_script.specs.Words.{is_word}
use Rattle.xc_script.proofs.WordLists.{texts}
use Rattle.xc_script.proofs.words.are_words.Given as goal

abbrev pub invariant-loop-word : goal.invariant-loop-word
invariant-loop-word l = list_all is_word (texts (drop l.word-index l.words)) ≡ list_all is_word (texts l.words)
