use Rattle.std.proofs.Common.{drop}
use Rattle.xc_script.proofs.WordLists.{Named, texts}
use Rattle.xc_script.proofs.words.read_keys.Given as goal

abbrev pub invariant-loop-word : goal.invariant-loop-word
invariant-loop-word l = Named l.fn.version (texts l.words) (texts (drop l.word-index l.words)) l.keys
