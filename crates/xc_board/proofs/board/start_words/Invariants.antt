use Rattle.std.proofs.Common.{◌≡◌, take}
use Rattle.xc_board.specs.Tree.{unbounded}
use Rattle.xc_board.specs.Words.{words_of, least}
use Rattle.xc_board.proofs.board.start_words.Given as goal

abbrev pub invariant-loop-tablet : goal.invariant-loop-tablet
invariant-loop-tablet l = (l.words.items ≡ words_of (take l.tablet-index l.tablets)) × (l.mark ≡ least unbounded l.words.items)
