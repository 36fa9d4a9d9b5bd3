use Rattle.xc_board.proofs.RuleLaws.{words_are_states}
use Rattle.xc_board.proofs.laws.words_stand_for_states.Goals as goal

pub returns : goal.returns
returns c = words_are_states
