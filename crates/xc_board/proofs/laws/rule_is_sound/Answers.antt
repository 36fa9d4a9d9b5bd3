use Rattle.xc_board.proofs.RuleLaws.{rule_sound}
use Rattle.xc_board.proofs.laws.rule_is_sound.Goals as goal

pub returns : goal.returns
returns c = rule_sound
