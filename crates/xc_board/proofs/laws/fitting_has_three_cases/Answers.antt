use Rattle.xc_board.proofs.RuleLaws.{three_cases}
use Rattle.xc_board.proofs.laws.fitting_has_three_cases.Goals as goal

pub returns : goal.returns
returns c = three_cases
