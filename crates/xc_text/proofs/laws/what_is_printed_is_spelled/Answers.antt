use Rattle.xc_text.proofs.PrintedSpelled.{printed_is_spelled}
use Rattle.xc_text.proofs.laws.what_is_printed_is_spelled.Goals as goal

pub returns : goal.returns
returns c = printed_is_spelled
