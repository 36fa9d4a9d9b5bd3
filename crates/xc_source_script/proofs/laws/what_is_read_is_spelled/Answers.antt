use Rattle.xc_source_script.proofs.ReadBack.{read_is_spelled}
use Rattle.xc_source_script.proofs.laws.what_is_read_is_spelled.Goals as goal

pub returns : goal.returns
returns c = read_is_spelled
