use Rattle.xc_base.proofs.EscapeLaws.{read_is_escaped}
use Rattle.xc_base.proofs.word.what_is_read_is_the_word.Goals as goal

pub returns : goal.returns
returns c = read_is_escaped
