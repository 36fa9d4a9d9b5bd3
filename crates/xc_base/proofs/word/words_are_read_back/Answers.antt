use Rattle.xc_base.proofs.EscapeLaws.{escaped_is_read}
use Rattle.xc_base.proofs.word.words_are_read_back.Goals as goal

pub returns : goal.returns
returns c = escaped_is_read
