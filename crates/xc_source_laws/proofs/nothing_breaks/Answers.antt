use Rattle.xc_source_laws.proofs.NoBreaks.{nothing-breaks}
use Rattle.xc_source_laws.proofs.nothing_breaks.Goals as goal

pub returns : goal.returns
returns c = nothing-breaks
