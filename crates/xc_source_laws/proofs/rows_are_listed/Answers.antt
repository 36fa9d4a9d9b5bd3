use Rattle.xc_source_laws.proofs.RowLaws.{rows-are-listed}
use Rattle.xc_source_laws.proofs.rows_are_listed.Goals as goal

pub returns : goal.returns
returns c = rows-are-listed
