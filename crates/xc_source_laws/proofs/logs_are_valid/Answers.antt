use Rattle.xc_source_laws.proofs.ValidLogs.{logs-are-valid}
use Rattle.xc_source_laws.proofs.logs_are_valid.Goals as goal

pub returns : goal.returns
returns c = logs-are-valid
