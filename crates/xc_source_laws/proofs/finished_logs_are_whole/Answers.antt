use Rattle.xc_source_laws.proofs.Finished.{finished-logs-are-whole}
use Rattle.xc_source_laws.proofs.finished_logs_are_whole.Goals as goal

pub returns : goal.returns
returns c = finished-logs-are-whole
