use Rattle.xc_source_laws.proofs.LogsAgree.{logs-agree}
use Rattle.xc_source_laws.proofs.logs_agree.Goals as goal

pub returns : goal.returns
returns c = logs-agree
