use Rattle.xc_source_laws.proofs.GeneratedWhole.{generated-logs-are-whole}
use Rattle.xc_source_laws.proofs.workloads.generated_logs_are_whole.Goals as goal

pub returns : goal.returns
returns c = generated-logs-are-whole
