use Rattle.xc_source_laws.proofs.WorkloadFits.{workload-fits}
use Rattle.xc_source_laws.proofs.workloads.workloads_fit.Goals as goal

pub returns : goal.returns
returns c = workload-fits
