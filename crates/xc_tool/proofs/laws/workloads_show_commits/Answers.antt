use Rattle.xc_tool.proofs.Workloads.{workloads-show}
use Rattle.xc_tool.proofs.laws.workloads_show_commits.Goals as goal

pub returns : goal.returns
returns c = workloads-show
