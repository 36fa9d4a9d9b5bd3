use Rattle.xc_tool.proofs.Made.{made_show}
use Rattle.xc_tool.proofs.laws.made_logs_show_commits.Goals as goal

pub returns : goal.returns
returns c = made_show
