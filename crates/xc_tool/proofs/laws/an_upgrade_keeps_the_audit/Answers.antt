use Rattle.xc_tool.proofs.Upgrades.{keeps_logs, keeps_audit}
use Rattle.xc_tool.proofs.laws.an_upgrade_keeps_the_audit.Goals as goal

pub returns-clause-logs : goal.returns-clause-logs
returns-clause-logs c = keeps_logs

pub returns-clause-audit : goal.returns-clause-audit
returns-clause-audit c = keeps_audit
