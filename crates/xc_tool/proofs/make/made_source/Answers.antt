use Rattle.xc_source_laws.proofs.ValidLogs.{logs-are-valid}
use Rattle.xc_tool.proofs.Makes.{make_is_valid}
use Rattle.xc_tool.proofs.make.made_source.Goals as goal

pub returns-in-Ok-clause-valid : goal.returns-in-Ok-clause-valid
returns-in-Ok-clause-valid c = make_is_valid logs-are-valid c.args.script.now c.in-Ok.universe c.requires c.in-Ok.ensures
