use Rattle.xc_source_laws.proofs.CommitLaws.{commits-are-listed}
use Rattle.xc_source_laws.proofs.commits_are_listed.Goals as goal

pub returns : goal.returns
returns c = commits-are-listed
