use Rattle.xc_record.proofs.SubsLaws.{none-is}
use Rattle.xc_record.proofs.subs.Subs.new.Goals as goal

pub returns : goal.returns
returns c = none-is
