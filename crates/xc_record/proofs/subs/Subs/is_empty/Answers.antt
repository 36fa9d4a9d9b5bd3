use Rattle.xc_record.proofs.SubsLaws.{none_if}
use Rattle.xc_record.proofs.subs.Subs.is_empty.Goals as goal

pub returns : goal.returns
returns c = rw (← c.self.view_is) (none_if c.self.inside.bits c.self.invariant)
