use Rattle.xc_record.proofs.SubsLaws.{same-is}
use Rattle.xc_record.proofs.subs.Subs.is_same.Goals as goal

pub returns : goal.returns
returns c = rw (← c.self.view_is, ← c.other.view_is) (same-is c.self.inside.bits c.other.inside.bits c.self.invariant c.other.invariant)
