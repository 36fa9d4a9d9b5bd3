use Rattle.xc_record.proofs.SubsLaws.{count-is, well-formed}
use Rattle.xc_record.proofs.subs.Subs.len.Goals as goal

pub returns : goal.returns
returns c = rw (← c.self.view_is) (record { count = count-is c.self.inside.bits c.self.invariant; well = well-formed c.self.inside.bits })
