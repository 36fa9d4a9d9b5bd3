use Rattle.std.proofs.Common.{◌%◌, ◌*◌, ◌^◌, ◌-◌}
use Rattle.std.proofs.lemmas.Nat.{or_lt}
use Rattle.xc_record.proofs.SubsLaws.{insert-is, shifted-lt}
use Rattle.xc_record.proofs.subs.Subs.insert.Goals as goal

pub invariant_of-self : goal.invariant_of-self
invariant_of-self c =
    or_lt 64 c.self.inside.bits (1 * 2 ^ (c.args.sub - 1) % 2 ^ 64) c.self.invariant (shifted-lt (1 * 2 ^ (c.args.sub - 1)))

pub returns : goal.returns
returns c = rw (← c.self.view_is) (insert-is c.self.inside.bits c.args.sub c.requires.low c.requires.high)
