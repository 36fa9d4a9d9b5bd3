use Rattle.std.proofs.Common.{sym, rules}
use Rattle.xc_tablet.proofs.Aparts.{count-apart}
use Rattle.xc_tablet.proofs.room.count_in.Goals as goal

pub returns-then-is_apart : goal.returns-then-is_apart
returns-then-is_apart c =
    sym (count-apart c.args.header.now c.args.lo c.args.hi c.args.ops.now (c.is_apart.ensures.apart (search rules)) c.requires)
