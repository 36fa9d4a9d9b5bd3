use Rattle.std.proofs.Common.{rules}
use Rattle.xc_arena.proofs.ArenaLaws.{put-lies, put-op}
use Rattle.xc_arena.proofs.arena.copy_op.Goals as goal

pub returns-clause-lies : goal.returns-clause-lies
returns-clause-lies c = put-lies c.args.bytes.now.items _ c.args.op.now c.bytes.ensures.well (search rules)

pub returns-clause-op : goal.returns-clause-op
returns-clause-op c = put-op c.args.bytes.now.items _ c.args.op.now c.bytes.ensures.well (search rules)
