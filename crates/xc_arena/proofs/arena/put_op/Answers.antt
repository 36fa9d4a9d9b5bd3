use Rattle.xc_arena.proofs.ArenaLaws.{put-lies, put-op}
use Rattle.xc_arena.proofs.arena.put_op.Goals as goal

pub returns-clause-lies : goal.returns-clause-lies
returns-clause-lies c = put-lies c.args.bytes.now.items _ _ c.put_op.ensures.well c.put_op.ensures.items

pub returns-clause-op : goal.returns-clause-op
returns-clause-op c = put-op c.args.bytes.now.items _ _ c.put_op.ensures.well c.put_op.ensures.items
