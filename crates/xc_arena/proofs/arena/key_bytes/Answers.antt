use Rattle.xc_arena.proofs.ArenaLaws.{rest-from, key_at-none, key_at-some}
use Rattle.xc_arena.proofs.arena.key_bytes.Goals as goal

pub returns-then-is_empty : goal.returns-then-is_empty
returns-then-is_empty c =
    key_at-none c.args.bytes.now c.args.at _ (rest-from c.args.bytes.now c.args.at c.min-from.result c.min-from.ensures)
    c.if-is_empty.ensures

pub returns : goal.returns
returns c =
    key_at-some c.args.bytes.now c.args.at c.min-end.result _
    (rest-from c.args.bytes.now c.args.at c.min-from.result c.min-from.ensures) c.if-is_empty.ensures c.min-end.ensures
