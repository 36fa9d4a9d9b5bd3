use Rattle.std.proofs.Common.{rules, ◌≡◌, subst}
use Rattle.xc_arena.specs.Arena.{op_at, Lies}
use Rattle.xc_arena.proofs.ArenaLaws.{put-lies, put-op, lies-well}
use Rattle.xc_arena.proofs.arena.move_op.Goals as goal

pub returns-clause-lies : goal.returns-clause-lies
returns-clause-lies c =
    let op = op_at c.args.bytes.now c.args.at in
    subst (λ n. Lies c.extend_from_slice.new.self.items n) (search rules)
    (put-lies c.args.to.now.items _ op (lies-well c.args.bytes.now c.args.at c.requires.lies) (search rules))

pub returns-clause-op : goal.returns-clause-op
returns-clause-op c =
    let op = op_at c.args.bytes.now c.args.at in
    subst (λ n. op_at c.extend_from_slice.new.self.items n ≡ op) (search rules)
    (put-op c.args.to.now.items _ op (lies-well c.args.bytes.now c.args.at c.requires.lies) (search rules))
