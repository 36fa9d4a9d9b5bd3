use Rattle.std.proofs.Common.{ap, ◌∙◌}
use Rattle.xc_record.specs.Packed.{op_of}
use Rattle.xc_arena.specs.Arena.{key_at, value_at}
use Rattle.xc_arena.proofs.arena.op.Goals as goal

pub returns : goal.returns
unfolding key_at value_at
returns c = c.of.ensures ∙ ap op_of c.from.ensures.same
