use Rattle.std.proofs.Common.{ap, ◌∙◌}
use Rattle.xc_record.specs.Packed.{encode_op, op_of}
use Rattle.xc_arena.specs.Arena.{key_at, value_at}
use Rattle.xc_arena.proofs.arena.op_bytes.Goals as goal

pub returns : goal.returns
unfolding key_at value_at
returns c = c.op_bytes.ensures ∙ ap (λ bytes. encode_op (op_of bytes)) c.from.ensures.same
