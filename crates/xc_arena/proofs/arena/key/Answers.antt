use Rattle.std.proofs.Common.{ap, ◌∙◌}
use Rattle.xc_record.specs.Packed.{text_of}
use Rattle.xc_arena.specs.Arena.{key_at}
use Rattle.xc_arena.proofs.arena.key.Goals as goal

pub returns : goal.returns
unfolding key_at
returns c = c.of.ensures ∙ c.text.ensures ∙ ap text_of c.from.ensures.same
