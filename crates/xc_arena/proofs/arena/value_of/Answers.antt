use Rattle.std.proofs.Common.{ap, ◌∙◌}
use Rattle.xc_record.specs.Packed.{after_text, value_of}
use Rattle.xc_arena.specs.Arena.{value_at}
use Rattle.xc_arena.proofs.arena.value_of.Goals as goal

pub returns : goal.returns
unfolding value_at
returns c =
    c.value.ensures ∙ ap value_of c.after_text.ensures ∙ ap (λ bytes. value_of (after_text bytes)) c.from.ensures.same
