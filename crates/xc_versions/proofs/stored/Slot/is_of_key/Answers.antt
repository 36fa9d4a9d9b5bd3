use Rattle.std.proofs.Common.{ap, ◌∙◌}
use Rattle.std.proofs.lemmas.Map.Text.{is_eq-slice_cmp}
use Rattle.std.specs.Ordering.{is_eq}
use Rattle.xc_arena.specs.Arena.{key_at}
use Rattle.xc_versions.proofs.stored.Slot.is_of_key.Goals as goal

pub returns : goal.returns
returns c =
    let b = c.args.bytes.now in
    c.is_eq.ensures ∙ ap is_eq c.key_order.ensures ∙ is_eq-slice_cmp (key_at b c.args.self.now.at) (key_at b c.args.other.now.at)
