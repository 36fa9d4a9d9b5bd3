use Rattle.std.proofs.Common.{refl, sym, ap, ◌∙◌, []}
use Rattle.std.specs.Option.{option_map_or}
use Rattle.xc_base.specs.Words.{split_on}
use Rattle.xc_text.specs.Lines.{is_over}
use Rattle.xc_text.proofs.CutLaws.{not_over}
use Rattle.xc_text.proofs.cut.Words.end.Goals as goal

pub returns-in-Some : goal.returns-in-Some
returns-in-Some c = (
  refl,
  ap is_over (sym c.self.view_is ∙ ap (λ rest. option_map_or (λ b. split_on 32 b.now) rest []) c.in-Some.is)
      ∙ not_over c.in-Some.field-0.now,
)
