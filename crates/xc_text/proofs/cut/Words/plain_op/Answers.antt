use Rattle.std.proofs.Common.{sym, ap, ◌∙◌, []}
use Rattle.std.specs.Option.{option_map_or}
use Rattle.xc_base.specs.Words.{split_on}
use Rattle.xc_text.proofs.PlainOps.{plain_cut}
use Rattle.xc_text.proofs.cut.Words.plain_op.Goals as goal

pub returns-clause-cut : goal.returns-clause-cut
returns-clause-cut c =
    sym c.self.view_is ∙ ap (λ rest. option_map_or (λ b. split_on 32 b.now) rest []) c.in_ok-self.was
    ∙ ap (split_on 32) c.in_ok-op.ensures.cut ∙ plain_cut (λ b. b.now) _ c.in_ok-op.after c.in_ok-op.ensures.plain
