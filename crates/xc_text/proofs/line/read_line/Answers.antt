use Rattle.std.proofs.Common.{sym, ap, subst, ◌∙◌}
use Rattle.xc_text.specs.Kinds.{Answers}
use Rattle.xc_text.specs.Lines.{first_number}
use Rattle.xc_text.proofs.LineLaws.{number_line}
use Rattle.xc_text.proofs.line.read_line.Goals as goal

pub returns-in-Some-clause-line : goal.returns-in-Some-clause-line
returns-in-Some-clause-line c =
    subst (λ r. Answers (λ line. line) c.read_entry.result r) (sym (number_line c.args.version _ _ _
    (ap first_number (sym c.of-words.ensures) ∙ c.in-Some.ensures)))
    c.read_entry.ensures.line
