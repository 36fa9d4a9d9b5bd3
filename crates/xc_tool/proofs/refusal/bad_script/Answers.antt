use Rattle.std.proofs.Common.{◌++◌, ◌∙◌, ap, codes, decimal}
use Rattle.xc_tool.proofs.Statuses.{bad-line}
use Rattle.xc_tool.proofs.refusal.bad_script.Goals as goal

pub returns : goal.returns
returns c =
    bad-line (codes "bad script ") (decimal c.args.line) c.name-name.result.now _ c.in_ok-text.ensures.ok
    ∙ ap (λ k. codes "bad script " ++ decimal c.args.line ++ codes " " ++ k ++ codes "\n") c.name-name.ensures
