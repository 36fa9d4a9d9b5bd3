use Rattle.std.proofs.Common.{codes, decimal}
use Rattle.xc_tool.proofs.Statuses.{bad-line}
use Rattle.xc_tool.proofs.refusal.bad_source.Goals as goal

pub returns : goal.returns
returns c = bad-line (codes "bad source ") (decimal c.args.line) c.args.name.now _ c.in_ok-text.ensures.ok
