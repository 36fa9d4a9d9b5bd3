use Rattle.std.proofs.Common.{◌∙◌, ap, sym, rules}
use Rattle.xc_intents.specs.HeldOps.{HeldOps, is_part}
use Rattle.xc_intents.proofs.IntentLaws.{without_first-none}
use Rattle.xc_intents.proofs.intents.Intents.take_first.Goals as goal

pub returns-else-begin-clause-left : goal.returns-else-begin-clause-left
returns-else-begin-clause-left c =
    ap (λ (h : HeldOps). h.held) c.self.view_is ∙ c.begin.ensures.same
    ∙ sym (without_first-none (is_part c.args.txn c.args.lo c.args.hi) c.args.self.now.held (c.begin.ensures.none (search rules)))
