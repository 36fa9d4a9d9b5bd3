use Rattle.std.proofs.Common.{◌∙◌, subst}
use Rattle.std.specs.BTreeMap as tree
use Rattle.std.specs.Ordering.{nat_cmp}
use Rattle.xc_source.specs.Holders.{AreWaiting}
use Rattle.xc_source.proofs.BoundLaws.{listed-any}
use Rattle.xc_source.proofs.transactions.Transactions.waiting.Goals as goal

pub returns-clause-full : goal.returns-clause-full
returns-clause-full c = λ n t e s w.
    c.in_ok-numbers.ensures.all n
    ∙ listed-any c.self.inside.waiting n c.args.self.now t
    (subst (AreWaiting (tree.get nat_cmp c.self.inside.waiting)) c.self.view_is c.self.invariant.waiting) e s w
