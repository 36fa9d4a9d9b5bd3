use Rattle.std.proofs.Common.{◌≡◌, ◌≤◌, ◌∙◌, rules, subst}
use Rattle.std.specs.Prelude.{nat_eq}
use Rattle.xc_poller.specs.Poller.{PollerState, is_closed}
use Rattle.xc_poller.proofs.StandLaws.{closed-at}
use Rattle.xc_poller.proofs.poller.Poller.closed.Goals as goal

pub returns-then-has_split-clause-ends : goal.returns-then-has_split-clause-ends
returns-then-has_split-clause-ends c logs b st =
    let low : c.args.self.now.applied ≤ c.args.self.now.reader.checked =
    subst (λ (p : PollerState). p.applied ≤ p.reader.checked) c.self.view_is c.self.invariant.applied in
    let closed : nat_eq c.self.inside.applied c.checked.result ≡ is_closed c.args.self.now = search rules in
    closed ∙ closed-at logs c.args.self.now b low st

pub returns-else-has_split-clause-ends : goal.returns-else-has_split-clause-ends
returns-else-has_split-clause-ends c logs b st =
    let low : c.args.self.now.applied ≤ c.args.self.now.reader.checked =
    subst (λ (p : PollerState). p.applied ≤ p.reader.checked) c.self.view_is c.self.invariant.applied in
    let closed : c.has_split.result ≡ is_closed c.args.self.now = search rules in
    closed ∙ closed-at logs c.args.self.now b low st
