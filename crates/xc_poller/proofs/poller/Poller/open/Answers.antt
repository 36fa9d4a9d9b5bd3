use Rattle.std.proofs.Common.{◌≡◌, sym, subst, true, Some}
use Rattle.xc_record.specs.Accepted.{accepted_tablet}
use Rattle.xc_poller.specs.Poller.{PollerState, StandsFor, is_closed}
use Rattle.xc_poller.proofs.StandLaws.{seen, opened-stands}
use Rattle.xc_poller.proofs.poller.Poller.open.Goals as goal

pub returns-clause-stands : goal.returns-clause-stands
returns-clause-stands c logs above b unopened valid st there same =
    let p = seen c.self.inside in
    let parent = seen c.parent.inside in
    let child : p.header.parent ≡ Some parent.header.id =
    subst (λ (q : PollerState). q.header.parent ≡ Some parent.header.id) (sym c.self.view_is)
    (subst (λ (q : PollerState). c.args.self.now.header.parent ≡ Some q.header.id) (sym c.parent.view_is) c.requires.parent) in
    let closed : is_closed parent ≡ true = subst (λ (q : PollerState). is_closed q ≡ true) (sym c.parent.view_is) c.requires.closed in
    let stood : StandsFor logs parent above = subst (λ (q : PollerState). StandsFor logs q above) (sym c.parent.view_is) st in
    let found : accepted_tablet logs p.header.id ≡ Some b =
    subst (λ (q : PollerState). accepted_tablet logs q.header.id ≡ Some b) (sym c.self.view_is) there in
    let header_is : b.header ≡ p.header = subst (λ (q : PollerState). b.header ≡ q.header) (sym c.self.view_is) same in
    rw (c.new.ensures, c.child.ensures, c.order.ensures)
    (opened-stands logs parent p above b valid child c.parent.invariant.id c.parent.invariant.applied closed stood found header_is)
