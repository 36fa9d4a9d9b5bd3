use Rattle.std.proofs.Common.{◌≡◌, ℕ, ◌<◌, List, length, drop, get_or, ap, ◌∙◌}
use Rattle.std.proofs.lemmas.List.{get_or-map}
use Rattle.xc_record.specs.declared.record.Header.{Header}
use Rattle.xc_poller.specs.Poller.{PollerState}
use Rattle.xc_tablet.proofs.Zips.{rest_here, zip_more}
use Rattle.xc_target.specs.Target.{headers_of_pollers, Opens}
use Rattle.xc_target.proofs.opening.open_children.Goals as goal

header-at : (hs : List Header) (olds news : List PollerState) (i : ℕ) (r : PollerState) (d : Header) → hs ≡ headers_of_pollers olds
    → i < length olds → drop i news ≡ drop i olds → get_or hs i d ≡ (get_or news i r).header
header-at hs olds news i r d e l rest =
    ap (λ w. get_or w i d) e ∙ get_or-map (λ (p : PollerState). p.header) olds i r d l
    ∙ ap (λ (p : PollerState). p.header) (rest_here i olds news r l rest).1

pub open_one-requires-clause-header : goal.open_one-requires-clause-header
open_one-requires-clause-header c =
    header-at c.args.headers.now c.args.pollers.now c.loop-i.pollers c.loop-i.i c.index-pollers-i.result _ c.requires.headers
    c.loop-i-test.true c.loop-i.invariant.rest

pub loop-i-preserved : goal.loop-i-preserved
loop-i-preserved c =
    let p = zip_more (Opens c.args.parent.now) c.loop-i.i c.args.pollers.now c.loop-i.pollers
    c.index-pollers-i.result c.open_one.new.poller c.loop-i-test.true c.loop-i.invariant.first c.loop-i.invariant.rest
    c.index-pollers-i.is (rw (← c.index-pollers-i.is) at c.open_one.ensures) in
    record { first = p.0; rest = p.1 }
