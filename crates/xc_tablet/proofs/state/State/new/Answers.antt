use Rattle.std.proofs.Common.{◌≡◌, length, replicate, rules}
use Rattle.xc_tablet.proofs.StateLaws.{new-state}
use Rattle.xc_tablet.proofs.state.State.new.Goals as goal

pub returns-clause-is : goal.returns-clause-is
returns-clause-is c =
    let places : c.in_ok-places.places.items ≡ replicate (length c.args.headers.now) 0 = search rules in
    new-state _ c.args.headers.now c.requires c.in_ok-floor.ensures places c.new-2.ensures.is c.new-2.ensures.next c.new-2.ensures.empty.1
