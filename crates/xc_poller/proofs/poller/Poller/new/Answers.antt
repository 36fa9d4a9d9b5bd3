use Rattle.std.proofs.Common.{◌≡◌, rules}
use Rattle.std.specs.Prelude.{is_none}
use Rattle.xc_poller.proofs.StandLaws.{root-stands}
use Rattle.xc_poller.proofs.poller.Poller.new.Goals as goal

pub returns-clause-stands : goal.returns-clause-stands
returns-clause-stands c logs b root there same =
    let is : c.is_none.result ≡ is_none c.args.header.parent = search rules in
    rw (c.new.ensures, c.root.ensures, is) (root-stands logs c.args.header b root there same)
