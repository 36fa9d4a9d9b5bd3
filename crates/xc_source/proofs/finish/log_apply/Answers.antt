use Rattle.std.proofs.Common.{◌≤◌, ◌+◌, subst, sym}
use Rattle.xc_source.specs.Machine.{records_in}
use Rattle.xc_source.specs.Universe.{Logged}
use Rattle.xc_source.proofs.TabletLaws.{records_in-grown}
use Rattle.xc_source.proofs.finish.log_apply.Goals as goal

pub returns-clause-count : goal.returns-clause-count
returns-clause-count c =
    subst (λ (j : Logged). records_in j.tablets ≤ records_in c.args.journal.now.tablets + 1) (sym c.in_ok-time.ensures.ok.1)
    (records_in-grown c.args.id _ c.args.journal.now.tablets)
