use Rattle.xc_target.proofs.tests.answered.Goals as goal

pub returns-else-id-sources-3 : goal.returns-else-id-sources-3
returns-else-id-sources-3 g c = c.acknowledge.ensures.keeps.fits _ _ c.requires

pub returns-else-id-sources-4 : goal.returns-else-id-sources-4
returns-else-id-sources-4 g c = c.restart.ensures.keeps.fits _ _ c.requires

pub returns-in-Prune : goal.returns-in-Prune
returns-in-Prune g c = c.prune.ensures.keeps.fits _ _ c.requires

pub returns-in-Ok : goal.returns-in-Ok
returns-in-Ok g c = c.failover.ensures.keeps.fits _ _ c.requires

pub returns-in-Err : goal.returns-in-Err
returns-in-Err g c = c.failover.ensures.keeps.fits _ _ c.requires
