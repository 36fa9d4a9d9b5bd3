use Rattle.std.proofs.Common.{refl}
use Rattle.xc_run.proofs.Runs.{ran_alone}
use Rattle.xc_tool.specs.Outcome.{gen_output}
use Rattle.xc_tool.proofs.Statuses.{gen_in_order}
use Rattle.xc_tool.proofs.top.command.Goals as goal

pub returns-in-Audit-clause-ran : goal.returns-in-Audit-clause-ran
returns-in-Audit-clause-ran g c = rw c.in-Audit.is (c.audit.ensures.ran _ (record { same = refl; faults = refl }))

pub returns-in-Audit-clause-order : goal.returns-in-Audit-clause-order
returns-in-Audit-clause-order g c = rw c.in-Audit.is (c.audit.ensures.order _ (record { same = refl; faults = refl }))

pub returns-in-Upgrade-clause-ran : goal.returns-in-Upgrade-clause-ran
returns-in-Upgrade-clause-ran g c = rw c.in-Upgrade.is (c.upgrade.ensures.ran _ (record { same = refl; faults = refl }))

pub returns-in-Upgrade-clause-order : goal.returns-in-Upgrade-clause-order
returns-in-Upgrade-clause-order g c = rw c.in-Upgrade.is (c.upgrade.ensures.order _ (record { same = refl; faults = refl }))

pub returns-in-Make-clause-ran : goal.returns-in-Make-clause-ran
returns-in-Make-clause-ran g c = rw c.in-Make.is (c.make.ensures.ran _ (record { same = refl; faults = refl }))

pub returns-in-Make-clause-order : goal.returns-in-Make-clause-order
returns-in-Make-clause-order g c = rw c.in-Make.is (c.make.ensures.order _ (record { same = refl; faults = refl }))

pub returns-in-Gen-clause-ran : goal.returns-in-Gen-clause-ran
returns-in-Gen-clause-ran g c =
    rw c.in-Gen.is
    (ran_alone (gen_output c.in-Gen.number c.in-Gen.size) _ _ _ _ (record { same = refl; faults = refl })
    (record { same = refl; faults = refl }) c.generate.ensures)

pub returns-in-Gen-clause-order : goal.returns-in-Gen-clause-order
returns-in-Gen-clause-order g c = gen_in_order c.in-Gen.number c.in-Gen.size _ _ _ _ _ c.generate.ensures
