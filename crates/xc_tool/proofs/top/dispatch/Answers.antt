use Rattle.std.proofs.Common.{refl, inl, inr}
use Rattle.xc_run.proofs.Runs.{ran_alone}
use Rattle.xc_tool.specs.Outcome.{usage_output}
use Rattle.xc_tool.proofs.Statuses.{written_in_order}
use Rattle.xc_tool.proofs.top.dispatch.Goals as goal

pub returns-in-None-clause-ran : goal.returns-in-None-clause-ran
returns-in-None-clause-ran g c =
    rw c.in-None.is
    (ran_alone usage_output _ _ _ _ (record { same = refl; faults = refl }) (record { same = refl; faults = refl }) c.usage.ensures)

pub returns-in-None-clause-order : goal.returns-in-None-clause-order
returns-in-None-clause-order g c =
    written_in_order usage_output _ _ _ _ _ (λ e. elim e [ inl h ↦ cc | inr h ↦ cc ]) (λ e. cc) c.usage.ensures
