-- The laws of the generated workload: every command of it fits, and none is refused.
use Rattle.std.specs.Prelude.{◌≡◌, ℕ, ◌≤◌, Ok}
use Rattle.std.specs.List.{AllByRecursion}
use Rattle.xc_source.specs.declared.workload.TheConstants.{MOST_STEPS}
use Rattle.xc_source.specs.Machine.{start}
use Rattle.xc_source.specs.Commands.{made_from}
use Rattle.xc_source.specs.Workload.{four_roots, workload, generated}
use Rattle.xc_source_laws.specs.Laws.{CommandFits}

-- so what holds after every list of commands holds after a workload
abbrev pub WorkloadsFit : Type 0
WorkloadsFit = (number size : ℕ) → AllByRecursion CommandFits (workload number size)

-- each command in its turn is answered, and the machine after them is the generated one
abbrev pub NoCallIsRefused : Type 0
NoCallIsRefused = (number size : ℕ) → size ≤ MOST_STEPS
    → made_from 1 (workload number size) (start four_roots 0) ≡ Ok (generated number size)
