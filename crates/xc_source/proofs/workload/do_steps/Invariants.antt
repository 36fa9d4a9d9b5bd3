use Rattle.std.proofs.Common.{◌≡◌, ◌+◌, ◌-◌}
use Rattle.rand_core.specs.Steps.{first_words}
use Rattle.rand_xoshiro.specs.SplitMix64.{mix_u64}
use Rattle.xc_source.specs.Commands.{run}
use Rattle.xc_source.specs.Workload.{commands_from, words}
use Rattle.xc_source.proofs.workload.do_steps.Given as goal

abbrev pub invariant-loop-step : goal.invariant-loop-step
invariant-loop-step l =
    run (commands_from l.step (first_words mix_u64 (l.size + 1 - l.step) l.rng) l.u) l.u
    ≡ run (commands_from 1 (words l.number l.size) l.fn.u) l.fn.u
