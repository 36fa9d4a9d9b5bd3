-- The law of a finish: the logs are whole after it, and so are those of a generated workload, whose last command is one.
--     AreWhole m      the commits of the logs are the whole list of the source, and each is within the safe time at the ends of the logs
use Rattle.std.specs.Prelude.{◌≡◌, ℕ, ◌≤◌, true, List, map, Ok}
use Rattle.std.specs.List.{AllByRecursion}
use Rattle.xc_time.specs.Times.{last_time}
use Rattle.xc_record.specs.declared.record.Header.{Header}
use Rattle.xc_record.specs.Commits.{commits}
use Rattle.xc_record.specs.SafeTime.{safe_time}
use Rattle.xc_source.specs.declared.command.SourceCommand.{SourceCommand}
use Rattle.xc_source.specs.declared.workload.TheConstants.{MOST_STEPS}
use Rattle.xc_source.specs.Machine.{Machine, start, are_roots, logs_of}
use Rattle.xc_source.specs.Calls.{finish}
use Rattle.xc_source.specs.Commands.{run}
use Rattle.xc_source.specs.Workload.{generated}
use Rattle.xc_source_laws.specs.Laws.{CommandFits, plain, ends}

-- the logs of the machine are whole
pub record AreWhole (m : Machine) : Type 0 where
  pub listed : map plain (commits (logs_of m)) ≡ m.commits
  pub safe : AllByRecursion (λ c. c.time ≤ safe_time (logs_of m) (ends (logs_of m))) m.commits

-- a finish that is answered leaves them whole, whatever commands came before it
abbrev pub FinishedLogsAreWhole : Type 0
FinishedLogsAreWhole = (roots : List Header) (time : ℕ) (cs : List SourceCommand) → are_roots roots ≡ true → time ≤ last_time
    → AllByRecursion CommandFits cs → (finish (run cs (start roots time))).0 ≡ Ok tt → AreWhole (finish (run cs (start roots time))).1

-- the finish of a workload is answered
abbrev pub GeneratedLogsAreWhole : Type 0
GeneratedLogsAreWhole = (number size : ℕ) → size ≤ MOST_STEPS → AreWhole (generated number size)
