-- What a source script makes of a source.
--     made_of script      the source after all commands, or the line of the first that it refuses, and why
--     Makes result made      a call answered that, or that memory ran out
--     Runs result after made      the same of the commands alone
--     Did result after stepped      a command was done so, or memory was out
use Rattle.std.specs.Prelude.{◌≡◌, ◌⊎◌, ◌+◌, ℕ, length, Option, Result, Ok, Err}
use Rattle.std.specs.Result.{result_err}
use Rattle.xc_source.specs.Machine.{Machine, start}
use Rattle.xc_source.specs.Commands.{made_from}
use Rattle.xc_source.specs.declared.fail.SourceFail.{SourceFail}
use Rattle.xc_source.specs.declared.fail.SourceFail.TheVariants.{NoMemory as NoMemoryLeft}
use Rattle.xc_source_script.specs.declared.making.MakeFail.{MakeFail}
use Rattle.xc_source_script.specs.declared.making.MakeFail.TheVariants.{Refused, NoMemory}
use Rattle.xc_source_script.specs.declared.script.SourceScript.{SourceScript}

-- the first command stands behind the first line, the start and the roots
abbrev pub made_of : SourceScript → Result Machine (ℕ × SourceFail)
made_of script = made_from (length script.roots + 3) script.commands (start script.roots script.start)

abbrev pub Makes : Result Machine MakeFail → Result Machine (ℕ × SourceFail) → Type 0
Makes (Ok machine) made = made ≡ Ok machine
Makes (Err (Refused line fail)) made = made ≡ Err (line, fail)
Makes (Err NoMemory) made = Unit {0}

-- all commands were done, or the first that is refused was met
abbrev pub Runs : Result (Unit {0}) MakeFail → Machine → Result Machine (ℕ × SourceFail) → Type 0
Runs (Ok done) after made = made ≡ Ok after
Runs (Err (Refused line fail)) after made = made ≡ Err (line, fail)
Runs (Err NoMemory) after made = Unit {0}

pub record Stepped (result : Result (Unit {0}) SourceFail) (after : Machine) (stepped : Option SourceFail × Machine) : Type 0 where
  pub refusal : result_err result ≡ stepped.0
  pub machine : after ≡ stepped.1

abbrev pub Did : Result (Unit {0}) SourceFail → Machine → Option SourceFail × Machine → Type 0
Did result after stepped = (result ≡ Err NoMemoryLeft) ⊎ Stepped result after stepped
