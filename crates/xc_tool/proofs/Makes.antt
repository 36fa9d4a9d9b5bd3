-- What a source script makes are valid logs.
use Rattle.std.proofs.Common.{◌≡◌, ℕ, ◌+◌, ◌≤◌, true, List, [], ◌∷◌, length, Option, Some, None, Result, Ok}
use Rattle.std.proofs.Common.{sym, ap, ◌∙◌, arith}
use Rattle.std.specs.List.{AllByRecursion, list_all}
use Rattle.std.proofs.lemmas.Bool.{and_parts, and_from}
use Rattle.std.proofs.lemmas.Bool.Decides.{nat_tests}
use Rattle.xc_record.specs.Valid.{is_txn, is_valid}
use Rattle.xc_source.specs.Commands.{made_after, made_from, run, step}
use Rattle.xc_source.specs.Machine.{Machine, logs_of, start}
use Rattle.xc_source.specs.declared.command.SourceCommand.{SourceCommand}
use Rattle.xc_source.specs.declared.command.SourceCommand.TheVariants as command
use Rattle.xc_source.specs.declared.fail.SourceFail.{SourceFail}
use Rattle.xc_source_laws.specs.Laws.{CommandFits, LogsAreValid}
use Rattle.xc_source_script.specs.Allowed.{is_allowed, IsSourceScript}
use Rattle.xc_source_script.specs.Made.{made_of}
use Rattle.xc_script.specs.Words.{is_moment}
use Rattle.xc_source_script.specs.declared.script.SourceScript.{SourceScript}
use Rattle.xc_text.specs.Lines.{op_is_named}
use Rattle.xc_time.specs.Times.{last_time}

-- commands of which none is refused are all run
pub made_runs : (number : ℕ) (cs : List SourceCommand) (before after : Machine) → made_from number cs before ≡ Ok after
    → run cs before ≡ after
made_runs number [] before after e = cc
made_runs number (c ∷ cs) before after e =
    made_runs (number + 1) cs (step c before).1 after (by (step c before).0 (made_from (number + 1) cs (step c before).1) e)
  where
    by : (r : Option SourceFail) (made : Result Machine (ℕ × SourceFail)) → made_after number r made ≡ Ok after → made ≡ Ok after
    by None made e = e
    by (Some fail) made e = cc

moment_last : (time : ℕ) → is_moment time ≡ true → time ≤ last_time
moment_last time h = grind (arith, nat_tests)

command_fits : (c : SourceCommand) → is_allowed c ≡ true → CommandFits c
command_fits command.Begin h = tt
command_fits (command.Write txn op) h = (and_parts (is_txn txn) (op_is_named op) h).1
command_fits (command.Put op) h = h
command_fits (command.Commit txn) h = tt
command_fits (command.Abort txn) h = tt
command_fits (command.Apply txn id) h = tt
command_fits (command.Safe id) h = tt
command_fits (command.Split id place) h = tt
command_fits (command.Tick time) h = moment_last time (and_parts (is_moment time) true h).0
command_fits command.Finish h = tt
command_fits (command.Savepoint txn) h = tt
command_fits (command.Rollback txn sub) h = tt

pub commands_fit : (cs : List SourceCommand) → list_all is_allowed cs ≡ true → AllByRecursion CommandFits cs
commands_fit [] h = tt
commands_fit (c ∷ cs) h = let p = and_parts (is_allowed c) (list_all is_allowed cs) h in (command_fits c p.0, commands_fit cs p.1)

pub make_is_valid : LogsAreValid → (script : SourceScript) (m : Machine) → IsSourceScript script → made_of script ≡ Ok m
    → is_valid (logs_of m) ≡ true
make_is_valid law script m is made =
    let small = is.start in
    ap (λ m. is_valid (logs_of m)) (sym (made_runs (length script.roots + 3) script.commands (start script.roots script.start) m made))
    ∙ law script.roots script.start script.commands (and_from _ _ is.roots is.headers) (omega (arith, small))
    (commands_fit script.commands is.commands)
