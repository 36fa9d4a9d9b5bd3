-- What is made is replayed as the source committed.
use Rattle.std.proofs.Common.{◌≡◌, ℕ, ◌+◌, ◌^◌, ◌≤◌, true, false, List, length, None, Result, Ok, Err, refl, sym, ap, subst, arith}
use Rattle.std.proofs.Common.{if◌then◌else◌}
use Rattle.std.specs.Prelude.{nat_lt}
use Rattle.std.specs.List.{AllByRecursion}
use Rattle.std.proofs.lemmas.Bool.{and_from}
use Rattle.xc_base.specs.declared.status.Status.TheVariants as status
use Rattle.xc_record.specs.Accepted.{halt}
use Rattle.xc_record.specs.Agreement.{disagreement}
use Rattle.xc_record.specs.Rows.{rows}
use Rattle.xc_record.specs.SafeTime.{safe_time}
use Rattle.xc_record.specs.Valid.{is_valid}
use Rattle.xc_run.specs.Ran.{◌>>=◌, output_of}
use Rattle.xc_source.specs.Commands.{run}
use Rattle.xc_source.specs.Machine.{Machine, logs_of as made_logs, start, are_roots}
use Rattle.xc_source.specs.declared.fail.SourceFail.{SourceFail}
use Rattle.xc_source_laws.specs.Laws.{CommandFits, ends, rows_listed}
use Rattle.xc_source_laws.proofs.ValidLogs.{logs-are-valid}
use Rattle.xc_source_laws.proofs.NoBreaks.{nothing-breaks}
use Rattle.xc_source_laws.proofs.LogsAgree.{logs-agree}
use Rattle.xc_source_laws.proofs.RowLaws.{rows-are-listed}
use Rattle.xc_source_script.specs.Allowed.{IsSourceScript}
use Rattle.xc_source_script.specs.Made.{made_of}
use Rattle.xc_source_script.specs.SourceText.{BadLine, source_of}
use Rattle.xc_source_script.specs.declared.script.SourceScript.{SourceScript}
use Rattle.xc_source_script.proofs.ReadBack.{read_is_spelled}
use Rattle.xc_text.specs.Printed.{least_version}
use Rattle.xc_text.proofs.PrintedSpelled.{printed_is_spelled, logs_least}
use Rattle.xc_text.proofs.SpelledRun.{spelled_is_read}
use Rattle.xc_time.specs.Times.{last_time}
use Rattle.xc_tool.specs.declared.refusal.Refusal.{Refusal}
use Rattle.xc_tool.specs.declared.refusal.Refusal.TheVariants.{SourceTooLong}
use Rattle.xc_tool.specs.Makes.{IsMade, MadeLogsShowCommits}
use Rattle.xc_tool.specs.Outcome.{output_for, refusal_output, source_spelled, unless_refused, make_in, make_input, make_output}
use Rattle.xc_tool.proofs.Makes.{made_runs, commands_fit}
use Rattle.xc_tool.proofs.Upgrades.{not_ok}

-- what holds after every list of commands holds of what a script made
made_is : (script : SourceScript) (m : Machine) → IsSourceScript script → made_of script ≡ Ok m → (P : Machine → Type 0)
    → (are_roots script.roots ≡ true → script.start ≤ last_time → AllByRecursion CommandFits script.commands
    → P (run script.commands (start script.roots script.start)))
    → P m
made_is script m is made P law =
    let small = is.start in
    subst P (made_runs (length script.roots + 3) script.commands (start script.roots script.start) m made)
    (law (and_from _ _ is.roots is.headers) (omega (arith, small)) (commands_fit script.commands is.commands))

made_shows : (text : List ℕ) (script : SourceScript) (m : Machine) → source_of text ≡ Ok script → made_of script ≡ Ok m
    → IsMade text (make_output m)
made_shows text script m read made =
    let is = (read_is_spelled text script read).allowed in
    let valid = made_is script m is made (λ m. is_valid (made_logs m) ≡ true) (logs-are-valid script.roots script.start script.commands) in
    record {
      script = script;
      script_is = read;
      source = m;
      source_is = made;
      logs_are = spelled_is_read _ (made_logs m)
          (printed_is_spelled (least_version (made_logs m)) (made_logs m) valid (logs_least (made_logs m)));
      agree = made_is script m is made (λ m. disagreement (made_logs m) ≡ None) (logs-agree script.roots script.start script.commands);
      unbroken = λ s. made_is script m is made (λ m. halt (made_logs m) s ≡ None)
          (λ roots time fit. (nothing-breaks script.roots script.start script.commands roots time fit s).0);
      rows_are = made_is script m is made
          (λ m. (t : ℕ) → t ≤ safe_time (made_logs m) (ends (made_logs m)) → rows (made_logs m) t ≡ rows_listed m.commits t)
          (rows-are-listed script.roots script.start script.commands);
    }

refused_not : (d : Result Machine (ℕ × SourceFail)) (m : Machine) → unless_refused d ≡ Ok m → d ≡ Ok m
refused_not (Ok x) m e = let same : x ≡ m = cc in ap (λ m. Ok m) same
refused_not (Err refused) m e = cc

made_in : (text : List ℕ) (m : Machine) → make_input text ≡ Ok m
    → (script : SourceScript) × ((source_of text ≡ Ok script) × (made_of script ≡ Ok m))
made_in text m e =
    elim (nat_lt (2 ^ 20) (length text)) as
    (λ b. (if b then Err SourceTooLong else make_in text) ≡ Ok m
    → (script : SourceScript) × ((source_of text ≡ Ok script) × (made_of script ≡ Ok m))) [
      | true ↦ λ k. cc
      | false ↦ λ k. second (source_of text) refl k
    ] e
  where
    second : (d : Result SourceScript BadLine) → source_of text ≡ d → (source_spelled d >>= (λ s. unless_refused (made_of s))) ≡ Ok m
        → (script : SourceScript) × ((source_of text ≡ Ok script) × (made_of script ≡ Ok m))
    second (Ok s) is k = (s, (is, refused_not (made_of s) m k))
    second (Err bad) is k = cc

pub made_show : MadeLogsShowCommits
made_show words a b form ok =
    subst (λ f. IsMade b (output_for f a b)) (sym form) (by (make_input b) refl
    (subst (λ f. (output_for f a b).status ≡ status.Ok) form ok))
  where
    by : (d : Result Machine Refusal) → make_input b ≡ d
        → (output_of refusal_output (d >>= (λ m. Ok (make_output m)))).status ≡ status.Ok
        → IsMade b (output_of refusal_output (d >>= (λ m. Ok (make_output m))))
    by (Ok m) is k = let made = made_in b m is in made_shows b made.0 m made.1.0 made.1.1
    by (Err r) is k = absurd (not_ok r k)
