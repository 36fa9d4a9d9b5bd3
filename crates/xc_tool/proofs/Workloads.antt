-- The laws of a source hold of each generated workload.
use Rattle.std.proofs.Common.{◌≡◌, ℕ, true, List, None, refl, ap, sym, subst, arith}
use Rattle.std.specs.List.{AllByRecursion}
use Rattle.xc_base.specs.declared.status.Status.TheVariants as status
use Rattle.xc_record.specs.Accepted.{halt}
use Rattle.xc_record.specs.Agreement.{disagreement}
use Rattle.xc_record.specs.Headers.{are_headers, headers_fit}
use Rattle.xc_record.specs.Rows.{rows}
use Rattle.xc_record.specs.Valid.{is_valid}
use Rattle.xc_source.specs.declared.command.SourceCommand.{SourceCommand}
use Rattle.xc_source.specs.Commands.{run}
use Rattle.xc_source.specs.Machine.{Machine, are_roots, logs_of, start}
use Rattle.xc_source.specs.Workload.{four_roots, generated, workload}
use Rattle.xc_source_laws.specs.Laws.{CommandFits, rows_listed}
use Rattle.xc_source_laws.proofs.LogsAgree.{logs-agree}
use Rattle.xc_source_laws.proofs.NoBreaks.{nothing-breaks}
use Rattle.xc_source_laws.proofs.RowLaws.{rows-are-listed}
use Rattle.xc_source_laws.proofs.ValidLogs.{logs-are-valid}
use Rattle.xc_source_laws.proofs.WorkloadFits.{workload-fits}
use Rattle.xc_run.specs.Ran.{Output}
use Rattle.xc_tool.specs.Generated.{end_time, summary_line, summary_with}
use Rattle.xc_tool.specs.Outcome.{output_for}
use Rattle.xc_tool.specs.Workloads.{IsWorkload, WorkloadsShowCommits}

roots-fit : are_roots four_roots ≡ true
unfolding are_headers headers_fit
roots-fit = refl

-- what holds after every list of commands that fit holds of a workload
generated-is : (P : Machine → Type 0)
    → ((cs : List SourceCommand) → AllByRecursion CommandFits cs → P (run cs (start four_roots 0)))
    → (number size : ℕ) → P (generated number size)
unfolding generated
generated-is P law number size = law (workload number size) (workload-fits number size)

pub generated-is-valid : (number size : ℕ) → is_valid (logs_of (generated number size)) ≡ true
generated-is-valid = generated-is (λ m. is_valid (logs_of m) ≡ true) (λ cs fit. logs-are-valid four_roots 0 cs roots-fit (omega arith) fit)

pub generated-agrees : (number size : ℕ) → disagreement (logs_of (generated number size)) ≡ None
generated-agrees = generated-is (λ m. disagreement (logs_of m) ≡ None) (λ cs fit. logs-agree four_roots 0 cs roots-fit (omega arith) fit)

generated-keeps-order : (s number size : ℕ) → halt (logs_of (generated number size)) s ≡ None
generated-keeps-order s =
    generated-is (λ m. halt (logs_of m) s ≡ None) (λ cs fit. (nothing-breaks four_roots 0 cs roots-fit (omega arith) fit s).0)

generated-is-listed : (number size : ℕ)
    → rows (logs_of (generated number size)) (end_time (generated number size))
    ≡ rows_listed (generated number size).commits (end_time (generated number size))
generated-is-listed =
    generated-is (λ m. rows (logs_of m) (end_time m) ≡ rows_listed m.commits (end_time m))
    (λ cs fit. rows-are-listed four_roots 0 cs roots-fit (omega arith) fit (end_time (run cs (start four_roots 0))) (omega arith))

pub workloads-show : WorkloadsShowCommits
workloads-show words a b number size form =
    let shown : Output → Type 0 = λ o. (o.status ≡ status.Ok) × IsWorkload number size (generated number size) o.text in
    subst (λ f. shown (output_for f a b)) (sym form) (
      refl,
      record {
        agree = generated-agrees number size;
        unbroken = λ s. generated-keeps-order s number size;
        line = ap (λ rs. summary_line number size (summary_with (generated number size) (end_time (generated number size)) rs))
            (generated-is-listed number size);
      },
    )
