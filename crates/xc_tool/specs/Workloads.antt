-- What is said of a generated workload is what its source committed.
--     IsWorkload m text      the text says what the source m committed, whose logs agree and have no record that breaks an order rule
--     WorkloadsShowCommits      the output of each workload does
use Rattle.std.specs.Prelude.{◌≡◌, ℕ, List, Some, None}
use Rattle.xc_base.specs.declared.status.Status.TheVariants as status
use Rattle.xc_record.specs.Accepted.{halt}
use Rattle.xc_record.specs.Agreement.{disagreement}
use Rattle.xc_source.specs.Machine.{Machine, logs_of}
use Rattle.xc_source.specs.Workload.{generated}
use Rattle.xc_source_laws.specs.Laws.{rows_listed}
use Rattle.xc_tool.specs.declared.words.Form.TheVariants.{Gen}
use Rattle.xc_tool.specs.Generated.{end_time, summary_line, summary_with}
use Rattle.xc_tool.specs.Outcome.{outcome}
use Rattle.xc_tool.specs.Words.{form_of}

pub record IsWorkload (number size : ℕ) (m : Machine) (text : List ℕ) : Type 0 where
  pub agree : disagreement (logs_of m) ≡ None
  pub unbroken : (s : ℕ) → halt (logs_of m) s ≡ None
  -- the rows are the fold of the commits up to the safe time, each in full, and of none later
  pub line : text ≡ summary_line number size (summary_with m (end_time m) (rows_listed m.commits (end_time m)))

-- whatever the number and the size
abbrev pub WorkloadsShowCommits : Type 0
WorkloadsShowCommits = (words : List (List ℕ)) (logs_text script_text : List ℕ) (number size : ℕ)
    → form_of words ≡ Some (Gen number size)
    → ((outcome words logs_text script_text).status ≡ status.Ok)
    × IsWorkload number size (generated number size) (outcome words logs_text script_text).text
