-- What is made is replayed as the source committed.
--     IsMade text output      the output is a text of logs that agree, of which no record breaks an order rule, and which show what the
--         source of the script committed
--     MadeLogsShowCommits      each output of a make does that isn't a refusal
use Rattle.std.specs.Prelude.{◌≡◌, ℕ, ◌≤◌, List, Some, None, Ok}
use Rattle.xc_base.specs.declared.status.Status.TheVariants as status
use Rattle.xc_record.specs.Accepted.{halt}
use Rattle.xc_record.specs.Agreement.{disagreement}
use Rattle.xc_record.specs.Rows.{rows}
use Rattle.xc_record.specs.SafeTime.{safe_time}
use Rattle.xc_run.specs.Ran.{Output}
use Rattle.xc_source.specs.Machine.{Machine, logs_of as made_logs}
use Rattle.xc_source_laws.specs.Laws.{ends, rows_listed}
use Rattle.xc_source_script.specs.Made.{made_of}
use Rattle.xc_source_script.specs.SourceText.{source_of}
use Rattle.xc_source_script.specs.declared.script.SourceScript.{SourceScript}
use Rattle.xc_text.specs.LogText.{logs_of}
use Rattle.xc_tool.specs.declared.words.Form.TheVariants.{Make}
use Rattle.xc_tool.specs.Outcome.{outcome}
use Rattle.xc_tool.specs.Words.{form_of}

pub record IsMade (text : List ℕ) (output : Output) : Type 0 where
  pub script : SourceScript
  pub script_is : source_of text ≡ Ok script
  -- the source after all commands, of which none was refused
  pub source : Machine
  pub source_is : made_of script ≡ Ok source
  -- the output is read as its logs
  pub logs_are : logs_of output.text ≡ Ok (made_logs source)
  pub agree : disagreement (made_logs source) ≡ None
  pub unbroken : (s : ℕ) → halt (made_logs source) s ≡ None
  -- up to the safe time at the ends of the logs, the rows that a replay shows are those of the commits that the source accepted
  pub rows_are : (t : ℕ) → t ≤ safe_time (made_logs source) (ends (made_logs source))
      → rows (made_logs source) t ≡ rows_listed source.commits t

-- whatever source script there is
abbrev pub MadeLogsShowCommits : Type 0
MadeLogsShowCommits = (words : List (List ℕ)) (logs_text text : List ℕ) → form_of words ≡ Some Make
    → (outcome words logs_text text).status ≡ status.Ok → IsMade text (outcome words logs_text text)
