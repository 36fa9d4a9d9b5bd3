-- What a run is to write and which status it ends with, by its words and by the bytes of its two sources.
--     outcome words logs script      the whole output and the status
--     run_of form logs script      the same of one command, or why the input is refused, in the order of work
--     reads_of form      which sources the command reads
--     line_of refusal, refusal_status refusal      the line that a refusal writes, and its status
--     InOrder reads result logs script      a refusal came in the order of work
use Rattle.std.specs.Prelude.{◌≡◌, ◌⊎◌, ℕ, true, false, if◌then◌else◌, List, ◌++◌, length, codes, decimal, Option, Some, None, Result}
use Rattle.std.specs.Prelude.{Ok, Err}
use Rattle.std.specs.List.{list_any}
use Rattle.xc_base.specs.declared.limits.TheConstants.{LOGS_BYTES, SCRIPT_BYTES}
use Rattle.xc_base.specs.declared.status.Status.{Status}
use Rattle.xc_base.specs.declared.status.Status.TheVariants as status
use Rattle.xc_run.specs.declared.stop.Stop.{Stop}
use Rattle.xc_run.specs.declared.stop.Stop.TheVariants as stop
use Rattle.xc_run.specs.Streams.{Stream, IsUntouched, Used}
use Rattle.xc_run.specs.Ran.{Output, Reads, ◌>>=◌, output_of, within}
use Rattle.xc_agree.specs.Audit.{audit_of}
use Rattle.xc_agree.specs.declared.audit.Audit.{Audit}
use Rattle.xc_record.specs.declared.record.Logs.{Logs}
use Rattle.xc_record.specs.declared.session.Line.{Line}
use Rattle.xc_record.specs.Agreement.{Disagreement, disagreement}
use Rattle.xc_record.specs.Session.{start}
use Rattle.xc_record.specs.Step.{lines_from}
use Rattle.xc_text.specs.Kinds.{kind_name}
use Rattle.xc_text.specs.LogText.{BadLine, logs_of}
use Rattle.xc_text.specs.Printed.{least_version, text2_of, text_of}
use Rattle.xc_tool.specs.declared.refusal.Refusal.{Refusal}
use Rattle.xc_tool.specs.declared.refusal.Refusal.TheVariants.{LogsTooLong, BadLogs, Disagree, ScriptTooLong, BadScript}
use Rattle.xc_tool.specs.declared.refusal.Refusal.TheVariants.{SourceTooLong, BadSource, RefusedCommand}
use Rattle.xc_tool.specs.declared.words.Form.{Form}
use Rattle.xc_tool.specs.declared.words.Form.TheVariants.{Audit as AuditForm, Gen, Make, Replay, Upgrade}
use Rattle.xc_tool.specs.AuditLines.{agree_name, audit_text, is_halted}
use Rattle.xc_tool.specs.Generated.{summary_line, summary_of}
use Rattle.xc_script.specs.declared.script.Script.{Script}
use Rattle.xc_script.specs.Kinds.{kind_name as script_kind_name}
use Rattle.xc_script.specs.Lines.{lines_text, is_halt}
use Rattle.xc_script.specs.ScriptText.{BadLine as BadScriptLine, script_of}
use Rattle.xc_source.specs.Machine.{Machine, logs_of as made_logs}
use Rattle.xc_source.specs.Workload.{generated}
use Rattle.xc_source.specs.declared.fail.SourceFail.{SourceFail}
use Rattle.xc_source_script.specs.Kinds.{kind_name as source_kind_name}
use Rattle.xc_source_script.specs.Made.{made_of}
use Rattle.xc_source_script.specs.SourceText.{BadLine as BadSourceLine, source_of}
use Rattle.xc_source_script.specs.declared.script.SourceScript.{SourceScript}
use Rattle.xc_tool.specs.Sources.{bad_source, fail_name}
use Rattle.xc_tool.specs.Words.{form_of}

-- an output, or why the input is refused
abbrev pub Defined : Type 0
Defined = Result Output Refusal

-- ---- the inputs

abbrev pub logs_spelled : Result Logs BadLine → Result Logs Refusal
logs_spelled (Ok logs) = Ok logs
logs_spelled (Err bad) = Err (BadLogs bad.line bad.kind)

-- the logs, where their tablets agree
abbrev pub unless_contradicted : Logs → Option Disagreement → Result Logs Refusal
unless_contradicted logs None = Ok logs
unless_contradicted logs (Some d) = Err (Disagree d.txn d.tablet d.kind)

abbrev pub agreed : Logs → Result Logs Refusal
agreed logs = unless_contradicted logs (disagreement logs)

abbrev pub logs_in : List ℕ → Result Logs Refusal
logs_in text = do
  logs ← logs_spelled (logs_of text)
  agreed logs

-- the logs of a source, where their tablets agree
abbrev pub logs_input : List ℕ → Result Logs Refusal
logs_input = within LOGS_BYTES LogsTooLong logs_in

-- the audit, where the tablets agree
abbrev pub unless_disagree : Result Audit Disagreement → Result Audit Refusal
unless_disagree (Ok audit) = Ok audit
unless_disagree (Err d) = Err (Disagree d.txn d.tablet d.kind)

abbrev pub audit_in : List ℕ → Result Audit Refusal
audit_in text = do
  logs ← logs_spelled (logs_of text)
  unless_disagree (audit_of logs)

-- the audit of the logs of a source, whatever they hold, where their tablets agree
abbrev pub audit_input : List ℕ → Result Audit Refusal
audit_input = within LOGS_BYTES LogsTooLong audit_in

-- the logs of a source, whatever they hold
abbrev pub upgrade_input : List ℕ → Result Logs Refusal
upgrade_input = within LOGS_BYTES LogsTooLong (λ text. logs_spelled (logs_of text))

abbrev pub script_spelled : Result Script BadScriptLine → Result Script Refusal
script_spelled (Ok script) = Ok script
script_spelled (Err bad) = Err (BadScript bad.line bad.kind)

abbrev pub script_in : ℕ → List ℕ → Result Script Refusal
script_in sources text = script_spelled (script_of sources text)

-- the script of a source, for logs of so many tablets
abbrev pub script_input : ℕ → List ℕ → Result Script Refusal
script_input sources = within SCRIPT_BYTES ScriptTooLong (script_in sources)

abbrev pub source_spelled : Result SourceScript BadSourceLine → Result SourceScript Refusal
source_spelled (Ok script) = Ok script
source_spelled (Err bad) = Err (BadSource bad.line bad.kind)

-- the source after all commands, where none is refused
abbrev pub unless_refused : Result Machine (ℕ × SourceFail) → Result Machine Refusal
unless_refused (Ok machine) = Ok machine
unless_refused (Err refused) = Err (RefusedCommand refused.0 refused.1)

abbrev pub make_in : List ℕ → Result Machine Refusal
make_in text = do
  script ← source_spelled (source_of text)
  unless_refused (made_of script)

-- what a source script makes
abbrev pub make_input : List ℕ → Result Machine Refusal
make_input = within SCRIPT_BYTES SourceTooLong make_in

-- ---- the commands of the command line, each in its order of work

abbrev pub replay_input : List ℕ → List ℕ → Result (Logs × Script) Refusal
replay_input logs script = do
  l ← logs_input logs
  s ← script_input (length l.tablets) script
  Ok (l, s)

-- halted where a poll met a break
abbrev pub lines_output : List Line → Output
lines_output lines = record { text = lines_text lines; status = if list_any is_halt lines then status.Halted else status.Ok }

abbrev pub replay_output : Logs × Script → Output
replay_output input = lines_output (lines_from input.0 (start input.0) input.1.commands)

abbrev pub replay_run : List ℕ → List ℕ → Defined
replay_run logs script = do
  input ← replay_input logs script
  Ok (replay_output input)

-- halted where a log breaks the order rules
abbrev pub audit_output : Audit → Output
audit_output audit = record { text = audit_text audit; status = if list_any is_halted audit.ends then status.Halted else status.Ok }

abbrev pub audit_run : List ℕ → List ℕ → Defined
audit_run logs script = do
  audit ← audit_input logs
  Ok (audit_output audit)

-- the log text of version 2
abbrev pub upgrade_output : Logs → Output
upgrade_output logs = record { text = text2_of logs; status = status.Ok }

abbrev pub upgrade_run : List ℕ → List ℕ → Defined
upgrade_run logs script = do
  l ← upgrade_input logs
  Ok (upgrade_output l)

-- the log text, of version 1 exactly where all keys and values are plain
abbrev pub make_output : Machine → Output
make_output m = record { text = text_of (least_version (made_logs m)) (made_logs m); status = status.Ok }

abbrev pub make_run : List ℕ → List ℕ → Defined
make_run logs script = do
  m ← make_input script
  Ok (make_output m)

-- of a generated workload, from nothing that is read
abbrev pub gen_output : ℕ → ℕ → Output
gen_output number size = record { text = summary_line number size (summary_of (generated number size)); status = status.Ok }

abbrev pub usage_output : Output
usage_output = record { text = codes "usage: the words after xcr do not form a command\n"; status = status.Usage }

abbrev pub run_of : Option Form → List ℕ → List ℕ → Defined
run_of None logs script = Ok usage_output
run_of (Some Replay) logs script = replay_run logs script
run_of (Some AuditForm) logs script = audit_run logs script
run_of (Some Upgrade) logs script = upgrade_run logs script
run_of (Some Make) logs script = make_run logs script
run_of (Some (Gen number size)) logs script = Ok (gen_output number size)

abbrev pub reads_of : Option Form → Reads
reads_of None = record { logs = false; script = false }
reads_of (Some Replay) = record { logs = true; script = true }
reads_of (Some AuditForm) = record { logs = true; script = false }
reads_of (Some Upgrade) = record { logs = true; script = false }
reads_of (Some Make) = record { logs = false; script = true }
reads_of (Some (Gen number size)) = record { logs = false; script = false }

-- ---- the line of a refusal, and the statuses

abbrev pub line_of : Refusal → List ℕ
line_of LogsTooLong = codes "logs too long\n"
line_of (BadLogs line kind) = codes "bad logs " ++ decimal line ++ codes " " ++ kind_name kind ++ codes "\n"
line_of (Disagree txn tablet kind) =
    codes "disagree " ++ decimal txn ++ codes " " ++ decimal tablet ++ codes " " ++ agree_name kind ++ codes "\n"
line_of ScriptTooLong = codes "script too long\n"
line_of (BadScript line kind) = codes "bad script " ++ decimal line ++ codes " " ++ script_kind_name kind ++ codes "\n"
line_of SourceTooLong = codes "source too long\n"
line_of (BadSource line kind) = bad_source line (source_kind_name kind)
line_of (RefusedCommand line fail) = bad_source line (fail_name fail)

abbrev pub refusal_status : Refusal → Status
refusal_status LogsTooLong = status.BadLogs
refusal_status (BadLogs line kind) = status.BadLogs
refusal_status (Disagree txn tablet kind) = status.Disagree
refusal_status ScriptTooLong = status.BadScript
refusal_status (BadScript line kind) = status.BadScript
refusal_status SourceTooLong = status.BadScript
refusal_status (BadSource line kind) = status.BadScript
refusal_status (RefusedCommand line fail) = status.BadScript

abbrev pub refusal_output : Refusal → Output
refusal_output refusal = record { text = line_of refusal; status = refusal_status refusal }

-- what a run of this form is to write, and with which status it ends
abbrev pub output_for : Option Form → List ℕ → List ℕ → Output
output_for form logs script = output_of refusal_output (run_of form logs script)

-- the same by its words
abbrev pub outcome : List (List ℕ) → List ℕ → List ℕ → Output
outcome words = output_for (form_of words)

-- ---- what a refusal leaves, beside its line

-- the text of the logs is bad or too long, or the tablets disagree
abbrev pub RefusesLogs : Status → Type 0
RefusesLogs s = (s ≡ status.BadLogs) ⊎ (s ≡ status.Disagree)

-- Where the logs are refused, the script is as it was. Where the script is, the logs were read to their end.
pub record InOrder (reads : Reads) (result : Status) (logs script : Stream) : Type 0 where
  pub logs_first : RefusesLogs result → IsUntouched script
  pub script_next : result ≡ status.BadScript → Used reads.logs (Unit {0}) logs

-- the same of an input that stopped
abbrev pub StopsInOrder : Reads → Stop Refusal → Stream → Stream → Type 0
StopsInOrder reads (stop.Refused refusal) logs script = InOrder reads (refusal_status refusal) logs script
StopsInOrder reads stop.ReadFault logs script = Unit {0}
StopsInOrder reads stop.NoMemory logs script = Unit {0}

-- what words that form no command may end with
abbrev pub IsUsage : Status → Type 0
IsUsage status.Usage = Unit {0}
IsUsage status.WriteFault = Unit {0}
IsUsage status.NoMemory = Unit {0}
IsUsage other = ⊥
