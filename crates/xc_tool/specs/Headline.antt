-- What a replay shows, said of its output alone.
--     Opens command first      the first line that a command has
--     Follows logs first more      the lines behind the first one of a command
--     IsShown logs m n command lines      what the lines of a command show, where the session was m and is n after it
--     Shows logs m commands lines      what the lines of all commands show, one command after the other, from the session m on
--     IsReplay logs_text script_text output      the output shows what the source committed
--     ReplaysShowThePast      each output of a replay does that isn't a refusal
-- The safe time of a session is the least last safe value over the tablets that aren't closed, and the rows at a time are the
-- transactions committed by then, in order of commit, each with all its operations (safe_time, rows).
use Rattle.std.specs.Prelude.{◌≡◌, ℕ, ◌≤◌, true, List, [], ◌∷◌, ◌++◌, Some, None, Ok, length}
use Rattle.std.specs.List.{AllByRecursion}
use Rattle.xc_record.specs.declared.record.Logs.{Logs}
use Rattle.xc_record.specs.declared.session.Command.{Command}
use Rattle.xc_record.specs.declared.session.Command.TheVariants as command
use Rattle.xc_record.specs.declared.session.Line.{Line}
use Rattle.xc_record.specs.declared.session.Line.TheVariants as line
use Rattle.xc_record.specs.Agreement.{disagreement}
use Rattle.xc_record.specs.Session.{Session, IsSession, safe_now, start}
use Rattle.xc_record.specs.Step.{is_change, halt_lines, row_lines}
use Rattle.xc_model.specs.Lines.{Says}
use Rattle.xc_model.specs.Sessions.{named_times, IsRising}
use Rattle.xc_run.specs.Ran.{Output, IsEnded}
use Rattle.xc_script.specs.Lines.{lines_text}
use Rattle.xc_script.specs.ScriptText.{script_of}
use Rattle.xc_script.specs.declared.script.Script.{Script}
use Rattle.xc_text.specs.LogText.{logs_of}
use Rattle.xc_tool.specs.declared.words.Form.TheVariants.{Replay}
use Rattle.xc_tool.specs.Outcome.{outcome}
use Rattle.xc_tool.specs.Words.{form_of}

-- the tablet, the time and the key that a line names are those that its command names; nothing but a change is refused as closed
abbrev pub Opens : Command → Line → Type 0
Opens (command.Poll id n) (line.Wait s parent) = s ≡ id
Opens (command.Poll id n) (line.Halt s number kind) = s ≡ id
Opens (command.Poll id n) (line.AtEnd s) = s ≡ id
Opens (command.Poll id n) (line.Polled s count) = s ≡ id
Opens (command.Stop id n last) (line.Wait s parent) = s ≡ id
Opens (command.Stop id n last) (line.Halt s number kind) = s ≡ id
Opens (command.Stop id n last) (line.AtEnd s) = s ≡ id
Opens (command.Stop id n last) (line.Stopped s count) = s ≡ id
Opens (command.Ack id) (line.Ack s place) = s ≡ id
Opens (command.Restart id) (line.Restart s place) = s ≡ id
Opens command.Drain (line.Drain t) = Unit {0}
Opens command.Safe (line.Safe t) = Unit {0}
Opens (command.Read k) (line.Read t key value) = key ≡ k
Opens (command.ReadAt u k) (line.ReadAt time key value) = (time ≡ u) × (key ≡ k)
Opens (command.ReadAt u k) (line.Ahead time safe) = time ≡ u
Opens (command.ReadAt u k) (line.Pruned time cutoff) = time ≡ u
Opens command.Scan (line.Scan t count) = Unit {0}
Opens (command.Prune u) (line.Ahead time safe) = time ≡ u
Opens (command.Prune u) (line.Prune cutoff) = Unit {0}
Opens command.Failover (line.Failover t count) = Unit {0}
Opens command.Report (line.Report acks closed cursors cutoff places safe) = Unit {0}
Opens c (line.Closed t) = is_change c ≡ true
Opens c first = ⊥

-- a scan and a failover show all rows at their time, a drain tells of each break, and nothing else has a second line
abbrev pub Follows : Logs → Line → List Line → Type 0
Follows logs (line.Scan t count) more = more ≡ row_lines logs t
Follows logs (line.Failover t count) more = more ≡ row_lines logs t
Follows logs (line.Drain t) more = more ≡ halt_lines logs
Follows logs first more = more ≡ []

abbrev pub Leads : Logs → Command → List Line → Type 0
Leads logs c [] = ⊥
Leads logs c (first ∷ more) = Opens c first × Follows logs first more

pub record IsShown (logs : Logs) (m n : Session) (c : Command) (lines : List Line) : Type 0 where
  -- the places are legal
  pub session : IsSession logs n
  -- a read, a scan and a failover name the safe time, and show what the rows at that time have
  pub says : AllByRecursion (Says logs m n) lines
  pub leads : Leads logs c lines
  -- the safe time doesn't fall
  pub rises : safe_now logs m ≤ safe_now logs n
  -- after a failover nothing moves, and no other time is named than that of the failover
  pub stays : (t : ℕ) → m.closed ≡ Some t → (n ≡ m) × AllByRecursion (λ v. v ≡ t) (named_times lines)

abbrev pub Shows : Logs → Session → List Command → List Line → Type 0
Shows logs m [] lines = lines ≡ []
Shows logs m (c ∷ cs) lines =
    (n : Session) ×
    ((own : List Line) × ((rest : List Line) × ((lines ≡ own ++ rest) × (IsShown logs m n c own × Shows logs n cs rest))))

pub record IsReplay (logs_text script_text : List ℕ) (output : Output) : Type 0 where
  pub logs : Logs
  pub logs_are : logs_of logs_text ≡ Ok logs
  pub agree : disagreement logs ≡ None
  pub script : Script
  pub script_is : script_of (length logs.tablets) script_text ≡ Ok script
  pub lines : List Line
  pub text_is : output.text ≡ lines_text lines
  -- from the session on that nothing was asked of yet
  pub shows : Shows logs (start logs) script.commands lines
  -- no time that is named is below one that was named before
  pub rising : IsRising 0 (named_times lines)

-- whatever logs and script there are
abbrev pub ReplaysShowThePast : Type 0
ReplaysShowThePast = (words : List (List ℕ)) (logs_text script_text : List ℕ) → form_of words ≡ Some Replay
    → IsEnded (outcome words logs_text script_text).status
    → IsReplay logs_text script_text (outcome words logs_text script_text)
