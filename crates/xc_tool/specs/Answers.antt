-- What answers a command of a script.
--     Kept headers counts old new      what each command leaves of a target, which fits a feed of these headers and numbers of records
--     IsLine logs m c l t      the command c of the session m is answered by the line l alone, and leaves the target t
--     GivesLine c old l new      the same of each session that the target `old` stands for, and of the target `new` after it
--     IsAnswer logs m c text halted t      it is answered by the lines of this text
-- The rest is what single functions answer; what answers a command doesn't rest on it.
--     IsTold line text halted      the text is that of the line
--     IsRestored logs m t text halted      the text is that of a failover at t, which shows the rows at the safe time of m
use Rattle.std.specs.Prelude.{◌≡◌, ℕ, Bool, false, List, [], ◌∷◌, Result, Ok, length}
use Rattle.std.specs.List.{list_any}
use Rattle.xc_record.specs.declared.record.Header.{Header}
use Rattle.xc_record.specs.declared.record.Logs.{Logs}
use Rattle.xc_record.specs.declared.session.Command.{Command}
use Rattle.xc_record.specs.declared.session.Line.{Line}
use Rattle.xc_record.specs.declared.session.Line.TheVariants as line
use Rattle.xc_record.specs.Rows.{rows}
use Rattle.xc_record.specs.Session.{Session, IsSession, safe_now}
use Rattle.xc_record.specs.Step.{step, row_lines}
use Rattle.xc_script.specs.Lines.{line_text, lines_text, is_halt}
use Rattle.xc_target.specs.Stands.{StandsForSession}
use Rattle.xc_target.specs.Target.{TargetState, FitsFeed}
use Rattle.xc_target.specs.declared.answers.Halt.{Halt}
use Rattle.xc_tool.specs.declared.answer.Unanswered.{Unanswered}

pub record Kept (headers : List Header) (counts : List ℕ) (old new : TargetState) : Type 0 where
  pub fits : FitsFeed headers counts new
  pub targets : length new.tablets ≡ length old.tablets

pub record IsLine (logs : Logs) (m : Session) (c : Command) (l : Line) (t : TargetState) : Type 0 where
  pub line_is : (step logs m c).1 ≡ l ∷ []
  pub stands : StandsForSession logs (step logs m c).0 t

abbrev pub GivesLine : Command → TargetState → Line → TargetState → Type 0
GivesLine c old l new = (logs : Logs) (m : Session) → IsSession logs m → StandsForSession logs m old → IsLine logs m c l new

pub record IsAnswer (logs : Logs) (m : Session) (c : Command) (text : List ℕ) (halted : Bool) (t : TargetState) : Type 0 where
  pub text_is : text ≡ lines_text (step logs m c).1
  -- one of the lines tells of a break of the order rules
  pub halted_is : halted ≡ list_any is_halt (step logs m c).1
  pub stands : StandsForSession logs (step logs m c).0 t

-- ---- single functions

abbrev pub IsTold : Result Line Unanswered → List ℕ → Bool → Type 0
IsTold line text halted = (l : Line) × ((line ≡ Ok l) × ((text ≡ line_text l) × (halted ≡ is_halt l)))

abbrev pub row_line : List ℕ × List ℕ → Line
row_line r = line.Row r.0 r.1

abbrev pub halt_line : Halt → Line
halt_line h = line.Halt h.id h.number h.kind

abbrev pub IsRestored : Logs → Session → ℕ → List ℕ → Bool → Type 0
IsRestored logs m t text halted =
    (text ≡ lines_text (line.Failover t (length (rows logs (safe_now logs m))) ∷ row_lines logs (safe_now logs m))) × (halted ≡ false)
