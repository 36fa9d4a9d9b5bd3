-- The lines of an audit, as they are written.
--     agree_name kind      the name of a case of disagreement
--     line_of_words words      words parted by one space each, and the line end
--     log_line id end      the line of the tablet of this number, with its end
--     logs_text id ends      the lines of the tablets from this number on, one after the other
--     is_halted end      the log breaks the order rules
--     audit_text audit      the lines of all tablets, then the number of commits
use Rattle.std.specs.Prelude.{ℕ, ◌+◌, Bool, true, false, List, [], ◌∷◌, ◌++◌, codes, decimal}
use Rattle.std.specs.List.{join_with_byte}
use Rattle.xc_record.specs.declared.record.AgreeKind.{AgreeKind}
use Rattle.xc_record.specs.declared.record.AgreeKind.TheVariants.{CommitDiffers, RollbackDiffers, LateIntent, Aborted, Straggler}
use Rattle.xc_agree.specs.declared.audit.Audit.{Audit}
use Rattle.xc_agree.specs.declared.audit.End.{End}
use Rattle.xc_agree.specs.declared.audit.EndState.{EndState}
use Rattle.xc_agree.specs.declared.audit.EndState.TheVariants.{Open, Split, Halt, Unreached}
use Rattle.xc_script.specs.Lines.{break_name}

abbrev pub agree_name : AgreeKind → List ℕ
agree_name CommitDiffers = codes "commit-differs"
agree_name RollbackDiffers = codes "rollback-differs"
agree_name LateIntent = codes "late-intent"
agree_name Aborted = codes "aborted"
agree_name Straggler = codes "straggler"

abbrev pub state_words : EndState → List (List ℕ)
state_words Open = codes "open" ∷ []
state_words Split = codes "split" ∷ []
state_words (Halt number kind) = codes "halt" ∷ decimal number ∷ break_name kind ∷ []
state_words Unreached = codes "unreached" ∷ []

-- how many records are accepted, the final floor, and what becomes of the log
abbrev pub log_words : ℕ → End → List (List ℕ) → List (List ℕ)
log_words id end state = codes "log" ∷ decimal id ∷ decimal end.accepted ∷ decimal end.floor ∷ state

abbrev pub line_of_words : List (List ℕ) → List ℕ
line_of_words words = join_with_byte 32 words ++ codes "\n"

abbrev pub log_line : ℕ → End → List ℕ
log_line id end = line_of_words (log_words id end (state_words end.state))

abbrev pub logs_text : ℕ → List End → List ℕ
logs_text id [] = []
logs_text id (end ∷ ends) = log_line id end ++ logs_text (id + 1) ends

abbrev pub agrees_line : ℕ → List ℕ
agrees_line count = line_of_words (codes "agrees" ∷ decimal count ∷ [])

abbrev pub audit_text : Audit → List ℕ
audit_text audit = logs_text 0 audit.ends ++ agrees_line audit.commits

abbrev pub halts : EndState → Bool
halts Open = false
halts Split = false
halts (Halt number kind) = true
halts Unreached = false

abbrev pub is_halted : End → Bool
is_halted end = halts end.state
