-- What an audit says of logs.
--     state_of b halt      the state of the end of b, which halts at `halt` if anywhere
--     end_of b rs      how far the log is accepted whose records are rs and whose accepted tablet is b
--     ends logs      the end of each tablet, in their order
--     audit_of logs      the ends and the number of commits, or the first case of disagreement
--     IsAudit logs a      a is the audit
--     IsFail logs e      e is the first case of disagreement, or out of memory
use Rattle.std.specs.Prelude.{◌≡◌, ℕ, List, [], ◌∷◌, Option, Some, None, Result, Ok, Err, if◌then◌else◌, length}
use Rattle.xc_record.specs.declared.record.Break.{Break}
use Rattle.xc_record.specs.declared.record.Record.{Record}
use Rattle.xc_record.specs.declared.record.Tablet.{Tablet}
use Rattle.xc_record.specs.declared.record.Logs.{Logs}
use Rattle.xc_record.specs.Accepted.{AcceptedTablet, accepted_tablets, halt_of}
use Rattle.xc_record.specs.Agreement.{Disagreement, disagreement}
use Rattle.xc_record.specs.Commits.{commits}
use Rattle.xc_agree.specs.declared.audit.Audit.{Audit}
use Rattle.xc_agree.specs.declared.audit.AgreeFail.{AgreeFail}
use Rattle.xc_agree.specs.declared.audit.AgreeFail.TheVariants.{Disagree, NoMemory}
use Rattle.xc_agree.specs.declared.audit.End.{End}
use Rattle.xc_agree.specs.declared.audit.EndState.{EndState}
use Rattle.xc_agree.specs.declared.audit.EndState.TheVariants.{Open, Split, Halt, Unreached}

abbrev pub state_after : AcceptedTablet → Option (ℕ × Break) → EndState
state_after b (Some at) = Halt at.0 at.1
state_after b None = if b.end.split then Split else Open

abbrev pub state_of : AcceptedTablet → Option (ℕ × Break) → EndState
state_of b at = if b.reached then state_after b at else Unreached

abbrev pub end_of : AcceptedTablet → List Record → End
end_of b rs = record { accepted = length b.records; floor = b.end.floor; state = state_of b (halt_of b rs) }

-- the ends of the tablets whose accepted tablets are these
abbrev pub ends_of : List AcceptedTablet → List Tablet → List End
ends_of [] ts = []
ends_of (b ∷ bs) [] = []
ends_of (b ∷ bs) (t ∷ ts) = end_of b t.records ∷ ends_of bs ts

unfoldable pub ends : Logs → List End
ends logs = ends_of (accepted_tablets logs) logs.tablets

-- where no case of disagreement was found; also writes and transactions without an operation count
abbrev pub unless_case : Option Disagreement → Audit → Result Audit Disagreement
unless_case None audit = Ok audit
unless_case (Some d) audit = Err d

abbrev pub audit_of : Logs → Result Audit Disagreement
audit_of logs = unless_case (disagreement logs) (record { ends = ends logs; commits = length (commits logs) })

abbrev pub IsAudit : Logs → Audit → Type 0
IsAudit logs a = audit_of logs ≡ Ok a

-- out of memory says nothing of the logs
abbrev pub IsFail : Logs → AgreeFail → Type 0
IsFail logs (Disagree txn tablet kind) = audit_of logs ≡ Err (record { txn = txn; tablet = tablet; kind = kind })
IsFail logs NoMemory = Unit {0}
