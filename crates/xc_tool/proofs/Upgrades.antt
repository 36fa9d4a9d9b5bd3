-- An upgraded text is read as the logs of the text that it was made from.
use Rattle.std.proofs.Common.{◌≡◌, ℕ, ◌≤◌, ◌^◌, Bool, true, false, List, length, Result, Ok, Err, refl, ap, ◌∙◌, sym, arith, if◌then◌else◌}
use Rattle.std.specs.Prelude.{nat_lt}
use Rattle.std.proofs.lemmas.Bool.Decides.{nat_tests}
use Rattle.xc_agree.specs.Audit.{audit_of}
use Rattle.xc_base.specs.declared.status.Status.TheVariants as status
use Rattle.xc_record.specs.declared.record.Logs.{Logs}
use Rattle.xc_run.specs.Ran.{◌>>=◌, output_of}
use Rattle.xc_text.specs.LogText.{BadLine, logs_of}
use Rattle.xc_text.proofs.PrintedSpelled.{printed_is_spelled, logs_two}
use Rattle.xc_text.proofs.SpelledRun.{spelled_is_read}
use Rattle.xc_text.proofs.ReadBack.{read_is_spelled}
use Rattle.xc_tool.specs.declared.refusal.Refusal.{Refusal}
use Rattle.xc_tool.specs.declared.refusal.Refusal.TheVariants.{LogsTooLong, BadLogs, Disagree, ScriptTooLong, BadScript}
use Rattle.xc_tool.specs.declared.refusal.Refusal.TheVariants.{SourceTooLong, BadSource, RefusedCommand}
use Rattle.xc_tool.specs.Outcome.{logs_spelled, audit_input, audit_output, unless_disagree, upgrade_input, upgrade_output, refusal_output}
use Rattle.xc_tool.specs.Outcome.{refusal_status}
use Rattle.xc_tool.specs.Upgrades.{UpgradeKeepsLogs, UpgradeKeepsAudit}

pub keeps_logs : UpgradeKeepsLogs
keeps_logs text logs read = spelled_is_read _ logs (printed_is_spelled _ logs (read_is_spelled text logs read).valid (logs_two logs))

-- a refusal's status isn't that of a whole run
pub not_ok : (r : Refusal) → refusal_status r ≡ status.Ok → ⊥
not_ok LogsTooLong e = cc
not_ok (BadLogs line kind) e = cc
not_ok (Disagree txn tablet kind) e = cc
not_ok ScriptTooLong e = cc
not_ok (BadScript line kind) e = cc
not_ok SourceTooLong e = cc
not_ok (BadSource line kind) e = cc
not_ok (RefusedCommand line fail) e = cc

spelled_as : (d : Result Logs BadLine) (logs : Logs) → logs_spelled d ≡ Ok logs → d ≡ Ok logs
spelled_as (Ok l) logs e = let same : l ≡ logs = cc in ap (λ l. Ok l) same
spelled_as (Err bad) logs e = cc

-- a text whose logs were read isn't too long
read_as : (text : List ℕ) (logs : Logs) → upgrade_input text ≡ Ok logs → (nat_lt (2 ^ 26) (length text) ≡ false) × (logs_of text ≡ Ok logs)
read_as text logs e = by (nat_lt (2 ^ 26) (length text)) refl e
  where
    by : (b : Bool) → nat_lt (2 ^ 26) (length text) ≡ b → (if b then Err LogsTooLong else logs_spelled (logs_of text)) ≡ Ok logs
        → (nat_lt (2 ^ 26) (length text) ≡ false) × (logs_of text ≡ Ok logs)
    by true long k = cc
    by false short k = (short, spelled_as (logs_of text) logs k)

-- the audit is one of the logs alone
audit_as : (text : List ℕ) (logs : Logs) → nat_lt (2 ^ 26) (length text) ≡ false → logs_of text ≡ Ok logs
    → audit_input text ≡ unless_disagree (audit_of logs)
audit_as text logs short read = rw (short, read) refl

not_longer : (n : ℕ) → n ≤ 2 ^ 26 → nat_lt (2 ^ 26) n ≡ false
not_longer n h = grind (arith, nat_tests)

same_audit : (text : List ℕ) (logs : Logs) → upgrade_input text ≡ Ok logs → length (upgrade_output logs).text ≤ 2 ^ 26
    → audit_input (upgrade_output logs).text ≡ audit_input text
same_audit text logs e fits =
    let read = read_as text logs e in
    audit_as (upgrade_output logs).text logs (not_longer _ fits) (keeps_logs text logs read.1) ∙ sym (audit_as text logs read.0 read.1)

pub keeps_audit : UpgradeKeepsAudit
keeps_audit text script ok fits = by (upgrade_input text) refl ok fits
  where
    by : (d : Result Logs Refusal) → upgrade_input text ≡ d
        → (output_of refusal_output (d >>= (λ l. Ok (upgrade_output l)))).status ≡ status.Ok
        → length (output_of refusal_output (d >>= (λ l. Ok (upgrade_output l)))).text ≤ 2 ^ 26
        → output_of refusal_output
        (audit_input (output_of refusal_output (d >>= (λ l. Ok (upgrade_output l)))).text >>= (λ a. Ok (audit_output a)))
        ≡ output_of refusal_output (audit_input text >>= (λ a. Ok (audit_output a)))
    by (Ok logs) e k small = ap (λ a. output_of refusal_output (a >>= (λ a. Ok (audit_output a)))) (same_audit text logs e small)
    by (Err r) e k small = absurd (not_ok r k)
