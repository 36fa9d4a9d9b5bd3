-- What an upgrade keeps.
--     UpgradeKeepsLogs      the text that is written for logs is read as these logs
--     UpgradeKeepsAudit      an audit of that text says what an audit of the first text says
use Rattle.std.specs.Prelude.{◌≡◌, ℕ, ◌≤◌, List, length, Some, Ok}
use Rattle.xc_base.specs.declared.limits.TheConstants.{LOGS_BYTES}
use Rattle.xc_base.specs.declared.status.Status.TheVariants as status
use Rattle.xc_record.specs.declared.record.Logs.{Logs}
use Rattle.xc_run.specs.Ran.{Output}
use Rattle.xc_text.specs.LogText.{logs_of}
use Rattle.xc_tool.specs.declared.words.Form.TheVariants.{Audit, Upgrade}
use Rattle.xc_tool.specs.Outcome.{output_for, upgrade_output}

abbrev pub UpgradeKeepsLogs : Type 0
UpgradeKeepsLogs = (text : List ℕ) (logs : Logs) → logs_of text ≡ Ok logs → logs_of (upgrade_output logs).text ≡ Ok logs

abbrev pub upgraded : List ℕ → List ℕ → Output
upgraded = output_for (Some Upgrade)

abbrev pub audited : List ℕ → List ℕ → Output
audited = output_for (Some Audit)

-- of logs that are read, where what is written is not too long to be read again
abbrev pub UpgradeKeepsAudit : Type 0
UpgradeKeepsAudit = (logs script : List ℕ) → (upgraded logs script).status ≡ status.Ok → length (upgraded logs script).text ≤ LOGS_BYTES
    → audited (upgraded logs script).text script ≡ audited logs script
