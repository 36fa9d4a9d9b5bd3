use Rattle.std.proofs.Common.{◌≡◌, ◌++◌, drop, string_bytes}
use Rattle.xc_tool.specs.AuditLines.{logs_text}
use Rattle.xc_tool.proofs.audit.logs_text.Given as goal

abbrev pub invariant-loop-id : goal.invariant-loop-id
invariant-loop-id l = record { on : string_bytes l.text ++ logs_text l.id (drop l.id l.ends) ≡ logs_text 0 l.ends }
