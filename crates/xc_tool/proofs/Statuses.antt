-- The statuses that a run may end with, and the order in which it refuses.
use Rattle.std.proofs.Common.{◌≡◌, ℕ, Bool, true, false, List, Option, Some, None, Result, Ok, Err, refl, sym, ap, ◌∙◌, subst, inl, inr}
use Rattle.std.proofs.Common.{if◌then◌else◌}
use Rattle.std.proofs.Common.{◌++◌, append_assoc, codes}
use Rattle.std.specs.Prelude.{nat_lt, length, ◌^◌}
use Rattle.xc_base.specs.declared.status.Status.{Status}
use Rattle.xc_base.specs.declared.status.Status.TheVariants as status
use Rattle.xc_run.specs.declared.stop.Stop.{Stop}
use Rattle.xc_run.specs.declared.stop.Stop.TheVariants as stop
use Rattle.xc_run.specs.Streams.{Stream, IsUntouched}
use Rattle.xc_run.specs.Ran.{Output, Reads, Took, Wrote, Ended, Ran, Is, Shows, IsEnded, ◌>>=◌, output_of}
use Rattle.xc_agree.specs.declared.audit.Audit.{Audit}
use Rattle.xc_record.specs.declared.record.Logs.{Logs}
use Rattle.xc_agree.specs.Audit.{audit_of}
use Rattle.xc_text.specs.LogText.{BadLine, logs_of}
use Rattle.xc_tool.specs.declared.refusal.Refusal.{Refusal}
use Rattle.xc_tool.specs.declared.refusal.Refusal.TheVariants.{LogsTooLong, BadLogs, Disagree, ScriptTooLong, BadScript}
use Rattle.xc_tool.specs.declared.refusal.Refusal.TheVariants.{SourceTooLong, BadSource, RefusedCommand}
use Rattle.xc_tool.specs.declared.words.Form.{Form}
use Rattle.xc_tool.specs.declared.words.Form.TheVariants.{Audit as AuditForm, Gen, Make, Replay, Upgrade}
use Rattle.xc_tool.specs.Outcome.{refusal_output, refusal_status, output_for, replay_input, replay_output, audit_input, audit_in}
use Rattle.xc_tool.specs.Outcome.{unless_disagree, audit_output, upgrade_input, upgrade_output, reads_of, logs_input, logs_in, logs_spelled}
use Rattle.xc_tool.specs.Outcome.{agreed, unless_contradicted, script_input, script_spelled, script_in, usage_output, RefusesLogs, InOrder}
use Rattle.xc_tool.specs.Outcome.{StopsInOrder, IsUsage, make_in, make_input, make_output, source_spelled, unless_refused, gen_output}
use Rattle.xc_source.specs.Machine.{Machine}
use Rattle.xc_source.specs.declared.fail.SourceFail.{SourceFail}
use Rattle.xc_source_script.specs.Made.{made_of}
use Rattle.xc_source_script.specs.SourceText.{BadLine as BadSourceLine, source_of}
use Rattle.xc_source_script.specs.declared.script.SourceScript.{SourceScript}
use Rattle.xc_script.specs.ScriptText.{BadLine as BadScriptLine, script_of}
use Rattle.xc_script.specs.declared.script.Script.{Script}
use Rattle.xc_record.specs.Agreement.{Disagreement, disagreement}

-- a refusal's status isn't that of a run that came to its own end
pub never_ended : (r : Refusal) → IsEnded (refusal_output r).status → ⊥
never_ended LogsTooLong e = elim e [ inl h ↦ cc | inr h ↦ cc ]
never_ended (BadLogs line kind) e = elim e [ inl h ↦ cc | inr h ↦ cc ]
never_ended (Disagree txn tablet kind) e = elim e [ inl h ↦ cc | inr h ↦ cc ]
never_ended ScriptTooLong e = elim e [ inl h ↦ cc | inr h ↦ cc ]
never_ended (BadScript line kind) e = elim e [ inl h ↦ cc | inr h ↦ cc ]
never_ended SourceTooLong e = elim e [ inl h ↦ cc | inr h ↦ cc ]
never_ended (BadSource line kind) e = elim e [ inl h ↦ cc | inr h ↦ cc ]
never_ended (RefusedCommand line fail) e = elim e [ inl h ↦ cc | inr h ↦ cc ]

-- ---- usage

-- the status of a command is none that its refusals and its outputs don't have
not_usage : {A : Type 0} (d : Result A Refusal) (output : A → Output) → ((x : A) → (output x).status ≡ status.Usage → ⊥)
    → (output_of refusal_output (d >>= (λ x. Ok (output x)))).status ≡ status.Usage → ⊥
not_usage (Ok x) output never e = never x e
not_usage (Err LogsTooLong) output never e = cc
not_usage (Err (BadLogs line kind)) output never e = cc
not_usage (Err (Disagree txn tablet kind)) output never e = cc
not_usage (Err ScriptTooLong) output never e = cc
not_usage (Err (BadScript line kind)) output never e = cc
not_usage (Err SourceTooLong) output never e = cc
not_usage (Err (BadSource line kind)) output never e = cc
not_usage (Err (RefusedCommand line fail)) output never e = cc

-- a status that is neither that of a halt nor that of a whole run
abbrev IsOther : Status → Type 0
IsOther s = (status.Halted ≡ s → ⊥) × (status.Ok ≡ s → ⊥)

not_end : (b : Bool) (s : Status) → IsOther s → (if b then status.Halted else status.Ok) ≡ s → ⊥
not_end true s other e = other.0 e
not_end false s other e = other.1 e

not_refused : (b : Bool) → RefusesLogs (if b then status.Halted else status.Ok) → ⊥
not_refused b e = elim e [
  | inl h ↦ not_end b status.BadLogs ((λ k. cc), (λ k. cc)) h
  | inr h ↦ not_end b status.Disagree ((λ k. cc), (λ k. cc)) h
]

usage_only : (form : Option Form) (a b : List ℕ) → (output_for form a b).status ≡ status.Usage → form ≡ None
usage_only None a b e = refl
usage_only (Some Replay) a b e =
    absurd (not_usage (replay_input a b) replay_output (λ x e. not_end _ status.Usage ((λ h. cc), (λ h. cc)) e) e)
usage_only (Some AuditForm) a b e =
    absurd (not_usage (audit_input a) audit_output (λ x e. not_end _ status.Usage ((λ h. cc), (λ h. cc)) e) e)
usage_only (Some Upgrade) a b e = absurd (not_usage (upgrade_input a) upgrade_output (λ x h. cc) e)
usage_only (Some Make) a b e = absurd (not_usage (make_input b) make_output (λ x h. cc) e)
usage_only (Some (Gen number size)) a b e = cc

pub usage_ran : (form : Option Form) (reads : Reads) (result : Status) (logs script out : Stream)
    → Ran (Is (output_for form)) reads result logs script out → result ≡ status.Usage → form ≡ None
usage_ran form reads result logs script out ran e =
    let shown = subst (λ s. Shows ran.output s out) e ran.shown in
    usage_only form ran.from_logs ran.from_script (sym (shown.0 ∙ ap (λ o. o.status) ran.allowed))

usage_status : (output : Output) (result : Status) (out : Stream) → output ≡ usage_output → (result ≡ status.ReadFault → ⊥)
    → Shows output result out → IsUsage result
usage_status output status.Ok out e never shown = let s : status.Ok ≡ status.Usage = shown.0 ∙ ap (λ o. o.status) e in cc
usage_status output status.Usage out e never shown = tt
usage_status output status.BadLogs out e never shown = let s : status.BadLogs ≡ status.Usage = shown.0 ∙ ap (λ o. o.status) e in cc
usage_status output status.Disagree out e never shown = let s : status.Disagree ≡ status.Usage = shown.0 ∙ ap (λ o. o.status) e in cc
usage_status output status.BadScript out e never shown = let s : status.BadScript ≡ status.Usage = shown.0 ∙ ap (λ o. o.status) e in cc
usage_status output status.ReadFault out e never shown = absurd (never refl)
usage_status output status.WriteFault out e never shown = tt
usage_status output status.NoMemory out e never shown = tt
usage_status output status.Halted out e never shown = let s : status.Halted ≡ status.Usage = shown.0 ∙ ap (λ o. o.status) e in cc

no_command_from : (result : Status) (logs script out : Stream) → Ran (Is (output_for None)) (reads_of None) result logs script out
    → IsUsage result
no_command_from result logs script out ran =
    usage_status ran.output result out ran.allowed
    (λ e. elim (ran.read_fault e) [ inl h ↦ let b : false ≡ true = h.0 in cc | inr h ↦ let b : false ≡ true = h.0 in cc ]) ran.shown

-- words that form no command end in the usage line, or in a fault or want of memory before it stood whole
pub no_command : (form : Option Form) (result : Status) (logs script out : Stream)
    → Ran (Is (output_for form)) (reads_of form) result logs script out → form ≡ None → IsUsage result
no_command form result logs script out ran e =
    no_command_from result logs script out (subst (λ f. Ran (Is (output_for f)) (reads_of f) result logs script out) e ran)

-- ---- the order of refusals

agreed_status : (logs : Logs) (o : Option Disagreement) (r : Refusal) → unless_contradicted logs o ≡ Err r → RefusesLogs (refusal_status r)
agreed_status logs None r e = cc
agreed_status logs (Some d) r e = let s : Disagree d.txn d.tablet d.kind ≡ r = cc in inr (ap refusal_status (sym s))

logs_status : (d : Result Logs BadLine) (r : Refusal) → (logs_spelled d >>= agreed) ≡ Err r → RefusesLogs (refusal_status r)
logs_status (Ok logs) r e = agreed_status logs (disagreement logs) r e
logs_status (Err bad) r e = let s : BadLogs bad.line bad.kind ≡ r = cc in inl (ap refusal_status (sym s))

logs_refused : (text : List ℕ) (r : Refusal) → logs_input text ≡ Err r → RefusesLogs (refusal_status r)
logs_refused text r e =
    elim (nat_lt (2 ^ 26) (length text)) as (λ b. (if b then Err LogsTooLong else logs_in text) ≡ Err r → RefusesLogs (refusal_status r)) [
      | true ↦ λ h. let s : LogsTooLong ≡ r = cc in inl (ap refusal_status (sym s))
      | false ↦ λ h. logs_status (logs_of text) r h
    ] e

-- such a status is none of a script
not_of_script : (s : Status) → RefusesLogs s → s ≡ status.BadScript → ⊥
not_of_script s of e = elim of [
  | inl h ↦ let never : status.BadLogs ≡ status.BadScript = sym h ∙ e in cc
  | inr h ↦ let never : status.Disagree ≡ status.BadScript = sym h ∙ e in cc
]

script_status : (d : Result Script BadScriptLine) (r : Refusal) → script_spelled d ≡ Err r → refusal_status r ≡ status.BadScript
script_status (Ok script) r e = cc
script_status (Err bad) r e = let s : BadScript bad.line bad.kind ≡ r = cc in ap refusal_status (sym s)

script_refused : (sources : ℕ) (text : List ℕ) (r : Refusal) → script_input sources text ≡ Err r → refusal_status r ≡ status.BadScript
script_refused sources text r e =
    elim (nat_lt (2 ^ 20) (length text)) as
    (λ b. (if b then Err ScriptTooLong else script_in sources text) ≡ Err r → refusal_status r ≡ status.BadScript) [
      | true ↦ λ h. let s : ScriptTooLong ≡ r = cc in ap refusal_status (sym s)
      | false ↦ λ h. script_status (script_of sources text) r h
    ] e

abbrev both : Reads
both = record { logs = true; script = true }

-- the logs stopped, and the script was not asked for
pub order_first : (s : Stop Refusal) (logs script : Stream) → Took logs_input (Err s) logs → IsUntouched script
    → StopsInOrder both s logs script
order_first (stop.Refused r) logs script took same = record {
  logs_first = λ e. same;
  script_next = λ e. absurd (not_of_script (refusal_status r) (logs_refused took.bytes r took.found) e);
}
order_first stop.ReadFault logs script took same = tt
order_first stop.NoMemory logs script took same = tt

-- the logs were read, and the script stopped
pub order_second : (sources : ℕ) (x : Logs) (s : Stop Refusal) (logs script : Stream) → Took logs_input (Ok x) logs
    → Took (script_input sources) (Err s) script → StopsInOrder both s logs script
order_second sources x (stop.Refused r) logs script first second = record {
  logs_first = λ e. absurd (not_of_script (refusal_status r) e (script_refused sources second.bytes r second.found));
  script_next = λ e u. first.end;
}
order_second sources x stop.ReadFault logs script first second = tt
order_second sources x stop.NoMemory logs script first second = tt

abbrev logs_alone : Reads
logs_alone = record { logs = true; script = false }

spelled_status : (d : Result Logs BadLine) (r : Refusal) → (logs_spelled d >>= (λ logs. unless_disagree (audit_of logs))) ≡ Err r
    → refusal_status r ≡ status.BadScript → ⊥
spelled_status (Ok logs) r e bad = elim (audit_of logs) as (λ o. unless_disagree o ≡ Err r → ⊥) [
  | Ok audit ↦ λ h. cc
  | Err d ↦ λ h. let s : Disagree d.txn d.tablet d.kind ≡ r =
      cc in let never : status.Disagree ≡ status.BadScript = ap refusal_status s ∙ bad in cc
] e
spelled_status (Err b) r e bad =
    let s : BadLogs b.line b.kind ≡ r = cc in let never : status.BadLogs ≡ status.BadScript = ap refusal_status s ∙ bad in cc

-- an audit refuses no script
audit_refused : (text : List ℕ) (r : Refusal) → audit_input text ≡ Err r → refusal_status r ≡ status.BadScript → ⊥
audit_refused text r e bad = elim (nat_lt (2 ^ 26) (length text)) as (λ b. (if b then Err LogsTooLong else audit_in text) ≡ Err r → ⊥) [
  | true ↦ λ h. let s : LogsTooLong ≡ r = cc in let never : status.BadLogs ≡ status.BadScript = ap refusal_status s ∙ bad in cc
  | false ↦ λ h. spelled_status (logs_of text) r h bad
] e

any_status : (d : Result Logs BadLine) (r : Refusal) → logs_spelled d ≡ Err r → refusal_status r ≡ status.BadScript → ⊥
any_status (Ok logs) r e bad = cc
any_status (Err b) r e bad =
    let s : BadLogs b.line b.kind ≡ r = cc in let never : status.BadLogs ≡ status.BadScript = ap refusal_status s ∙ bad in cc

-- and so does an upgrade
upgrade_refused : (text : List ℕ) (r : Refusal) → upgrade_input text ≡ Err r → refusal_status r ≡ status.BadScript → ⊥
upgrade_refused text r e bad =
    elim (nat_lt (2 ^ 26) (length text)) as (λ b. (if b then Err LogsTooLong else logs_spelled (logs_of text)) ≡ Err r → ⊥) [
      | true ↦ λ h. let s : LogsTooLong ≡ r = cc in let never : status.BadLogs ≡ status.BadScript = ap refusal_status s ∙ bad in cc
      | false ↦ λ h. any_status (logs_of text) r h bad
    ] e

-- the logs of an audit stopped
pub audit_stops_in_order : (s : Stop Refusal) (logs script : Stream) → Took audit_input (Err s) logs → IsUntouched script
    → StopsInOrder logs_alone s logs script
audit_stops_in_order (stop.Refused r) logs script took same = record {
  logs_first = λ e. same;
  script_next = λ e. absurd (audit_refused took.bytes r took.found e);
}
audit_stops_in_order stop.ReadFault logs script took same = tt
audit_stops_in_order stop.NoMemory logs script took same = tt

-- those of an upgrade stopped
pub upgrade_stops_in_order : (s : Stop Refusal) (logs script : Stream) → Took upgrade_input (Err s) logs → IsUntouched script
    → StopsInOrder logs_alone s logs script
upgrade_stops_in_order (stop.Refused r) logs script took same = record {
  logs_first = λ e. same;
  script_next = λ e. absurd (upgrade_refused took.bytes r took.found e);
}
upgrade_stops_in_order stop.ReadFault logs script took same = tt
upgrade_stops_in_order stop.NoMemory logs script took same = tt

made_status : (d : Result Machine (ℕ × SourceFail)) (r : Refusal) → unless_refused d ≡ Err r → refusal_status r ≡ status.BadScript
made_status (Ok m) r e = cc
made_status (Err refused) r e = let s : RefusedCommand refused.0 refused.1 ≡ r = cc in ap refusal_status (sym s)

source_status : (d : Result SourceScript BadSourceLine) (r : Refusal)
    → (source_spelled d >>= (λ script. unless_refused (made_of script))) ≡ Err r → refusal_status r ≡ status.BadScript
source_status (Ok script) r e = made_status (made_of script) r e
source_status (Err bad) r e = let s : BadSource bad.line bad.kind ≡ r = cc in ap refusal_status (sym s)

make_refused : (text : List ℕ) (r : Refusal) → make_input text ≡ Err r → refusal_status r ≡ status.BadScript
make_refused text r e =
    elim (nat_lt (2 ^ 20) (length text)) as (λ b. (if b then Err SourceTooLong else make_in text) ≡ Err r
    → refusal_status r ≡ status.BadScript) [
      | true ↦ λ h. let s : SourceTooLong ≡ r = cc in ap refusal_status (sym s)
      | false ↦ λ h. source_status (source_of text) r h
    ] e

abbrev script_alone : Reads
script_alone = record { logs = false; script = true }

-- the source script stopped
pub make_stops_in_order : (s : Stop Refusal) (logs script : Stream) → Took make_input (Err s) script → IsUntouched logs
    → StopsInOrder script_alone s logs script
make_stops_in_order (stop.Refused r) logs script took same = record {
  logs_first = λ e. absurd (not_of_script (refusal_status r) e (make_refused took.bytes r took.found));
  script_next = λ e. same;
}
make_stops_in_order stop.ReadFault logs script took same = tt
make_stops_in_order stop.NoMemory logs script took same = tt

shown_status : (output : Output) (s result : Status) (out : Stream) → ((o : Output) → Shows o s out → s ≡ o.status)
    → Shows output result out → result ≡ s → s ≡ output.status
shown_status output s result out reads shown e = reads output (subst (λ r. Shows output r out) e shown)

-- the logs are refused where their output says so
refuses_logs : (output : Output) (result : Status) (out : Stream) → Shows output result out → RefusesLogs result → RefusesLogs output.status
refuses_logs output result out shown e = elim e [
  | inl h ↦ inl (sym (shown_status output status.BadLogs result out (λ o k. k.0) shown h))
  | inr h ↦ inr (sym (shown_status output status.Disagree result out (λ o k. k.0) shown h))
]

-- an output that is no refusal was written
pub written_in_order : (output : Output) (reads : Reads) (result : Status) (logs script out : Stream) → (RefusesLogs output.status → ⊥)
    → (status.BadScript ≡ output.status → ⊥)
    → Wrote output ⊥ result out → InOrder reads result logs script
written_in_order output reads result logs script out no_logs no_script wrote = record {
  logs_first = λ e. absurd (no_logs (refuses_logs output result out wrote.shown e));
  script_next = λ e. absurd (no_script (shown_status output status.BadScript result out (λ o h. h.0) wrote.shown e));
}

pub replay_in_order : (input : Logs × Script) (reads : Reads) (result : Status) (logs script out : Stream)
    → Wrote (replay_output input) ⊥ result out → InOrder reads result logs script
replay_in_order input reads result logs script out wrote =
    written_in_order (replay_output input) reads result logs script out (not_refused _)
    (λ e. not_end _ status.BadScript ((λ h. cc), (λ h. cc)) (sym e)) wrote

pub audit_in_order : (audit : Audit) (reads : Reads) (result : Status) (logs script out : Stream) → Wrote (audit_output audit) ⊥ result out
    → InOrder reads result logs script
audit_in_order audit reads result logs script out wrote =
    written_in_order (audit_output audit) reads result logs script out (not_refused _)
    (λ e. not_end _ status.BadScript ((λ h. cc), (λ h. cc)) (sym e)) wrote

pub upgrade_in_order : (upgraded : Logs) (reads : Reads) (result : Status) (logs script out : Stream)
    → Wrote (upgrade_output upgraded) ⊥ result out → InOrder reads result logs script
upgrade_in_order upgraded reads result logs script out wrote =
    written_in_order (upgrade_output upgraded) reads result logs script out (not_refused false) (λ e. cc) wrote

pub make_in_order : (made : Machine) (reads : Reads) (result : Status) (logs script out : Stream)
    → Wrote (make_output made) ⊥ result out → InOrder reads result logs script
make_in_order made reads result logs script out wrote =
    written_in_order (make_output made) reads result logs script out (not_refused false) (λ e. cc) wrote

pub gen_in_order : (number size : ℕ) (reads : Reads) (result : Status) (logs script out : Stream)
    → Wrote (gen_output number size) ⊥ result out → InOrder reads result logs script
gen_in_order number size reads result logs script out wrote =
    written_in_order (gen_output number size) reads result logs script out (not_refused false) (λ e. cc) wrote

-- the input stopped, and its line was written
pub ended_in_order : (reads : Reads) (s : Stop Refusal) (result : Status) (logs script out : Stream) → StopsInOrder reads s logs script
    → Ended refusal_output s result out → InOrder reads result logs script
ended_in_order reads (stop.Refused r) result logs script out order wrote = record {
  logs_first = λ e. order.logs_first (refuses_logs (refusal_output r) result out wrote.shown e);
  script_next = λ e. order.script_next (sym (shown_status (refusal_output r) status.BadScript result out (λ o h. h.0) wrote.shown e));
}
ended_in_order reads stop.ReadFault result logs script out order ended = record {
  logs_first = λ e. absurd (elim e [ inl h ↦ cc (sym ended.0 ∙ h) | inr h ↦ cc (sym ended.0 ∙ h) ]);
  script_next = λ e. cc (sym ended.0 ∙ e);
}
ended_in_order reads stop.NoMemory result logs script out order ended = record {
  logs_first = λ e. absurd (elim e [ inl h ↦ cc (sym ended.0 ∙ h) | inr h ↦ cc (sym ended.0 ∙ h) ]);
  script_next = λ e. cc (sym ended.0 ∙ e);
}

-- ---- the line of a bad input

pub bad-line : (head line name text : List ℕ) → text ≡ head ++ (line ++ (codes " " ++ (name ++ codes "\n")))
    → text ≡ head ++ line ++ codes " " ++ name ++ codes "\n"
bad-line head line name text e =
    e ∙ sym (append_assoc ((head ++ line) ++ codes " ") name (codes "\n") ∙ append_assoc (head ++ line) (codes " ") (name ++ codes "\n")
    ∙ append_assoc head line (codes " " ++ (name ++ codes "\n")))
