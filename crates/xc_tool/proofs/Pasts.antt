-- What is written by a replay shows what the source committed.
use Rattle.std.proofs.Common.{◌≡◌, ℕ, ◌^◌, Bool, true, false, List, [], ◌∷◌, length, Option, Some, None, Result, Ok, Err, refl}
use Rattle.std.proofs.Common.{sym, ap, ◌∙◌, subst, append-nil, max, if◌then◌else◌, arith}
use Rattle.std.specs.Prelude.{nat_lt}
use Rattle.std.specs.List.{AllByRecursion}
use Rattle.std.specs.Option.{option_map_or}
use Rattle.xc_record.specs.declared.record.Logs.{Logs}
use Rattle.xc_record.specs.declared.session.Command.{Command}
use Rattle.xc_record.specs.declared.session.Command.TheVariants as command
use Rattle.xc_record.specs.declared.session.Line.{Line}
use Rattle.xc_record.specs.declared.session.Line.TheVariants as line
use Rattle.xc_record.specs.declared.session.PollAnswer.{PollAnswer}
use Rattle.xc_record.specs.declared.session.PollAnswer.TheVariants as poll
use Rattle.xc_record.specs.Agreement.{Disagreement, disagreement}
use Rattle.xc_record.specs.Session.{Session, IsSession, safe_now, start}
use Rattle.xc_record.specs.Step.{step, open_step, poll_answer, poll_step, stop_step, is_change}
use Rattle.xc_record.specs.Step.{lines_from}
use Rattle.xc_record.specs.Valid.{is_valid}
use Rattle.xc_model.proofs.SessionLaws.{steps-keep, steps-rise, stays-closed, sessions-start}
use Rattle.xc_model.proofs.TimeLaws.{named-times-rise, closed-times}
use Rattle.xc_model.proofs.LineLaws.{lines-name}
use Rattle.xc_model.specs.Sessions.{named_times, IsRising}
use Rattle.xc_run.specs.Ran.{IsEnded, ◌>>=◌, output_of}
use Rattle.xc_script.specs.ScriptText.{BadLine as BadScriptLine, script_of}
use Rattle.xc_script.specs.declared.script.Script.{Script}
use Rattle.xc_text.proofs.ReadBack.{read_is_spelled}
use Rattle.xc_text.specs.LogText.{BadLine, logs_of}
use Rattle.xc_tool.specs.declared.refusal.Refusal.{Refusal}
use Rattle.xc_tool.specs.declared.refusal.Refusal.TheVariants.{LogsTooLong, ScriptTooLong}
use Rattle.xc_tool.specs.Headline.{Leads, IsShown, Shows, IsReplay, ReplaysShowThePast}
use Rattle.xc_tool.specs.Outcome.{output_for, logs_input, logs_in, logs_spelled, agreed, unless_contradicted, script_input, script_in}
use Rattle.xc_tool.specs.Outcome.{script_spelled, replay_input, replay_output, refusal_output}
use Rattle.xc_tool.proofs.Statuses.{never_ended}

-- ---- one command

poll-leads : (logs : Logs) (m : Session) (id n : ℕ) (a : PollAnswer) → Leads logs (command.Poll id n) (poll_step m id a).1
poll-leads logs m id n (poll.Polled k) = (refl, refl)
poll-leads logs m id n (poll.Waits parent) = (refl, refl)
poll-leads logs m id n poll.AtEnd = (refl, refl)
poll-leads logs m id n (poll.Halted number kind) = (refl, refl)

stop-leads : (logs : Logs) (m : Session) (id n last : ℕ) (a : PollAnswer) → Leads logs (command.Stop id n last) (stop_step m id a).1
stop-leads logs m id n last (poll.Polled k) = (refl, refl)
stop-leads logs m id n last (poll.Waits parent) = (refl, refl)
stop-leads logs m id n last poll.AtEnd = (refl, refl)
stop-leads logs m id n last (poll.Halted number kind) = (refl, refl)

open-leads : (logs : Logs) (m : Session) (c : Command) → Leads logs c (open_step logs m c).1
unfolding open_step
open-leads logs m (command.Poll id n) = poll-leads logs m id n (poll_answer logs m id n)
open-leads logs m (command.Stop id n last) = stop-leads logs m id n last (poll_answer logs m id n)
open-leads logs m (command.Ack id) = (refl, refl)
open-leads logs m (command.Restart id) = (refl, refl)
open-leads logs m command.Drain = (tt, refl)
open-leads logs m command.Safe = (tt, refl)
open-leads logs m (command.Read key) = (refl, refl)
open-leads logs m (command.ReadAt u key) = by (nat_lt (safe_now logs m) u) (nat_lt u m.cutoff)
  where
    by : (a b : Bool)
        → Leads logs (command.ReadAt u key) ((if a then line.Ahead u (safe_now logs m) else
        (if b then line.Pruned u m.cutoff else line.ReadAt u key (Rattle.xc_record.specs.Rows.row logs u key))) ∷ [])
    by true b = (refl, refl)
    by false true = (refl, refl)
    by false false = ((refl, refl), refl)
open-leads logs m command.Scan = (tt, refl)
open-leads logs m (command.Prune u) = by (nat_lt (safe_now logs m) u)
  where
    either : Bool → Session × List Line
    either b = if b then (m, line.Ahead u (safe_now logs m) ∷ []) else
        (record m { cutoff = max m.cutoff u }, line.Prune (max m.cutoff u) ∷ [])

    by : (b : Bool) → Leads logs (command.Prune u) (either b).1
    by true = (refl, refl)
    by false = (tt, refl)
open-leads logs m command.Failover = (tt, refl)
open-leads logs m command.Report = (tt, refl)

leads : (logs : Logs) (m : Session) (c : Command) → Leads logs c (step logs m c).1
unfolding step
leads logs m c = elim (is_change c) as (λ b. is_change c ≡ b →
    Leads logs c (option_map_or (λ t. (m, line.Closed t ∷ [])) (if b then m.closed else None) (open_step logs m c)).1) [
      | true ↦ changes m.closed
      | false ↦ λ e. open-leads logs m c
    ] refl
  where
    refused : (c : Command) (t : ℕ) → is_change c ≡ true → Leads logs c (line.Closed t ∷ [])
    refused (command.Poll id n) t e = (e, refl)
    refused (command.Stop id n last) t e = (e, refl)
    refused (command.Ack id) t e = (e, refl)
    refused (command.Restart id) t e = (e, refl)
    refused command.Drain t e = (e, refl)
    refused command.Safe t e = cc
    refused (command.Read key) t e = cc
    refused (command.ReadAt u key) t e = cc
    refused command.Scan t e = cc
    refused (command.Prune u) t e = (e, refl)
    refused command.Failover t e = (e, refl)
    refused command.Report t e = cc

    changes : (o : Option ℕ) → is_change c ≡ true → Leads logs c (option_map_or (λ t. (m, line.Closed t ∷ [])) o (open_step logs m c)).1
    changes (Some t) e = refused c t e
    changes None e = open-leads logs m c

shown : (logs : Logs) (m : Session) (c : Command) → is_valid logs ≡ true → IsSession logs m
    → IsShown logs m (step logs m c).0 c (step logs m c).1
shown logs m c valid is = record {
  session = steps-keep logs m c valid is;
  says = lines-name logs m c is;
  leads = leads logs m c;
  rises = steps-rise logs m c valid is;
  stays = λ t closed. (
    stays-closed logs m c t closed,
    subst (λ ls. AllByRecursion (λ v. v ≡ t) (named_times ls)) (append-nil (step logs m c).1)
        (closed-times logs m (c ∷ []) t is closed),
  );
}

-- ---- all commands

shows : (logs : Logs) (m : Session) (cs : List Command) → is_valid logs ≡ true → IsSession logs m → Shows logs m cs (lines_from logs m cs)
shows logs m [] valid is = refl
shows logs m (c ∷ cs) valid is = (
  (step logs m c).0,
  (
    (step logs m c).1,
    (
      lines_from logs (step logs m c).0 cs,
      (refl, (shown logs m c valid is, shows logs (step logs m c).0 cs valid (steps-keep logs m c valid is))),
    ),
  ),
)

from-0 : (b : ℕ) (ts : List ℕ) → IsRising b ts → IsRising 0 ts
from-0 b [] r = tt
from-0 b (t ∷ ts) r = (omega arith, r.1)

-- ---- what is read

agreed-as : (logs found : Logs) (o : Option Disagreement) → disagreement logs ≡ o → unless_contradicted logs o ≡ Ok found
    → (logs ≡ found) × (disagreement logs ≡ None)
agreed-as logs found None e k = (cc, e)
agreed-as logs found (Some d) e k = cc

logs-as : (d : Result Logs BadLine) (logs : Logs) → (logs_spelled d >>= agreed) ≡ Ok logs → (d ≡ Ok logs) × (disagreement logs ≡ None)
logs-as (Ok l) logs e = let p = agreed-as l logs (disagreement l) refl e in (ap (λ l. Ok l) p.0, subst (λ l. disagreement l ≡ None) p.0 p.1)
logs-as (Err bad) logs e = cc

logs-read : (text : List ℕ) (logs : Logs) → logs_input text ≡ Ok logs → (logs_of text ≡ Ok logs) × (disagreement logs ≡ None)
logs-read text logs e =
    elim (nat_lt (2 ^ 26) (length text)) as
    (λ b. (if b then Err LogsTooLong else logs_in text) ≡ Ok logs → (logs_of text ≡ Ok logs) × (disagreement logs ≡ None)) [
      | true ↦ λ k. cc
      | false ↦ λ k. logs-as (logs_of text) logs k
    ] e

script-as : (d : Result Script BadScriptLine) (script : Script) → script_spelled d ≡ Ok script → d ≡ Ok script
script-as (Ok s) script e = let same : s ≡ script = cc in ap (λ s. Ok s) same
script-as (Err bad) script e = cc

script-read : (sources : ℕ) (text : List ℕ) (script : Script) → script_input sources text ≡ Ok script → script_of sources text ≡ Ok script
script-read sources text script e =
    elim (nat_lt (2 ^ 20) (length text)) as
    (λ b. (if b then Err ScriptTooLong else script_in sources text) ≡ Ok script → script_of sources text ≡ Ok script) [
      | true ↦ λ k. cc
      | false ↦ λ k. script-as (script_of sources text) script k
    ] e

both-read : (a b : List ℕ) (logs : Logs) (script : Script) → replay_input a b ≡ Ok (logs, script)
    → (logs_input a ≡ Ok logs) × (script_input (length logs.tablets) b ≡ Ok script)
both-read a b logs script e = first (logs_input a) refl e
  where
    pair : Logs → Script → Result (Logs × Script) Refusal
    pair l s = Ok (l, s)

    second : (l : Logs) (d : Result Script Refusal) → script_input (length l.tablets) b ≡ d → (d >>= pair l) ≡ Ok (logs, script)
        → (l ≡ logs) × (script_input (length logs.tablets) b ≡ Ok script)
    second l (Ok s) is k =
        let pairs : (l, s) ≡ (logs, script) =
        cc in let same : l ≡ logs =
        ap (λ (p : Logs × Script). p.0) pairs in let also : s ≡ script =
        ap (λ (p : Logs × Script). p.1) pairs in (
          same,
          subst (λ l. script_input (length l.tablets) b ≡ Ok script) same (is
              ∙ ap (λ s. Ok s) also),
        )
    second l (Err r) is k = cc

    first : (d : Result Logs Refusal) → logs_input a ≡ d → (d >>= (λ l. script_input (length l.tablets) b >>= pair l)) ≡ Ok (logs, script)
        → (logs_input a ≡ Ok logs) × (script_input (length logs.tablets) b ≡ Ok script)
    first (Ok l) is k = let p = second l (script_input (length l.tablets) b) refl k in (is ∙ ap (λ l. Ok l) p.0, p.1)
    first (Err r) is k = cc

-- ---- the whole

is-replay : (a b : List ℕ) (logs : Logs) (script : Script) → replay_input a b ≡ Ok (logs, script)
    → IsReplay a b (replay_output (logs, script))
is-replay a b logs script e =
    let inputs = both-read a b logs script e in
    let read = logs-read a logs inputs.0 in
    let valid = (read_is_spelled a logs read.0).valid in
    let begun = sessions-start logs valid in
    record {
      logs = logs;
      logs_are = read.0;
      agree = read.1;
      script = script;
      script_is = script-read (length logs.tablets) b script inputs.1;
      lines = lines_from logs (start logs) script.commands;
      text_is = refl;
      shows = shows logs (start logs) script.commands valid begun;
      rising = from-0 (safe_now logs (start logs)) _ (named-times-rise logs (start logs) script.commands valid begun);
    }

pub replays-show : ReplaysShowThePast
replays-show words a b form ended =
    subst (λ f. IsReplay a b (output_for f a b)) (sym form)
    (by (replay_input a b) refl (subst (λ f. IsEnded (output_for f a b).status) form ended))
  where
    by : (d : Result (Logs × Script) Refusal) → replay_input a b ≡ d
        → IsEnded (output_of refusal_output (d >>= (λ i. Ok (replay_output i)))).status
        → IsReplay a b (output_of refusal_output (d >>= (λ i. Ok (replay_output i))))
    by (Ok (logs, script)) is k = is-replay a b logs script is
    by (Err r) is k = absurd (never_ended r k)
