-- What a target shows that took all records of a workload.
use Rattle.std.proofs.Common.{◌≡◌, ◌∙◌, ℕ, List, [], ◌∷◌, None, length, map, refl, ap, subst, true}
use Rattle.xc_model.proofs.SessionLaws.{sessions-start}
use Rattle.xc_record.specs.declared.record.Logs.{Logs}
use Rattle.xc_record.specs.Accepted.{AcceptedTablet, accepted_tablets}
use Rattle.xc_record.specs.Agreement.{disagreement}
use Rattle.xc_record.specs.Bounds.{are_bounds}
use Rattle.xc_record.specs.Rows.{rows}
use Rattle.xc_record.specs.SafeTime.{safe_time}
use Rattle.xc_record.specs.Session.{Session, Position, IsSession, position, safe_now, start}
use Rattle.xc_record.specs.Step.{drained, drained_to}
use Rattle.xc_record.specs.Valid.{is_valid}
use Rattle.xc_script.specs.Lines.{lines_text}
use Rattle.xc_source.specs.Machine.{Machine, logs_of, record_count}
use Rattle.xc_source_laws.specs.Laws.{ends}
use Rattle.xc_target.specs.declared.answers.Halt.{Halt}
use Rattle.xc_target.specs.Answers.{Made, halts}
use Rattle.xc_target.specs.Stands.{StandsForSession}
use Rattle.xc_target.specs.Target.{TargetState}
use Rattle.xc_tool.specs.Answers.{row_line}
use Rattle.xc_tool.specs.Generated.{digest, summary_with, summary_of, end_time}
use Rattle.xc_tool.proofs.StepLines.{drained-legal}

pub quarters : are_bounds (0 ∷ 16384 ∷ 32768 ∷ 49152 ∷ []) ≡ true
unfolding are_bounds
quarters = refl

-- ---- a drained target

-- the session after a drain, of logs of which nothing was asked before
abbrev pub at_ends : Logs → Session
at_ends logs = drained logs (start logs)

pub stands-at-ends : (logs : Logs) (t new : TargetState) (found : List Halt) → is_valid logs ≡ true → StandsForSession logs (start logs) t
    → ((m : Session) → IsSession logs m → StandsForSession logs m t → (found ≡ halts logs) × Made logs m (drained logs m) new)
    → StandsForSession logs (at_ends logs) new
stands-at-ends logs t new found valid stands drains = (drains (start logs) (sessions-start logs valid) stands).1.stands

legal-at-ends : (logs : Logs) → is_valid logs ≡ true → IsSession logs (at_ends logs)
legal-at-ends logs valid = drained-legal logs (start logs) valid (sessions-start logs valid) refl

-- its places are the ends of the logs
places-are-ends : (m : Session) (bs : List AcceptedTablet)
    → map (λ (p : Position). p.place) (map (λ b. drained_to b (position m b.header.id)) bs)
    ≡ map (λ (b : AcceptedTablet). length b.records) bs
places-are-ends m [] = refl
places-are-ends m (b ∷ bs) = ap (λ ps. length b.records ∷ ps) (places-are-ends m bs)

safe-at-ends : (logs : Logs) → safe_now logs (at_ends logs) ≡ safe_time logs (ends logs)
safe-at-ends logs = ap (safe_time logs) (places-are-ends (start logs) (accepted_tablets logs))

-- ---- the summary

same-summary : (m : Machine) (t safe d : ℕ) (rs : List (List ℕ × List ℕ)) → safe ≡ t → rs ≡ rows (logs_of m) t
    → d ≡ digest (lines_text (map row_line rs))
    → record { records = record_count m; commits = length m.commits; safe = safe; rows = length rs; digest = d }
    ≡ summary_with m t (rows (logs_of m) t)
same-summary m t safe d rs at is digested = rw (at, digested, is) refl

pub summary-is : (m : Machine) (logs : Logs) (t : TargetState) (records count safe d : ℕ) (rs : List (List ℕ × List ℕ)) → logs ≡ logs_of m
    → is_valid (logs_of m) ≡ true → disagreement (logs_of m) ≡ None → records ≡ record_count m → count ≡ length m.commits
    → StandsForSession logs (at_ends logs) t
    → ((logs : Logs) (m : Session) → IsSession logs m → StandsForSession logs m t → safe ≡ safe_now logs m)
    → ((logs : Logs) (m : Session) → IsSession logs m → StandsForSession logs m t → disagreement logs ≡ None
    → rs ≡ rows logs (safe_now logs m))
    → d ≡ digest (lines_text (map row_line rs))
    → record { records = records; commits = count; safe = safe; rows = length rs; digest = d } ≡ summary_of m
summary-is m logs t records count safe d rs are valid agree counted listed stands safes scans digested =
    let own = logs_of m in
    let there : StandsForSession own (at_ends own) t = subst (λ l. StandsForSession l (at_ends l) t) are stands in
    let legal = legal-at-ends own valid in
    let at : safe ≡ end_time m = safes own (at_ends own) legal there ∙ safe-at-ends own in
    let is : rs ≡ rows own (end_time m) = scans own (at_ends own) legal there agree ∙ ap (rows own) (safe-at-ends own) in
    rw (counted, listed) (same-summary m (end_time m) safe d rs at is digested)
