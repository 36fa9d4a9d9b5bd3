-- How single commands are answered.
use Rattle.std.proofs.Common.{◌≡◌, ℕ, ◌<◌, ◌≤◌, Bool, true, false, List, [], ◌∷◌, map, length, Option, Some, None, Result, Ok, Err}
use Rattle.std.proofs.Common.{refl, sym, ap, ◌∙◌, subst, append-nil, max, arith}
use Rattle.std.specs.Prelude.{IfOk, nat_lt, not, ◌==◌}
use Rattle.std.specs.List.{list_any, filter_map, cons_option}
use Rattle.std.specs.Option.{option_map}
use Rattle.std.proofs.Math.Bool.{or-false}
use Rattle.std.proofs.lemmas.Bool.Decides.{nat_tests}
use Rattle.std.proofs.lemmas.List.{length-map}
use Rattle.xc_record.specs.declared.record.Logs.{Logs}
use Rattle.xc_record.specs.declared.session.Command.{Command}
use Rattle.xc_record.specs.declared.session.Command.TheVariants as command
use Rattle.xc_record.specs.declared.session.Line.{Line}
use Rattle.xc_record.specs.declared.session.Line.TheVariants as line
use Rattle.xc_record.specs.declared.session.PollAnswer.{PollAnswer}
use Rattle.xc_record.specs.Rows.{row, rows}
use Rattle.xc_record.specs.Session.{Session, IsSession, position, safe_now}
use Rattle.xc_record.specs.Valid.{is_valid}
use Rattle.xc_record.specs.declared.record.Header.{Header}
use Rattle.xc_record.specs.Step.{step, open_step, poll_answer, poll_step, stop_step, is_change, row_lines, drained}
use Rattle.xc_record.specs.Step.{with_position, acknowledge, set_back, read_at_line}
use Rattle.xc_model.proofs.SessionLaws.{is-open, steps-keep}
use Rattle.xc_model.proofs.TimeLaws.{failover-closes}
use Rattle.xc_script.specs.Lines.{line_text, lines_text, is_halt}
use Rattle.xc_target.specs.Answers.{Made, KeepsAlone, Refused, IsPolled, IsStopped, IsPruned, IsNotReadable, IsDrainFail, halts}
use Rattle.xc_retain.specs.declared.retention.NotReadable.{NotReadable}
use Rattle.xc_retain.specs.declared.retention.NotReadable.TheVariants as unreadable
use Rattle.xc_model.specs.Rows.{range_of}
use Rattle.xc_target.specs.declared.answers.PruneFail.{PruneFail}
use Rattle.xc_target.specs.declared.answers.PruneFail.TheVariants as prune
use Rattle.xc_target.specs.declared.answers.TargetFail.{TargetFail}
use Rattle.xc_target.specs.declared.answers.TargetFail.TheVariants as fail
use Rattle.xc_target.specs.Stands.{StandsForSession}
use Rattle.xc_target.specs.Target.{TargetState, FitsFeed}
use Rattle.xc_record.specs.Accepted.{AcceptedTablet, accepted_tablets, halt}
use Rattle.xc_target.specs.declared.answers.Halt.{Halt}
use Rattle.xc_tool.specs.Answers.{Kept, IsLine, IsAnswer, IsTold, row_line, halt_line}

-- a closed session names its closing time where it is to change
pub closed-line : (logs : Logs) (m : Session) (c : Command) (t : ℕ) (new : TargetState) → is_change c ≡ true → Refused logs m t new
    → IsLine logs m c (line.Closed t) new
unfolding step
closed-line logs m c t new changes refused =
    let e : step logs m c ≡ (m, line.Closed t ∷ []) = closed-step logs m c t changes refused.closed in
    record { line_is = ap (λ s. s.1) e; stands = subst (λ s. StandsForSession logs s.0 new) (sym e) refused.stands }
  where
    closed-step : (logs : Logs) (m : Session) (c : Command) (t : ℕ) → is_change c ≡ true → m.closed ≡ Some t
        → step logs m c ≡ (m, line.Closed t ∷ [])
    closed-step logs m c t changes h = rw (changes, h) refl

-- a look at a session leaves it
pub look-step : (logs : Logs) (m : Session) (c : Command) → is_change c ≡ false → step logs m c ≡ open_step logs m c
unfolding step
look-step logs m c still = rw still refl

-- an open session makes the step
pub made-line : (logs : Logs) (m n : Session) (c : Command) (l : Line) (new : TargetState) → open_step logs m c ≡ (n, l ∷ [])
    → Made logs m n new → IsLine logs m c l new
made-line logs m n c l new is made =
    let e : step logs m c ≡ (n, l ∷ []) = is-open logs m c made.still_open ∙ is in
    record { line_is = ap (λ s. s.1) e; stands = subst (λ s. StandsForSession logs s.0 new) (sym e) made.stands }

pub look-line : (logs : Logs) (m : Session) (c : Command) (l : Line) (t : TargetState) → is_change c ≡ false
    → open_step logs m c ≡ (m, l ∷ []) → StandsForSession logs m t → IsLine logs m c l t
look-line logs m c l t still is stands =
    let e : step logs m c ≡ (m, l ∷ []) = look-step logs m c still ∙ is in
    record { line_is = ap (λ s. s.1) e; stands = subst (λ s. StandsForSession logs s.0 t) (sym e) stands }

-- ---- one line

pub line-answers : (logs : Logs) (m : Session) (c : Command) (l : Line) (t : TargetState) (text : List ℕ) (halted : Bool)
    → IsLine logs m c l t → text ≡ line_text l → halted ≡ is_halt l → IsAnswer logs m c text halted t
line-answers logs m c l t text halted is e h = record {
  text_is = e ∙ sym (append-nil (line_text l)) ∙ ap lines_text (sym is.line_is);
  halted_is = h ∙ sym (or-false (is_halt l)) ∙ ap (list_any is_halt) (sym is.line_is);
  stands = is.stands;
}

-- ---- polls

pub polled : (logs : Logs) (m : Session) (id n : ℕ) (a : PollAnswer) (l : Line) (new : TargetState) → (poll_step m id a).1 ≡ l ∷ []
    → a ≡ poll_answer logs m id n → Made logs m (poll_step m id a).0 new → IsLine logs m (command.Poll id n) l new
unfolding open_step
polled logs m id n a l new is answer made =
    made-line logs m (poll_step m id a).0 (command.Poll id n) l new (opens logs m id n a l is answer) made
  where
    opens : (logs : Logs) (m : Session) (id n : ℕ) (a : PollAnswer) (l : Line) → (poll_step m id a).1 ≡ l ∷ []
        → a ≡ poll_answer logs m id n → open_step logs m (command.Poll id n) ≡ ((poll_step m id a).0, l ∷ [])
    opens logs m id n a l is answer = rw (← answer) (ap (λ ls. ((poll_step m id a).0, ls)) is)

pub stopped : (logs : Logs) (m : Session) (id n last : ℕ) (a : PollAnswer) (l : Line) (new : TargetState) → (stop_step m id a).1 ≡ l ∷ []
    → a ≡ poll_answer logs m id n → Made logs m (stop_step m id a).0 new → IsLine logs m (command.Stop id n last) l new
unfolding open_step
stopped logs m id n last a l new is answer made =
    made-line logs m (stop_step m id a).0 (command.Stop id n last) l new (opens logs m id n last a l is answer) made
  where
    opens : (logs : Logs) (m : Session) (id n last : ℕ) (a : PollAnswer) (l : Line) → (stop_step m id a).1 ≡ l ∷ []
        → a ≡ poll_answer logs m id n → open_step logs m (command.Stop id n last) ≡ ((stop_step m id a).0, l ∷ [])
    opens logs m id n last a l is answer = rw (← answer) (ap (λ ls. ((stop_step m id a).0, ls)) is)

pub poll-line : (logs : Logs) (m : Session) (id n : ℕ) (a b : PollAnswer) (l : Line) (new : TargetState) → a ≡ b
    → (poll_step m id b).1 ≡ l ∷ [] → IsPolled logs m id n new (Ok a) → IsLine logs m (command.Poll id n) l new
poll-line logs m id n a b l new e is made = polled logs m id n a l new (ap (λ a. (poll_step m id a).1) e ∙ is) made.0 made.1

pub poll-closed : (logs : Logs) (m : Session) (id n t : ℕ) (e : TargetFail) (new : TargetState) → e ≡ fail.Closed t
    → IsPolled logs m id n new (Err e) → IsLine logs m (command.Poll id n) (line.Closed t) new
poll-closed logs m id n t e new is made =
    closed-line logs m (command.Poll id n) t new refl (subst (λ e. IsPolled logs m id n new (Err e)) is made)

pub stop-line : (logs : Logs) (m : Session) (id n last : ℕ) (a b : PollAnswer) (l : Line) (new : TargetState) → a ≡ b
    → (stop_step m id b).1 ≡ l ∷ [] → IsStopped logs m id n new (Ok a) → IsLine logs m (command.Stop id n last) l new
stop-line logs m id n last a b l new e is made = stopped logs m id n last a l new (ap (λ a. (stop_step m id a).1) e ∙ is) made.0 made.1

pub stop-closed : (logs : Logs) (m : Session) (id n last t : ℕ) (e : TargetFail) (new : TargetState) → e ≡ fail.Closed t
    → IsStopped logs m id n new (Err e) → IsLine logs m (command.Stop id n last) (line.Closed t) new
stop-closed logs m id n last t e new is made =
    closed-line logs m (command.Stop id n last) t new refl (subst (λ e. IsStopped logs m id n new (Err e)) is made)

-- ---- places

pub acknowledged : (logs : Logs) (m : Session) (id place : ℕ) (new : TargetState)
    → (place ≡ (position m id).cursor) × Made logs m (with_position id (acknowledge (position m id)) m) new
    → IsLine logs m (command.Ack id) (line.Ack id place) new
unfolding open_step
acknowledged logs m id place new (at, made) =
    made-line logs m (with_position id (acknowledge (position m id)) m) (command.Ack id) (line.Ack id place) new (opens logs m id place at)
    made
  where
    opens : (logs : Logs) (m : Session) (id place : ℕ) → place ≡ (position m id).cursor
        → open_step logs m (command.Ack id) ≡ (with_position id (acknowledge (position m id)) m, line.Ack id place ∷ [])
    opens logs m id place at = ap (λ p. (with_position id (acknowledge (position m id)) m, line.Ack id p ∷ [])) (sym at)

pub restarted : (logs : Logs) (m : Session) (id place : ℕ) (new : TargetState)
    → (place ≡ (position m id).acknowledged) × Made logs m (with_position id (set_back (position m id)) m) new
    → IsLine logs m (command.Restart id) (line.Restart id place) new
unfolding open_step
restarted logs m id place new (at, made) =
    made-line logs m (with_position id (set_back (position m id)) m) (command.Restart id) (line.Restart id place) new
    (opens logs m id place at) made
  where
    opens : (logs : Logs) (m : Session) (id place : ℕ) → place ≡ (position m id).acknowledged
        → open_step logs m (command.Restart id) ≡ (with_position id (set_back (position m id)) m, line.Restart id place ∷ [])
    opens logs m id place at = ap (λ p. (with_position id (set_back (position m id)) m, line.Restart id p ∷ [])) (sym at)

-- ---- looks

pub safe-line : (logs : Logs) (m : Session) (t : ℕ) (new : TargetState) → t ≡ safe_now logs m → StandsForSession logs m new
    → IsLine logs m command.Safe (line.Safe t) new
unfolding open_step
safe-line logs m t new at = look-line logs m command.Safe (line.Safe t) new refl (opens logs m t at)
  where
    opens : (logs : Logs) (m : Session) (t : ℕ) → t ≡ safe_now logs m → open_step logs m command.Safe ≡ (m, line.Safe t ∷ [])
    opens logs m t at = ap (λ t. (m, line.Safe t ∷ [])) (sym at)

pub read-line : (logs : Logs) (m : Session) (t : ℕ) (k : List ℕ) (value : Option (List ℕ)) (new : TargetState) → t ≡ safe_now logs m
    → value ≡ row logs (safe_now logs m) k → StandsForSession logs m new
    → IsLine logs m (command.Read k) (line.Read t k value) new
unfolding open_step
read-line logs m t k value new at is = look-line logs m (command.Read k) (line.Read t k value) new refl (opens logs m t k value at is)
  where
    opens : (logs : Logs) (m : Session) (t : ℕ) (k : List ℕ) (value : Option (List ℕ)) → t ≡ safe_now logs m
        → value ≡ row logs (safe_now logs m) k → open_step logs m (command.Read k) ≡ (m, line.Read t k value ∷ [])
    opens logs m t k value at is = rw (at, is) refl

later : (a b : ℕ) → a < b → nat_lt a b ≡ true
later a b h = grind (arith, nat_tests)

not-later : (a b : ℕ) → b ≤ a → nat_lt a b ≡ false
not-later a b h = grind (arith, nat_tests)

read-at : (logs : Logs) (m : Session) (u : ℕ) (k : List ℕ) (l : Line) (new : TargetState) → read_at_line logs m u k ≡ l
    → StandsForSession logs m new → IsLine logs m (command.ReadAt u k) l new
unfolding open_step
read-at logs m u k l new is = look-line logs m (command.ReadAt u k) l new refl (opens logs m u k l is)
  where
    opens : (logs : Logs) (m : Session) (u : ℕ) (k : List ℕ) (l : Line) → read_at_line logs m u k ≡ l
        → open_step logs m (command.ReadAt u k) ≡ (m, l ∷ [])
    opens logs m u k l is = ap (λ l. (m, l ∷ [])) is

pub read-at-line : (logs : Logs) (m : Session) (u : ℕ) (k : List ℕ) (value : Option (List ℕ)) (new : TargetState)
    → (m.cutoff ≤ u) × ((u ≤ safe_now logs m) × (value ≡ row logs u k)) → StandsForSession logs m new
    → IsLine logs m (command.ReadAt u k) (line.ReadAt u k value) new
read-at-line logs m u k value new (from, (to, is)) =
    read-at logs m u k (line.ReadAt u k value) new (rw (not-later (safe_now logs m) u to, not-later u m.cutoff from, is) refl)

pub ahead-line : (logs : Logs) (m : Session) (u safe : ℕ) (k : List ℕ) (new : TargetState) → (safe ≡ safe_now logs m) × (safe < u)
    → StandsForSession logs m new → IsLine logs m (command.ReadAt u k) (line.Ahead u safe) new
ahead-line logs m u safe k new (is, past) =
    read-at logs m u k (line.Ahead u safe) new (rw (later (safe_now logs m) u (subst (λ t. t < u) is past), is) refl)

pub pruned-line : (logs : Logs) (m : Session) (u cutoff : ℕ) (k : List ℕ) (new : TargetState)
    → (u ≤ safe_now logs m) × ((cutoff ≡ m.cutoff) × (u < cutoff)) → StandsForSession logs m new
    → IsLine logs m (command.ReadAt u k) (line.Pruned u cutoff) new
pruned-line logs m u cutoff k new (to, (is, before)) =
    read-at logs m u k (line.Pruned u cutoff) new
    (rw (not-later (safe_now logs m) u to, later u m.cutoff (subst (λ t. u < t) is before), is) refl)

-- ---- prunes

pub prune-line : (logs : Logs) (m : Session) (u cutoff : ℕ) (new : TargetState)
    → (u ≤ safe_now logs m) × ((cutoff ≡ max m.cutoff u) × Made logs m (record m { cutoff = max m.cutoff u }) new)
    → IsLine logs m (command.Prune u) (line.Prune cutoff) new
unfolding open_step
prune-line logs m u cutoff new (to, (is, made)) =
    made-line logs m (record m { cutoff = max m.cutoff u }) (command.Prune u) (line.Prune cutoff) new (opens logs m u cutoff to is) made
  where
    opens : (logs : Logs) (m : Session) (u cutoff : ℕ) → u ≤ safe_now logs m → cutoff ≡ max m.cutoff u
        → open_step logs m (command.Prune u) ≡ (record m { cutoff = max m.cutoff u }, line.Prune cutoff ∷ [])
    opens logs m u cutoff to is = rw (not-later (safe_now logs m) u to, is) refl

pub prune-ahead : (logs : Logs) (m : Session) (u safe : ℕ) (new : TargetState)
    → (safe ≡ safe_now logs m) × ((safe < u) × Made logs m m new) → IsLine logs m (command.Prune u) (line.Ahead u safe) new
unfolding open_step
prune-ahead logs m u safe new (is, (past, made)) =
    made-line logs m m (command.Prune u) (line.Ahead u safe) new (opens logs m u safe is past) made
  where
    opens : (logs : Logs) (m : Session) (u safe : ℕ) → safe ≡ safe_now logs m → safe < u
        → open_step logs m (command.Prune u) ≡ (m, line.Ahead u safe ∷ [])
    opens logs m u safe is past = rw (later (safe_now logs m) u (subst (λ t. t < u) is past), is) refl

pub prune-closed : (logs : Logs) (m : Session) (u t : ℕ) (e : PruneFail) (new : TargetState) → e ≡ prune.Closed t
    → IsPruned logs m u new (Err e) → IsLine logs m (command.Prune u) (line.Closed t) new
prune-closed logs m u t e new is made = closed-line logs m (command.Prune u) t new refl (subst (λ e. IsPruned logs m u new (Err e)) is made)

pub prune-early : (logs : Logs) (m : Session) (u safe : ℕ) (e : PruneFail) (new : TargetState) → e ≡ prune.Ahead safe
    → IsPruned logs m u new (Err e) → IsLine logs m (command.Prune u) (line.Ahead u safe) new
prune-early logs m u safe e new is made = prune-ahead logs m u safe new (subst (λ e. IsPruned logs m u new (Err e)) is made)

pub read-early : (logs : Logs) (m : Session) (u safe : ℕ) (k : List ℕ) (e : NotReadable) (new : TargetState) → e ≡ unreadable.Ahead safe
    → IsNotReadable logs m u e → StandsForSession logs m new → IsLine logs m (command.ReadAt u k) (line.Ahead u safe) new
read-early logs m u safe k e new is why = ahead-line logs m u safe k new (subst (IsNotReadable logs m u) is why)

pub read-late : (logs : Logs) (m : Session) (u cutoff : ℕ) (k : List ℕ) (e : NotReadable) (new : TargetState)
    → e ≡ unreadable.Pruned cutoff → IsNotReadable logs m u e → StandsForSession logs m new
    → IsLine logs m (command.ReadAt u k) (line.Pruned u cutoff) new
read-late logs m u cutoff k e new is why = pruned-line logs m u cutoff k new (subst (IsNotReadable logs m u) is why)

-- ---- all rows

no-halt : (rs : List (List ℕ × List ℕ)) → list_any is_halt (map row_line rs) ≡ false
no-halt [] = refl
no-halt (r ∷ rs) = no-halt rs

-- the lines of an open or a closed session's step, which the text spells
pub step-answers : (logs : Logs) (m n : Session) (c : Command) (lines : List Line) (text : List ℕ) (halted : Bool) (new : TargetState)
    → step logs m c ≡ (n, lines) → text ≡ lines_text lines → halted ≡ list_any is_halt lines
    → StandsForSession logs n new → IsAnswer logs m c text halted new
step-answers logs m n c lines text halted new is spelled h stands = record {
  text_is = spelled ∙ ap (λ s. lines_text s.1) (sym is);
  halted_is = h ∙ ap (λ s. list_any is_halt s.1) (sym is);
  stands = subst (λ s. StandsForSession logs s.0 new) (sym is) stands;
}

pub scanned : (logs : Logs) (m : Session) (t count : ℕ) (rs : List (List ℕ × List ℕ)) (text : List ℕ) (halted : Bool) (new : TargetState)
    → t ≡ safe_now logs m → count ≡ length rs → rs ≡ rows logs (safe_now logs m)
    → text ≡ lines_text (line.Scan t count ∷ map row_line rs) → halted ≡ false → StandsForSession logs m new
    → IsAnswer logs m command.Scan text halted new
unfolding open_step
scanned logs m t count rs text halted new at long is spelled h stands =
    step-answers logs m m command.Scan (line.Scan t count ∷ map row_line rs) text halted new (look-step logs m command.Scan refl
    ∙ opens logs m t count rs at long is) spelled (h ∙ sym (no-halt rs)) stands
  where
    opens : (logs : Logs) (m : Session) (t count : ℕ) (rs : List (List ℕ × List ℕ)) → t ≡ safe_now logs m → count ≡ length rs
        → rs ≡ rows logs (safe_now logs m) → open_step logs m command.Scan ≡ (m, line.Scan t count ∷ map row_line rs)
    opens logs m t count rs at long is = rw (at, long, is) refl

pub restored-is : (logs : Logs) (m : Session) (t count : ℕ) (rs : List (List ℕ × List ℕ)) (text : List ℕ) → count ≡ length rs
    → rs ≡ rows logs (safe_now logs m) → text ≡ lines_text (line.Failover t count ∷ map row_line rs)
    → text ≡ lines_text (line.Failover t (length (rows logs (safe_now logs m))) ∷ row_lines logs (safe_now logs m))
restored-is logs m t count rs text long is spelled = spelled ∙ rw (long, is) refl

pub failed-over : (logs : Logs) (m : Session) (t : ℕ) (text : List ℕ) (halted : Bool) (new : TargetState) → t ≡ safe_now logs m
    → Made logs m (record m { closed = Some t }) new
    → text ≡ lines_text (line.Failover t (length (rows logs (safe_now logs m))) ∷ row_lines logs (safe_now logs m)) → halted ≡ false
    → IsAnswer logs m command.Failover text halted new
unfolding open_step
failed-over logs m t text halted new at made spelled h =
    step-answers logs m (record m { closed = Some t }) command.Failover
    (line.Failover t (length (rows logs (safe_now logs m))) ∷ row_lines logs (safe_now logs m)) text halted new
    (is-open logs m command.Failover made.still_open ∙ opens logs m t at) spelled (h
    ∙ sym (no-halt (rows logs (safe_now logs m)))) made.stands
  where
    opens : (logs : Logs) (m : Session) (t : ℕ) → t ≡ safe_now logs m
        → open_step logs m command.Failover ≡
        (record m { closed = Some t }, line.Failover t (length (rows logs (safe_now logs m))) ∷ row_lines logs (safe_now logs m))
    opens logs m t at = rw at refl

-- ---- drains

halts-of : (logs : Logs) (bs : List AcceptedTablet)
    → map halt_line
    (filter_map (λ b. option_map (λ found. record { id = b.header.id; number = found.0; kind = found.1 }) (halt logs b.header.id)) bs)
    ≡ filter_map (λ b. option_map (λ found. line.Halt b.header.id found.0 found.1) (halt logs b.header.id)) bs
halts-of logs [] = refl
halts-of logs (b ∷ bs) =
    elim (halt logs b.header.id) as
    (λ o. map halt_line (cons_option (option_map (λ found. record { id = b.header.id; number = found.0; kind = found.1 }) o)
    (filter_map (λ b. option_map (λ found. record { id = b.header.id; number = found.0; kind = found.1 }) (halt logs b.header.id)) bs))
    ≡ cons_option (option_map (λ found. line.Halt b.header.id found.0 found.1) o)
    (filter_map (λ b. option_map (λ found. line.Halt b.header.id found.0 found.1) (halt logs b.header.id)) bs)) [
      | Some found ↦ ap (λ ls. line.Halt b.header.id found.0 found.1 ∷ ls) (halts-of logs bs)
      | None ↦ halts-of logs bs
    ]

some-length : (h : Halt) (hs : List Halt) → (length (h ∷ hs) == 0) ≡ false
some-length h hs = grind (arith, nat_tests)

any-halt : (hs : List Halt) → list_any is_halt (map halt_line hs) ≡ not (length hs == 0)
any-halt [] = refl
any-halt (h ∷ hs) = ap not (sym (some-length h hs))

pub drained-answers : (logs : Logs) (m : Session) (t : ℕ) (hs : List Halt) (text : List ℕ) (halted : Bool) (new : TargetState)
    → t ≡ safe_now logs (drained logs m) → hs ≡ halts logs → Made logs m (drained logs m) new
    → text ≡ lines_text (line.Drain t ∷ map halt_line hs) → halted ≡ not (length hs == 0) → IsAnswer logs m command.Drain text halted new
unfolding open_step
drained-answers logs m t hs text halted new at is made spelled h =
    step-answers logs m (drained logs m) command.Drain (line.Drain t ∷ map halt_line hs) text halted new
    (is-open logs m command.Drain made.still_open ∙ opens logs m t hs at is) spelled (h ∙ sym (any-halt hs)) made.stands
  where
    opens : (logs : Logs) (m : Session) (t : ℕ) (hs : List Halt) → t ≡ safe_now logs (drained logs m) → hs ≡ halts logs
        → open_step logs m command.Drain ≡ (drained logs m, line.Drain t ∷ map halt_line hs)
    opens logs m t hs at is = rw (at, is, halts-of logs (accepted_tablets logs)) refl

-- ---- legal sessions

pub drained-legal : (logs : Logs) (m : Session) → is_valid logs ≡ true → IsSession logs m → m.closed ≡ None
    → IsSession logs (drained logs m)
unfolding open_step
drained-legal logs m valid legal still_open =
    subst (IsSession logs) (ap (λ (s : Session × List Line). s.0) (is-open logs m command.Drain still_open))
    (steps-keep logs m command.Drain valid legal)

pub closed-legal : (logs : Logs) (m : Session) (t : ℕ) → is_valid logs ≡ true → IsSession logs m → m.closed ≡ None → t ≡ safe_now logs m
    → IsSession logs (record m { closed = Some t })
closed-legal logs m t valid legal still_open at =
    subst (IsSession logs) (failover-closes logs m still_open
    ∙ ap (λ t. record m { closed = Some t }) (sym at)) (steps-keep logs m command.Failover valid legal)

-- ---- what a call tells

-- what follows for the answer of a call that has one
pub ok-then : {A E : Type 0} {P Q : A → Type 0} (r : Result A E) → IfOk r P → ((x : A) → P x → Q x) → IfOk r Q
ok-then (Ok x) h f = f x h
ok-then (Err e) h f = tt

pub told-answers : (logs : Logs) (m : Session) (c : Command) (l : Line) (t : TargetState) (text : List ℕ) (halted : Bool)
    → IsLine logs m c l t → IsTold (Ok l) text halted → IsAnswer logs m c text halted t
told-answers logs m c l t text halted is (other, (e, (spelled, h))) =
    let same : other ≡ l = cc in
    line-answers logs m c l t text halted is (spelled ∙ ap line_text same) (h ∙ ap is_halt same)

-- a command that takes no records leaves the feed
pub kept-alone : (headers : List Header) (counts : List ℕ) (old new : TargetState) → FitsFeed headers counts old → KeepsAlone old new
    → Kept headers counts old new
kept-alone headers counts old new fits kept = record {
  fits = kept.fits headers counts fits;
  targets = sym (length-map new.tablets range_of) ∙ ap length kept.ranges ∙ length-map old.tablets range_of;
}

pub drain-closed : (logs : Logs) (m : Session) (t : ℕ) (e : TargetFail) (new : TargetState) → e ≡ fail.Closed t → IsDrainFail logs m new e
    → IsLine logs m command.Drain (line.Closed t) new
drain-closed logs m t e new is why = closed-line logs m command.Drain t new refl (subst (IsDrainFail logs m new) is why)
