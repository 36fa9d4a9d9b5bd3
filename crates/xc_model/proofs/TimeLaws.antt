-- The times that a session names, along its commands.
use Rattle.xc_model.proofs.Common.{◌≡◌, ℕ, ◌≤◌, max, Bool, true, false, List, [], ◌∷◌, ◌++◌, map, Option, Some, None, refl, ap, sym, ◌∙◌}
use Rattle.xc_model.proofs.Common.{arith, subst, ◌⊎◌, inl, inr, ⊎_elim, nat_lt, if◌then◌else◌, MatchOption, option_map_or, option_map}
use Rattle.xc_model.proofs.Common.{filter_map, cons_option, filter_map-append, Logs, Break, Command, PollAnswer, AcceptedTablet}
use Rattle.xc_model.proofs.Common.{accepted_tablets, halt, Session, IsSession, safe_now, rows, row, poll_answer, poll_step, stop_step}
use Rattle.xc_model.proofs.Common.{drained, read_at_line, prune_step, open_step, refuses, lines_from, Each, Each-append}
use Rattle.xc_record.specs.declared.session.Line.{Line}
use Rattle.xc_record.specs.Step.{step}
use Rattle.xc_record.specs.declared.session.Command.TheVariants as command
use Rattle.xc_record.specs.declared.session.Line.TheVariants as line
use Rattle.xc_record.specs.declared.session.PollAnswer.TheVariants as poll
use Rattle.xc_model.specs.Sessions.{named, named_times, IsRising}
use Rattle.xc_model.specs.Laws.{FailoverCloses, NamedTimesRise, ClosedStays, ClosedTimesStay}
use Rattle.xc_model.proofs.SessionLaws.{either, steps-keep, steps-rise, stays-closed, is-open}

-- lines name no time, or t alone
abbrev Names : ℕ → List Line → Type 0
Names t ls = (named_times ls ≡ []) ⊎ (named_times ls ≡ t ∷ [])

poll-names : (m : Session) (s t : ℕ) (a : PollAnswer) → Names t (poll_step m s a).1
poll-names m s t (poll.Polled k) = inl refl
poll-names m s t _ = inl refl

stop-names : (m : Session) (s t : ℕ) (a : PollAnswer) → Names t (stop_step m s a).1
stop-names m s t (poll.Polled k) = inl refl
stop-names m s t _ = inl refl

row-names : (rs : List (List ℕ × List ℕ)) → named_times (map (λ r. line.Row r.0 r.1) rs) ≡ []
row-names [] = refl
row-names (r ∷ rs) = row-names rs

abbrev halts_of : Logs → List AcceptedTablet → List Line
halts_of logs bs = filter_map (λ b. option_map (λ found. line.Halt b.header.id found.0 found.1) (halt logs b.header.id)) bs

halt-names : (logs : Logs) (bs : List AcceptedTablet) → named_times (halts_of logs bs) ≡ []
halt-names logs [] = refl
halt-names logs (b ∷ bs) = go (halt-names logs bs) (halt logs b.header.id)
  where
    go : named_times (halts_of logs bs) ≡ [] → (o : Option (ℕ × Break))
        → named_times (cons_option (option_map (λ found. line.Halt b.header.id found.0 found.1) o) (halts_of logs bs)) ≡ []
    go ih None = ih
    go ih (Some found) = ih

read-names : (logs : Logs) (m : Session) (u : ℕ) (key : List ℕ) → named_times (read_at_line logs m u key ∷ []) ≡ []
read-names logs m u key = go (nat_lt (safe_now logs m) u) (nat_lt u m.cutoff) (row logs u key)
  where
    go : (a b : Bool) (v : Option (List ℕ))
        → named_times ((if a then line.Ahead u (safe_now logs m) else (if b then line.Pruned u m.cutoff else line.ReadAt u key v)) ∷ []) ≡
        []
    go true b v = refl
    go false true v = refl
    go false false v = refl

prune-names : (logs : Logs) (m : Session) (u : ℕ) → named_times (prune_step logs m u).1 ≡ []
prune-names logs m u = elim (nat_lt (safe_now logs m) u) as (λ b. named_times
    (either b (m, line.Ahead u (safe_now logs m) ∷ []) (record m { cutoff = max m.cutoff u }, line.Prune (max m.cutoff u) ∷ [])).1 ≡
    []) [ true ↦ refl | false ↦ refl ]

-- the lines of a command name the safe time after it, if any
open-names : (logs : Logs) (m : Session) (c : Command) → Names (safe_now logs (open_step logs m c).0) (open_step logs m c).1
unfolding open_step
open-names logs m (command.Poll id n) = poll-names m id _ (poll_answer logs m id n)
open-names logs m (command.Stop id n last) = stop-names m id _ (poll_answer logs m id n)
open-names logs m command.Drain = inr (ap (λ w. safe_now logs (drained logs m) ∷ w) (halt-names logs (accepted_tablets logs)))
open-names logs m command.Safe = inr refl
open-names logs m (command.Read key) = inr refl
open-names logs m (command.ReadAt t key) = inl (read-names logs m t key)
open-names logs m command.Scan = inr (ap (λ w. safe_now logs m ∷ w) (row-names (rows logs (safe_now logs m))))
open-names logs m (command.Prune t) = inl (prune-names logs m t)
open-names logs m command.Failover = inr (ap (λ w. safe_now logs m ∷ w) (row-names (rows logs (safe_now logs m))))
open-names logs m _ = inl refl

step-names : (logs : Logs) (m : Session) (c : Command) → Names (safe_now logs (step logs m c).0) (step logs m c).1
unfolding step
step-names logs m c = go (refuses m c)
  where
    go : (o : Option ℕ)
        → Names (safe_now logs (option_map_or {T = ℕ} {U = Session × List Line} (λ t. (m, line.Closed t ∷ [])) o (open_step logs m c)).0)
        (option_map_or {T = ℕ} {U = Session × List Line} (λ t. (m, line.Closed t ∷ [])) o (open_step logs m c)).1
    go None = open-names logs m c
    go (Some t) = inl refl

lower : (a b : ℕ) (ts : List ℕ) → a ≤ b → IsRising b ts → IsRising a ts
lower a b [] h r = tt
lower a b (t ∷ ts) h r = ((let q : b ≤ t = r.0 in omega arith), r.1)

pub named-times-rise : NamedTimesRise
named-times-rise logs m [] valid st = tt
named-times-rise logs m (c ∷ commands) valid st = let n = (step logs m c).0 in let lines = (step logs m c).1 in
    let up : safe_now logs m ≤ safe_now logs n = steps-rise logs m c valid st in
    let rest : IsRising (safe_now logs n) (named_times (lines_from logs n commands)) =
    named-times-rise logs n commands valid (steps-keep logs m c valid st) in
    subst (IsRising (safe_now logs m)) (sym (filter_map-append named lines (lines_from logs n commands)))
    (⊎_elim
    (λ e. subst (λ w. IsRising (safe_now logs m) (w ++ named_times (lines_from logs n commands))) (sym e)
    (lower (safe_now logs m) (safe_now logs n) (named_times (lines_from logs n commands)) up rest))
    (λ e. subst (λ w. IsRising (safe_now logs m) (w ++ named_times (lines_from logs n commands))) (sym e) (up, rest)) (step-names logs m c))

-- ---- a closed session

pub closed-stays : ClosedStays
closed-stays logs m c t e = stays-closed logs m c t e

pub failover-closes : FailoverCloses
unfolding open_step
failover-closes logs m e = ap (λ (w : Session × List Line). w.0) (is-open logs m command.Failover e)

-- the time of a closed session
closing-time : (logs : Logs) (m : Session) (t : ℕ) → IsSession logs m → m.closed ≡ Some t → safe_now logs m ≡ t
closing-time logs m t st e = sym (subst (λ o. MatchOption o (Unit {0}) (λ v. v ≡ safe_now logs m)) e st.closed)

names-same : (t v : ℕ) (ls : List Line) → v ≡ t → Names v ls → Each (λ w. w ≡ t) (named_times ls)
names-same t v ls e n = ⊎_elim (λ none. subst (Each (λ w. w ≡ t)) (sym none) tt) (λ one. subst (Each (λ w. w ≡ t)) (sym one) (e, tt)) n

pub closed-times : ClosedTimesStay
closed-times logs m [] t st e = tt
closed-times logs m (c ∷ commands) t st e = let same : (step logs m c).0 ≡ m = stays-closed logs m c t e in let lines = (step logs m c).1 in
    let time : safe_now logs (step logs m c).0 ≡ t = ap (safe_now logs) same ∙ closing-time logs m t st e in
    subst (Each (λ w. w ≡ t)) (sym (filter_map-append named lines (lines_from logs (step logs m c).0 commands)))
    (Each-append (λ w. w ≡ t) (named_times lines) (named_times (lines_from logs (step logs m c).0 commands))
    (names-same t (safe_now logs (step logs m c).0) lines time (step-names logs m c))
    (subst (λ n. Each (λ w. w ≡ t) (named_times (lines_from logs n commands))) (sym same) (closed-times logs m commands t st e)))
