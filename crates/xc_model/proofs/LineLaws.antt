-- What each line says of the session.
use Rattle.xc_model.proofs.Common.{◌≡◌, ℕ, zero, suc, ◌+◌, ◌<◌, ◌≤◌, max, Bool, true, false, List, [], ◌∷◌, map, length, Option, Some, None}
use Rattle.xc_model.proofs.Common.{refl, ap, sym, arith, nat_lt, slice_get, slice_set, if◌then◌else◌, option_and_then, option_map_or}
use Rattle.xc_model.proofs.Common.{option_map, filter_map, cons_option, nat_tests, length-map, slice_get_within, Logs, Break, Command}
use Rattle.xc_model.proofs.Common.{PollAnswer, AcceptedTablet, accepted_tablets, accepted_tablet, records, halt_from, halt_of, halt, rows}
use Rattle.xc_model.proofs.Common.{row, Position, Session, new_position, position, places_of, safe_now, IsSession, poll_answer}
use Rattle.xc_model.proofs.Common.{with_position, moved, set_back, acknowledge, poll_step, stop_step, drained, read_at_line, prune_step}
use Rattle.xc_model.proofs.Common.{open_step, refuses, is_change, Each}
use Rattle.xc_record.specs.declared.session.Line.{Line}
use Rattle.xc_record.specs.Step.{step}
use Rattle.xc_record.specs.declared.session.Command.TheVariants as command
use Rattle.xc_record.specs.declared.session.Line.TheVariants as line
use Rattle.xc_record.specs.declared.session.PollAnswer.TheVariants as poll
use Rattle.xc_model.{proofs.Parents.length-logs, specs.Lines.Says, specs.Lines.is_reached}
use Rattle.xc_model.specs.Laws.{CutoffsRise, StopsKeepPlaces, LinesNameSessions}
use Rattle.xc_model.proofs.SessionLaws.{places-same, WasPolled, AnswerSays, answer-says}

abbrev either : {A : Type 0} → Bool → A → A → A
either b x y = if b then x else y

-- ---- cutoffs and places

poll-cutoff : (m : Session) (s : ℕ) (a : PollAnswer) → m.cutoff ≤ (poll_step m s a).0.cutoff
poll-cutoff m s (poll.Polled k) = omega arith
poll-cutoff m s _ = omega arith

stop-cutoff : (m : Session) (s : ℕ) (a : PollAnswer) → m.cutoff ≤ (stop_step m s a).0.cutoff
stop-cutoff m s (poll.Polled k) = omega arith
stop-cutoff m s _ = omega arith

prune-cutoff : (logs : Logs) (m : Session) (u : ℕ) → m.cutoff ≤ (prune_step logs m u).0.cutoff
prune-cutoff logs m u = go (nat_lt (safe_now logs m) u)
  where
    go : (b : Bool) → m.cutoff ≤ (either {A = Session × List Line} b (m, line.Ahead u (safe_now logs m) ∷ [])
        (record m { cutoff = max m.cutoff u }, line.Prune (max m.cutoff u) ∷ [])).0.cutoff
    go true = omega arith
    go false = omega arith

open-cutoff : (logs : Logs) (m : Session) (c : Command) → m.cutoff ≤ (open_step logs m c).0.cutoff
unfolding open_step
open-cutoff logs m (command.Poll id n) = poll-cutoff m id (poll_answer logs m id n)
open-cutoff logs m (command.Stop id n last) = stop-cutoff m id (poll_answer logs m id n)
open-cutoff logs m (command.Prune u) = prune-cutoff logs m u
open-cutoff logs m _ = omega arith

pub cutoffs-rise : CutoffsRise
unfolding step
cutoffs-rise logs m c = go (refuses m c)
  where
    go : (o : Option ℕ)
        → m.cutoff ≤ (option_map_or {T = ℕ} {U = Session × List Line} (λ t. (m, line.Closed t ∷ [])) o (open_step logs m c)).0.cutoff
    go None = open-cutoff logs m c
    go (Some t) = omega arith

stop-places : (m : Session) (s : ℕ) (a : PollAnswer) → places_of (stop_step m s a).0 ≡ places_of m
stop-places m s (poll.Polled k) = places-same m s (set_back (position m s)) refl
stop-places m s _ = refl

pub stops-keep : StopsKeepPlaces
unfolding step open_step
stops-keep logs m s n last = (stop m.closed, restart m.closed)
  where
    stop : (o : Option ℕ) → places_of (option_map_or {T = ℕ} {U = Session × List Line} (λ t. (m, line.Closed t ∷ [])) o
        (stop_step m s (poll_answer logs m s n))).0 ≡ places_of m
    stop None = stop-places m s (poll_answer logs m s n)
    stop (Some t) = refl

    restart : (o : Option ℕ) → places_of (option_map_or {T = ℕ} {U = Session × List Line} (λ t. (m, line.Closed t ∷ [])) o
        (with_position s (set_back (position m s)) m, line.Restart s (position m s).acknowledged ∷ [])).0 ≡ places_of m
    restart None = places-same m s (set_back (position m s)) refl
    restart (Some t) = refl

-- ---- the position after a store

abbrev at : List Position → ℕ → Position
at ps s = option_map_or (λ p. p) (slice_get ps s) new_position

position-in : (ps : List Position) (s : ℕ) (p : Position) → s < length ps → at (slice_set ps s p) s ≡ p
position-in [] s p h = absurd (omega arith)
position-in (q ∷ ps) zero p h = refl
position-in (q ∷ ps) (suc s) p h = position-in ps s p (omega arith)

-- past the last one too, where f leaves a new position as it is
position-by : (f : Position → Position) (ps : List Position) (s : ℕ) → f new_position ≡ new_position
    → at (slice_set ps s (f (at ps s))) s ≡ f (at ps s)
position-by f [] s e = sym e
position-by f (q ∷ ps) zero e = refl
position-by f (q ∷ ps) (suc s) e = position-by f ps s e

back-cursor : (m : Session) (s : ℕ) → (position (with_position s (set_back (position m s)) m) s).cursor ≡ (position m s).acknowledged
back-cursor m s = ap (λ (p : Position). p.cursor) (position-by set_back m.positions s refl)

ack-place : (m : Session) (s : ℕ) → (position (with_position s (acknowledge (position m s)) m) s).acknowledged ≡ (position m s).cursor
ack-place m s = ap (λ (p : Position). p.acknowledged) (position-by acknowledge m.positions s refl)

-- ---- the lines of each command

-- only a reached tablet halts
halts-reached : (logs : Logs) (s : ℕ) (found : ℕ × Break) → halt logs s ≡ Some found → is_reached logs s ≡ true
unfolding halt
halts-reached logs s found e = go (accepted_tablet logs s) e
  where
    by-reached : (reached : Bool) (o : Option (ℕ × Break)) → (if reached then o else None) ≡ Some found → reached ≡ true
    by-reached true o w = refl
    by-reached false o w = cc

    go : (o : Option AcceptedTablet) → option_and_then (λ b. halt_of b (records logs s)) o ≡ Some found
        → option_map_or (λ (b : AcceptedTablet). b.reached) o false ≡ true
    go None w = cc
    go (Some b) w = by-reached b.reached (halt_from b.start 1 (records logs s)) w

module _ (logs : Logs) (m : Session) (st : IsSession logs m) where
  moved-cursor : (s n k : ℕ) → WasPolled logs m s n k
      → (position (with_position s (moved k (position m s)) m) s).cursor ≡ (position m s).cursor + k
  moved-cursor s n k w = let a : s < length (accepted_tablets logs) = slice_get_within (accepted_tablets logs) s w.tablet w.there in
      let b = length-logs logs in
      let c : length (places_of m) ≡ length logs.tablets = st.places.count in
      let d = length-map m.positions (λ (p : Position). p.place) in
      ap (λ (p : Position). p.cursor) (position-in m.positions s (moved k (position m s)) (omega arith))

  poll-lines : (s n : ℕ) (a : PollAnswer) → AnswerSays logs m s n a → Each (Says logs m (poll_step m s a).0) (poll_step m s a).1
  poll-lines s n (poll.Polled k) h = (moved-cursor s n k h, tt)
  poll-lines s n (poll.Halted number kind) h = ((h, halts-reached logs s (number, kind) h), tt)
  poll-lines s n _ h = (h, tt)

  stop-lines : (s n : ℕ) (a : PollAnswer) → AnswerSays logs m s n a → Each (Says logs m (stop_step m s a).0) (stop_step m s a).1
  stop-lines s n (poll.Polled k) h = (back-cursor m s, tt)
  stop-lines s n (poll.Halted number kind) h = ((h, halts-reached logs s (number, kind) h), tt)
  stop-lines s n _ h = (h, tt)

  rows-say : (n : Session) (rs : List (List ℕ × List ℕ)) → Each (Says logs m n) (map (λ r. line.Row r.0 r.1) rs)
  rows-say n [] = tt
  rows-say n (r ∷ rs) = (tt, rows-say n rs)

  abbrev halt_line : AcceptedTablet → Option Line
  halt_line b = option_map (λ found. line.Halt b.header.id found.0 found.1) (halt logs b.header.id)

  halts-say : (n : Session) (bs : List AcceptedTablet) → Each (Says logs m n) (filter_map halt_line bs)
  halts-say n [] = tt
  halts-say n (b ∷ bs) = go (halts-say n bs) (halt logs b.header.id) refl
    where
      go : Each (Says logs m n) (filter_map halt_line bs) → (o : Option (ℕ × Break)) → halt logs b.header.id ≡ o
          → Each (Says logs m n) (cons_option (option_map (λ found. line.Halt b.header.id found.0 found.1) o) (filter_map halt_line bs))
      go ih None e = ih
      go ih (Some found) e = ((e, halts-reached logs b.header.id found e), ih)

  read-line : (u : ℕ) (key : List ℕ) → Each (Says logs m m) (read_at_line logs m u key ∷ [])
  read-line u key = go (nat_lt (safe_now logs m) u) refl (nat_lt u m.cutoff) refl
    where
      go : (a : Bool) → nat_lt (safe_now logs m) u ≡ a → (b : Bool) → nat_lt u m.cutoff ≡ b → Each (Says logs m m)
          ((if a then line.Ahead u (safe_now logs m) else (if b then line.Pruned u m.cutoff else line.ReadAt u key (row logs u key))) ∷ [])
      go true e b f = ((refl, (let w : safe_now logs m < u = grind (arith, nat_tests) in w)), tt)
      go false e true f = ((refl, (let w : u < m.cutoff = grind (arith, nat_tests) in w)), tt)
      go false e false f = (
        ((let w : m.cutoff ≤ u = grind (arith, nat_tests) in w), ((let w : u ≤ safe_now logs m = grind (arith, nat_tests) in w), refl)),
        tt,
      )

  prune-line : (u : ℕ) → Each (Says logs m (prune_step logs m u).0) (prune_step logs m u).1
  prune-line u = go (nat_lt (safe_now logs m) u) refl
    where
      go : (b : Bool) → nat_lt (safe_now logs m) u ≡ b
          → (let x = either {A = Session × List Line} b (m, line.Ahead u (safe_now logs m) ∷ [])
          (record m { cutoff = max m.cutoff u }, line.Prune (max m.cutoff u) ∷ []) in Each (Says logs m x.0) x.1)
      go true e = ((refl, (let w : safe_now logs m < u = grind (arith, nat_tests) in w)), tt)
      go false e = (refl, tt)

  open-lines : (c : Command) → Each (Says logs m (open_step logs m c).0) (open_step logs m c).1
  unfolding open_step
  open-lines (command.Poll id n) = poll-lines id n (poll_answer logs m id n) (answer-says logs m id n st.places.count)
  open-lines (command.Stop id n last) = stop-lines id n (poll_answer logs m id n) (answer-says logs m id n st.places.count)
  open-lines (command.Ack id) = (ack-place m id, tt)
  open-lines (command.Restart id) = (back-cursor m id, tt)
  open-lines command.Drain = (refl, halts-say (drained logs m) (accepted_tablets logs))
  open-lines command.Safe = (refl, tt)
  open-lines (command.Read key) = ((refl, refl), tt)
  open-lines (command.ReadAt u key) = read-line u key
  open-lines command.Scan = ((refl, refl), rows-say m (rows logs (safe_now logs m)))
  open-lines (command.Prune u) = prune-line u
  open-lines command.Failover = ((refl, refl), rows-say (record m { closed = Some (safe_now logs m) }) (rows logs (safe_now logs m)))
  open-lines command.Report =
      (record { acks_are = refl; closed_is = refl; cursors_are = refl; cutoff_is = refl; places_are = refl; safe_is = refl }, tt)

-- where a command is refused, the session is closed
refused-closed : (m : Session) (t : ℕ) (b : Bool) → (if b then m.closed else None) ≡ Some t → m.closed ≡ Some t
refused-closed m t true e = e
refused-closed m t false e = cc

pub lines-name : LinesNameSessions
unfolding step
lines-name logs m c st = go (refuses m c) refl
  where
    go : (o : Option ℕ) → refuses m c ≡ o
        → (let x = option_map_or {T = ℕ} {U = Session × List Line} (λ t. (m, line.Closed t ∷ [])) o (open_step logs m c) in Each
        (Says logs m x.0) x.1)
    go None e = open-lines logs m st c
    go (Some t) e = ((refused-closed m t (is_change c) e, refl), tt)
