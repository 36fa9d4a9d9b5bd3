-- What each call of a target makes of the session that it stands for, and what it answers.
use Rattle.std.specs.Prelude.{◌≡◌, ℕ, ◌+◌, ◌<◌, ◌≤◌, max, true, false, List, [], ◌∷◌, Option, None, Some, Result, Ok, Err, slice_get}
use Rattle.std.specs.Prelude.{slice_index, length, map, IsErrOf}
use Rattle.std.specs.List.{filter_map}
use Rattle.std.specs.Option.{option_map, option_map_or}
use Rattle.xc_record.specs.declared.record.Break.{Break}
use Rattle.xc_record.specs.declared.record.Logs.{Logs}
use Rattle.xc_record.specs.declared.record.Record.{Record}
use Rattle.xc_record.specs.declared.session.PollAnswer.{PollAnswer}
use Rattle.xc_record.specs.declared.session.PollAnswer.TheVariants as poll
use Rattle.xc_record.specs.SafeTime.{is_started}
use Rattle.xc_record.specs.Session.{Session, position, places_of, safe_now}
use Rattle.xc_record.specs.Step.{with_position, acknowledge, set_back, poll_answer, poll_step, stop_step, drained_to}
use Rattle.xc_record.specs.Accepted.{AcceptedTablet, accepted_tablets, halt}
use Rattle.xc_record.specs.declared.record.Header.{Header}
use Rattle.xc_logs.specs.Feed.{SameFeed, CountsFault}
use Rattle.xc_model.specs.Rows.{range_of}
use Rattle.xc_change.specs.declared.batch.NextFail.{NextFail}
use Rattle.xc_change.specs.declared.batch.NextFail.TheVariants as next
use Rattle.xc_poller.specs.Poller.{PollerState}
use Rattle.xc_poller.specs.Polled.{TookFirst}
use Rattle.xc_target.specs.declared.answers.Closed.{Closed}
use Rattle.xc_target.specs.declared.answers.Halt.{Halt}
use Rattle.xc_retain.specs.declared.retention.NotReadable.{NotReadable}
use Rattle.xc_retain.specs.declared.retention.NotReadable.TheVariants.{Ahead, Pruned}
use Rattle.xc_target.specs.declared.answers.PruneFail.{PruneFail}
use Rattle.xc_target.specs.declared.answers.PruneFail.TheVariants as prune
use Rattle.xc_target.specs.declared.answers.TargetFail.{TargetFail}
use Rattle.xc_target.specs.declared.answers.TargetFail.TheVariants as fail
use Rattle.xc_target.specs.Target.{TargetState, FitsFeed}
use Rattle.xc_target.specs.Stands.{StandsForSession}

-- what a call on a feed keeps, as these show the feed: the target fits it, its tablets have their ranges, and its session is open or closed
-- as before
pub record Keeps {Of : Type 0} (headers : Of → List Header) (counts : Of → List ℕ) (logs : Of → Option Logs) (faults : Of → ℕ)
    (before after : Of) (old new : TargetState) : Type 0 where
  pub fits : FitsFeed (headers after) (counts after) new
  pub ranges : map range_of new.tablets ≡ map range_of old.tablets
  pub closed : new.closed ≡ old.closed
  pub feed : SameFeed headers counts logs faults before after

-- what a call that asks no feed keeps: the target fits each feed that it fitted, and its tablets have their ranges
pub record KeepsAlone (old new : TargetState) : Type 0 where
  pub fits : (headers : List Header) (counts : List ℕ) → FitsFeed headers counts old → FitsFeed headers counts new
  pub ranges : map range_of new.tablets ≡ map range_of old.tablets

-- how a call on a feed fails: it is refused exactly where the session is closed, and leaves the target as it is; a read fault has its cause
-- in the feed, whose count of faults was `before` and is `after`
pub record Fails {A : Type 0} (before after : ℕ) (old new : TargetState) (result : Result A TargetFail) : Type 0 where
  pub refused : (t : ℕ) → old.closed ≡ Some t → IsErrOf result (fail.Closed t) × (new ≡ old)
  pub refusal : (t : ℕ) → IsErrOf result (fail.Closed t) → old.closed ≡ Some t
  pub fault : CountsFault (IsErrOf result fail.ReadFault) before after

-- a closed session stays as it is
pub record Refused (logs : Logs) (m : Session) (t : ℕ) (new : TargetState) : Type 0 where
  pub closed : m.closed ≡ Some t
  pub stands : StandsForSession logs m new

-- an open session became n
pub record Made (logs : Logs) (m n : Session) (new : TargetState) : Type 0 where
  pub still_open : m.closed ≡ None
  pub stands : StandsForSession logs n new

abbrev pub IsAcknowledged : Logs → Session → ℕ → TargetState → Result ℕ Closed → Type 0
IsAcknowledged logs m id new (Ok place) = (place ≡ (position m id).cursor)
    × Made logs m (with_position id (acknowledge (position m id)) m) new
IsAcknowledged logs m id new (Err e) = Refused logs m e.t new

abbrev pub IsRestarted : Logs → Session → ℕ → TargetState → Result ℕ Closed → Type 0
IsRestarted logs m id new (Ok place) = (place ≡ (position m id).acknowledged)
    × Made logs m (with_position id (set_back (position m id)) m) new
IsRestarted logs m id new (Err e) = Refused logs m e.t new

-- why the time u can't be read
abbrev pub IsNotReadable : Logs → Session → ℕ → NotReadable → Type 0
IsNotReadable logs m u (Ahead safe) = (safe ≡ safe_now logs m) × (safe < u)
IsNotReadable logs m u (Pruned cutoff) = (u ≤ safe_now logs m) × ((cutoff ≡ m.cutoff) × (u < cutoff))

abbrev pub IsPruned : Logs → Session → ℕ → TargetState → Result ℕ PruneFail → Type 0
IsPruned logs m u new (Ok cutoff) = (u ≤ safe_now logs m)
    × ((cutoff ≡ max m.cutoff u) × Made logs m (record m { cutoff = max m.cutoff u }) new)
IsPruned logs m u new (Err (prune.Closed t)) = Refused logs m t new
IsPruned logs m u new (Err (prune.Ahead safe)) = (safe ≡ safe_now logs m) × ((safe < u) × Made logs m m new)

abbrev pub IsClosed : Logs → Session → TargetState → Result ℕ Closed → Type 0
IsClosed logs m new (Ok t) = (t ≡ safe_now logs m) × Made logs m (record m { closed = Some t }) new
IsClosed logs m new (Err e) = Refused logs m e.t new

-- a poller's failure, as the target tells it
abbrev pub fail_of : NextFail → TargetFail
fail_of next.ReadFault = fail.ReadFault
fail_of next.NoMemory = fail.NoMemory

abbrev pub IsPolled : Logs → Session → ℕ → ℕ → TargetState → Result PollAnswer TargetFail → Type 0
IsPolled logs m id n new (Ok answer) = (answer ≡ poll_answer logs m id n) × Made logs m (poll_step m id answer).0 new
IsPolled logs m id n new (Err (fail.Closed t)) = Refused logs m t new
IsPolled logs m id n new (Err fail.ReadFault) = Made logs m m new
IsPolled logs m id n new (Err fail.NoMemory) = Made logs m m new

abbrev pub IsStopped : Logs → Session → ℕ → ℕ → TargetState → Result PollAnswer TargetFail → Type 0
IsStopped logs m id n new (Ok answer) = (answer ≡ poll_answer logs m id n) × Made logs m (stop_step m id answer).0 new
IsStopped logs m id n new (Err (fail.Closed t)) = Refused logs m t new
IsStopped logs m id n new (Err fail.ReadFault) = Made logs m m new
IsStopped logs m id n new (Err fail.NoMemory) = Made logs m m new

-- ---- a drain

-- the halt of the source tablet s at a record of this number and kind of break
abbrev pub halt_named : ℕ → ℕ × Break → Halt
halt_named s found = record { id = s; number = found.0; kind = found.1 }

-- the halt that the answer of a poll of the source tablet s names
abbrev pub halted_at : ℕ → PollAnswer → Option Halt
halted_at s (poll.Polled k) = None
halted_at s (poll.Waits parent) = None
halted_at s poll.AtEnd = None
halted_at s (poll.Halted number kind) = Some (halt_named s (number, kind))

-- the first record of the source tablet s that isn't accepted, where it is reached
abbrev pub halt_at : Logs → ℕ → Option Halt
halt_at logs s = option_map (halt_named s) (halt logs s)

-- the source tablets that are halted, by number
abbrev pub halts : Logs → List Halt
halts logs = filter_map (λ b. halt_at logs b.header.id) (accepted_tablets logs)

-- after one poll of at most n records of each of these source tablets, in order
abbrev pub polled_on : Logs → ℕ → List ℕ → Session → Session
polled_on logs n [] m = m
polled_on logs n (id ∷ ids) m = polled_on logs n ids (poll_step m id (poll_answer logs m id n)).0

-- some polls were made of at most 64 records each
abbrev pub ArePolls : Logs → Session → TargetState → Type 0
ArePolls logs m new = (ids : List ℕ) × Made logs m (polled_on logs 64 ids m) new

-- the source tablet s, of which b is accepted, was polled until nothing was left to deliver; one that waits for its parent is
-- as before
pub record IsDrainedOne (logs : Logs) (m : Session) (s : ℕ) (b : AcceptedTablet) (new : TargetState) (found : Option Halt) : Type 0
  where
    pub started : is_started logs (places_of m) b.header.parent ≡ true
        → (found ≡ halt_at logs s) × Made logs m (with_position s (drained_to b (position m s)) m) new
    pub waits : is_started logs (places_of m) b.header.parent ≡ false → (found ≡ None) × Made logs m m new

-- why a drain didn't come to its end: the polls that it made so far stand
abbrev pub IsDrainFail : Logs → Session → TargetState → TargetFail → Type 0
IsDrainFail logs m new (fail.Closed t) = Refused logs m t new
IsDrainFail logs m new fail.ReadFault = ArePolls logs m new
IsDrainFail logs m new fail.NoMemory = ArePolls logs m new

-- ---- any feed

-- how many records the next poll of the source tablet begins after
abbrev pub cursor_at : TargetState → ℕ → ℕ
cursor_at t id = option_map_or (λ p. p.reader.cursor) (slice_get t.pollers id) 0

-- a poll that delivers records moves the cursor on by as many, and not past those that the feed has
abbrev pub MovesOn : List ℕ → ℕ → TargetState → TargetState → PollAnswer → Type 0
MovesOn counts id old new (poll.Polled k) =
    (1 ≤ k) × ((cursor_at new id ≡ cursor_at old id + k) × (cursor_at new id ≤ slice_index counts id))
MovesOn counts id old new (poll.Waits parent) = Unit {0}
MovesOn counts id old new poll.AtEnd = Unit {0}
MovesOn counts id old new (poll.Halted number kind) = Unit {0}

-- records of the source tablet went to the target tablets 0 to last alone, as many as a poll told that was cut off
abbrev pub GaveFirst : ℕ → ℕ → TargetState → TargetState → PollAnswer → Type 0
GaveFirst id last old new (poll.Polled k) =
    (p : PollerState) × ((from : ℕ) × ((rs : List Record) × ((slice_get old.pollers id ≡ Some p) × ((k ≡ length rs)
    × TookFirst p.header.id from rs (last + 1) old.tablets new.tablets))))
GaveFirst id last old new (poll.Waits parent) = new.tablets ≡ old.tablets
GaveFirst id last old new poll.AtEnd = new.tablets ≡ old.tablets
GaveFirst id last old new (poll.Halted number kind) = new.tablets ≡ old.tablets
