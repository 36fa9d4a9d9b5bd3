-- When a target stands for a session.
--     IsAhead logs m x      the tablet stands for the logs, at the places of the session or further on
--     Polls logs m b p      the poller p of the source tablet b knows what the logs give at its place
--     StandsForSession logs m t      the target is what the session says
use Rattle.std.specs.Prelude.{◌≡◌, ℕ, ◌≤◌, true, false, List, Option, None, Some, map, slice_index, slice_get}
use Rattle.std.specs.List.{AllByRecursion}
use Rattle.xc_record.specs.declared.record.Logs.{Logs}
use Rattle.xc_record.specs.Accepted.{AcceptedTablet, accepted_tablet}
use Rattle.xc_record.specs.SafeTime.{is_started}
use Rattle.xc_record.specs.Session.{Session, places_of}
use Rattle.xc_record.specs.Valid.{is_valid}
use Rattle.xc_model.specs.Stands.{TargetTablet, StandsFor as TabletStandsFor, RestoredTo}
use Rattle.xc_poller.specs.Poller.{PollerState, position_of, new_poller, StandsFor as PollerStandsFor}
use Rattle.xc_target.specs.Target.{TargetState}

pub record IsAhead (logs : Logs) (m : Session) (x : TargetTablet) : Type 0 where
  pub stands : TabletStandsFor logs m.cutoff x
  pub places : (s : ℕ) → slice_index (places_of m) s ≤ slice_index x.places s

-- restored to t from a tablet that was as in an open session
pub record WasAhead (logs : Logs) (m : Session) (t : ℕ) (x : TargetTablet) : Type 0 where
  pub before : TargetTablet
  pub ahead : IsAhead logs m before
  pub restored : RestoredTo logs m.cutoff t before x

abbrev pub AreKept : Logs → Session → Option ℕ → List TargetTablet → Type 0
AreKept logs m None xs = AllByRecursion (IsAhead logs m) xs
AreKept logs m (Some t) xs = AllByRecursion (WasAhead logs m t) xs

pub record Polls (logs : Logs) (m : Session) (b : AcceptedTablet) (p : PollerState) : Type 0 where
  pub header : p.header ≡ b.header
  -- of a root, or of a child whose parent is closed
  pub opened : p.is_open ≡ is_started logs (places_of m) b.header.parent
  pub waits : p.is_open ≡ false → p ≡ new_poller b.header
  -- what was delivered was found in order
  pub found : p.applied ≤ p.reader.checked
  pub stands : p.is_open ≡ true → PollerStandsFor logs p b

pub record StandsForSession (logs : Logs) (m : Session) (t : TargetState) : Type 0 where
  pub valid : is_valid logs ≡ true
  pub cutoff : t.cutoff ≡ m.cutoff
  pub closed : t.closed ≡ m.closed
  pub positions : map position_of t.pollers ≡ m.positions
  pub pollers : (s : ℕ) (b : AcceptedTablet) (p : PollerState) → accepted_tablet logs s ≡ Some b → slice_get t.pollers s ≡ Some p
      → Polls logs m b p
  pub tablets : AreKept logs m m.closed t.tablets
