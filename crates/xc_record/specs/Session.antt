-- The replication session over the logs: how far each source tablet was polled.
--     Position      of one source tablet: its place, its cursor and its acknowledged place
--     Session      a position for each source tablet; a cutoff; the time at which it was closed, if it was
--     start logs      the session that nothing was asked of yet: open, with all numbers 0
--     safe_now logs m      the safe time of the session: that of its places
--     IsSession logs m      the numbers stand in order, the cutoff is at most the safe time, and a closed session was closed at it
use Rattle.std.specs.Prelude.{◌≡◌, ℕ, ◌≤◌, List, Option, None, MatchOption, length, map, replicate, slice_get}
use Rattle.std.specs.Option.{option_map_or}
use Rattle.std.specs.List.{AllByRecursion}
use Rattle.xc_record.specs.declared.record.Logs.{Logs}
use Rattle.xc_record.specs.SafeTime.{IsPlaces, safe_time}

pub record Position : Type 0 where
  -- how many accepted records were applied
  pub place : ℕ
  -- how many records the next poll begins after
  pub cursor : ℕ
  -- where polls begin again after a restart
  pub acknowledged : ℕ

pub record Session : Type 0 where
  -- of each source tablet, by number
  pub positions : List Position
  -- before this time no history is kept
  pub cutoff : ℕ
  -- the time that it was closed at
  pub closed : Option ℕ

abbrev pub new_position : Position
new_position = record { place = 0; cursor = 0; acknowledged = 0 }

abbrev pub start : Logs → Session
start logs = record { positions = replicate (length logs.tablets) new_position; cutoff = 0; closed = None }

abbrev pub places_of : Session → List ℕ
places_of m = map (λ p. p.place) m.positions

abbrev pub position : Session → ℕ → Position
position m s = option_map_or (λ p. p) (slice_get m.positions s) new_position

abbrev pub safe_now : Logs → Session → ℕ
safe_now logs m = safe_time logs (places_of m)

pub record IsInOrder (p : Position) : Type 0 where
  pub cursor : p.cursor ≤ p.place
  pub acknowledged : p.acknowledged ≤ p.cursor

pub record IsSession (logs : Logs) (m : Session) : Type 0 where
  pub places : IsPlaces logs (places_of m)
  pub order : AllByRecursion IsInOrder m.positions
  pub cutoff : m.cutoff ≤ safe_now logs m
  -- polls stop once it is closed, so the safe time stays the one that it was closed at
  pub closed : MatchOption m.closed (Unit {0}) (λ t. t ≡ safe_now logs m)
