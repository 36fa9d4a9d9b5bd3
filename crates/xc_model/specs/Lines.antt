-- What each line says of the session.
--     is_reached logs s      the source tablet s is a root, or its parent's accepted records end in a split
--     Says logs m n line      what the line says, where the command made the session n of m
--     ReportOf logs n acks closed cursors cutoff places safe      the six parts of a report are what n has
use Rattle.std.specs.Prelude.{◌≡◌, ℕ, ◌+◌, ◌<◌, ◌≤◌, Bool, true, false, List, length, map, Some, is_some}
use Rattle.std.specs.Option.{option_map_or}
use Rattle.xc_record.specs.declared.record.Logs.{Logs}
use Rattle.xc_record.specs.declared.session.Line.{Line}
use Rattle.xc_record.specs.declared.session.Line.TheVariants as line
use Rattle.xc_record.specs.Accepted.{records, parent_of, accepted_tablet, halt}
use Rattle.xc_record.specs.SafeTime.{is_closed}
use Rattle.xc_record.specs.Rows.{rows, row}
use Rattle.xc_record.specs.Session.{Session, position, places_of, safe_now}

pub record ReportOf (logs : Logs) (n : Session) (acks : List ℕ) (closed : Bool) (cursors : List ℕ) (cutoff : ℕ) (places : List ℕ) (safe : ℕ)
    : Type 0 where
  pub acks_are : acks ≡ map (λ p. p.acknowledged) n.positions
  pub closed_is : closed ≡ is_some n.closed
  pub cursors_are : cursors ≡ map (λ p. p.cursor) n.positions
  pub cutoff_is : cutoff ≡ n.cutoff
  pub places_are : places ≡ places_of n
  pub safe_is : safe ≡ safe_now logs n

abbrev pub is_reached : Logs → ℕ → Bool
is_reached logs s = option_map_or (λ b. b.reached) (accepted_tablet logs s) false

abbrev pub Says : Logs → Session → Session → Line → Type 0
-- the parent isn't closed
Says logs m n (line.Wait s parent) = (parent_of logs s ≡ Some parent) × (is_closed logs (places_of n) parent ≡ false)
-- the first record of a reached tablet that isn't accepted, and its break
Says logs m n (line.Halt s number kind) = (halt logs s ≡ Some (number, kind)) × (is_reached logs s ≡ true)
-- the cursor is at the end of the log
Says logs m n (line.AtEnd s) = (position n s).cursor ≡ length (records logs s)
-- the cursor grew by the count
Says logs m n (line.Polled s count) = (position n s).cursor ≡ (position m s).cursor + count
-- the cursor went back to the acknowledged place
Says logs m n (line.Stopped s count) = (position n s).cursor ≡ (position m s).acknowledged
Says logs m n (line.Ack s place) = (position n s).acknowledged ≡ place
Says logs m n (line.Restart s place) = (position n s).cursor ≡ place
-- the session was closed at this time, and the command changed nothing
Says logs m n (line.Closed t) = (m.closed ≡ Some t) × (n ≡ m)
Says logs m n (line.Drain t) = t ≡ safe_now logs n
Says logs m n (line.Saw reader t key value) = value ≡ row logs t key
Says logs m n (line.Safe t) = t ≡ safe_now logs n
Says logs m n (line.Read t key value) = (t ≡ safe_now logs n) × (value ≡ row logs t key)
-- the time is from the cutoff to the safe time
Says logs m n (line.ReadAt u key value) = (n.cutoff ≤ u) × ((u ≤ safe_now logs n) × (value ≡ row logs u key))
Says logs m n (line.Ahead u safe) = (safe ≡ safe_now logs n) × (safe < u)
Says logs m n (line.Pruned u cutoff) = (cutoff ≡ n.cutoff) × (u < cutoff)
Says logs m n (line.Scan t count) = (t ≡ safe_now logs n) × (count ≡ length (rows logs t))
Says logs m n (line.Row key value) = Unit {0}
Says logs m n (line.Prune cutoff) = cutoff ≡ n.cutoff
Says logs m n (line.Failover t count) = (n.closed ≡ Some t) × (count ≡ length (rows logs t))
Says logs m n (line.Report acks closed cursors cutoff places safe) = ReportOf logs n acks closed cursors cutoff places safe
