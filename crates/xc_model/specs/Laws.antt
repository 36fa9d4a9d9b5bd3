-- The laws of the model, each the contract of one function of the crate.
use Rattle.std.specs.Prelude.{◌↔◌, ◌≡◌, ◌≢◌, ℕ, ◌+◌, ◌-◌, ◌<◌, ◌≤◌, max, true, ◌||◌, List, [], ◌∷◌, ◌++◌, Some, None, length, map, take}
use Rattle.std.specs.Prelude.{drop, slice_get, slice_index}
use Rattle.std.specs.List.{AllByRecursion, list_any}
use Rattle.xc_record.specs.declared.record.Logs.{Logs}
use Rattle.xc_record.specs.declared.record.Record.{Record}
use Rattle.xc_record.specs.Accepted.{AcceptedTablet, accepted, accepted_tablet}
use Rattle.xc_record.specs.Agreement.{Disagreement, disagreement, Agrees, IsCase, IsFirstCase, StragglesAt, straggler}
use Rattle.xc_record.specs.Rows.{row, rows}
use Rattle.std.specs.Ordering.{nat_cmp}
use Rattle.std.specs.Cmp.Lexicographic.{slice_cmp}
use Rattle.std.specs.FinMap.Entries.{where_key}
use Rattle.xc_record.specs.Valid.{is_valid, headers_of}
use Rattle.xc_record.specs.declared.session.Command.{Command}
use Rattle.xc_record.specs.declared.session.Command.TheVariants as command
use Rattle.xc_record.specs.Session.{Session, IsSession, places_of, safe_now, start}
use Rattle.xc_record.specs.Step.{step, lines_from}
use Rattle.xc_record.specs.SafeTime.{safe_time, IsPlaces}
use Rattle.xc_record.specs.Kept.{read}
use Rattle.xc_record.specs.Order.{is_split}
use Rattle.xc_record.specs.Bounds.{IsPartition}
use Rattle.xc_model.specs.Floors.{Floors, FloorsFor, has_closed, has_started, least_kept}
use Rattle.xc_model.specs.Rows.{range_of, all_rows}
use Rattle.xc_model.specs.Sessions.{named_times, IsRising}
use Rattle.xc_model.specs.Lines.{Says}
use Rattle.xc_model.specs.Stands.{TargetTablet, in_range, kept_at, rows_shown, StandsFor, covers, new_tablet, KeepsFrom, restore}
use Rattle.xc_model.specs.Stands.{RestoredTo, TakesIn, TakesAll, TakesBatch, past}

-- For logs that agree, a read at a time from the cutoff to what the tablet covers is the row of the logs at that time.
abbrev pub ReadsShowRows : Type 0
ReadsShowRows = (logs : Logs) (x : TargetTablet) (u t : ℕ) (k : List ℕ) → StandsFor logs u x → disagreement logs ≡ None → u ≤ t
    → t ≤ covers logs x → in_range x k ≡ true → read t (kept_at x k) ≡ row logs t k

-- The whole list of rows that a tablet shows is the list of the logs' rows at that time, in byte order, of the keys of its range.
abbrev pub ReadsShowLists : Type 0
ReadsShowLists = (logs : Logs) (x : TargetTablet) (u t : ℕ) → StandsFor logs u x → disagreement logs ≡ None → u ≤ t → t ≤ covers logs x
    → rows_shown t x ≡ where_key (slice_cmp nat_cmp) (in_range x) (rows logs t)

-- In well-formed logs no disagreement is found exactly where no case of disagreement stands at any key: the keys of a transaction's own
-- operations are enough.
abbrev pub KeysSuffice : Type 0
KeysSuffice = (logs : Logs) → is_valid logs ≡ true → (disagreement logs ≡ None → Agrees logs) × (Agrees logs → disagreement logs ≡ None)

-- In well-formed logs the disagreement that is found is the first case that stands: of the least transaction, then of the least tablet,
-- then of the first kind; and none is found exactly where none stands.
abbrev pub FirstCaseIsFound : Type 0
FirstCaseIsFound = (logs : Logs) → is_valid logs ≡ true
    → ((d : Disagreement)
    → (disagreement logs ≡ Some d) ↔ IsFirstCase logs d) × ((disagreement logs ≡ None) ↔ ((d : Disagreement) → IsCase logs d → ⊥))

-- Tablet by tablet, a straggler is found exactly where one stands at some key.
abbrev pub StragglersAreFound : Type 0
StragglersAreFound = (logs : Logs) (n commit s : ℕ) (b : AcceptedTablet) → accepted_tablet logs s ≡ Some b
    → (straggler logs n commit b ≡ true) ↔ ((k : List ℕ) × StragglesAt logs n commit b k)

-- One more accepted record r of the source tablet s, which is started, keeps a tablet standing. What is taken in sees what the tablet
-- keeps, and no path.
abbrev pub DeliveriesKeepStanding : Type 0
DeliveriesKeepStanding = (logs : Logs) (x y : TargetTablet) (u s : ℕ) (r : Record) → StandsFor logs u x → has_started x.floors s ≡ true
    → slice_get (accepted logs s) (slice_index x.places s) ≡ Some r → TakesIn s r x y → StandsFor logs u y

-- So do the accepted records of it from the number `from` on, of which those up to the place are skipped.
abbrev pub BatchesKeepStanding : Type 0
BatchesKeepStanding = (logs : Logs) (x y : TargetTablet) (u s from : ℕ) (rs : List Record) → StandsFor logs u x
    → has_started x.floors s ≡ true
    → 1 ≤ from → from ≤ slice_index x.places s + 1 → rs ≡ take (length rs) (drop (from - 1) (accepted logs s)) → TakesBatch s from rs x y
    → StandsFor logs u y

-- Whatever logs there are: after a batch from the number `from` on its source tablet's place is the greater of the old one and the batch's
-- last number; the tablet's range, the headers, the other places and the other closed tablets are as before; and the source tablet is
-- closed where it was, or where a record past the old place is a split.
pub record BatchTaken (s from : ℕ) (rs : List Record) (x y : TargetTablet) : Type 0 where
  pub range : range_of y ≡ range_of x
  pub headers : y.floors.headers ≡ x.floors.headers
  pub count : length y.places ≡ length x.places
  pub place : slice_index y.places s ≡ max (slice_index x.places s) (from - 1 + length rs)
  pub places : (i : ℕ) → i ≢ s → slice_index y.places i ≡ slice_index x.places i
  pub closed : (i : ℕ) → i ≢ s → has_closed y.floors i ≡ has_closed x.floors i
  pub splits : s < length x.floors.closed
      → has_closed y.floors s ≡ (has_closed x.floors s || list_any (λ r. is_split r.kind) (past (slice_index x.places s) from rs))
  pub through : from - 1 + length rs ≤ slice_index x.places s → y ≡ x

abbrev pub BatchesMovePlaces : Type 0
BatchesMovePlaces = (s from : ℕ) (rs : List Record) (x y : TargetTablet) → 1 ≤ from → from ≤ slice_index x.places s + 1
    → s < length x.places → TakesBatch s from rs x y → BatchTaken s from rs x y

-- A batch and one more record at its end are the longer batch.
abbrev pub BatchesGrow : Type 0
BatchesGrow = (s : ℕ) (rs : List Record) (r : Record) (x y z : TargetTablet) → TakesAll s rs x y → TakesIn s r y z
    → TakesAll s (rs ++ r ∷ []) x z

-- A new tablet of any range stands for all well-formed logs with its headers, from the cutoff 0.
abbrev pub NewStands : Type 0
NewStands = (logs : Logs) (lo hi : ℕ) → is_valid logs ≡ true → StandsFor logs 0 (new_tablet lo hi (headers_of logs.tablets))

-- A cutoff of at most what the tablet covers keeps it standing, at the greater cutoff.
abbrev pub CutoffsKeepStanding : Type 0
CutoffsKeepStanding = (logs : Logs) (x y : TargetTablet) (u w : ℕ) → StandsFor logs u x → w ≤ covers logs x → KeepsFrom w x y
    → StandsFor logs (max u w) y

-- After a restore to t, reads and row lists at times up to t are as before, whatever logs there are.
abbrev pub RestoresKeepReads : Type 0
RestoresKeepReads = (y : TargetTablet) (t v : ℕ) → v ≤ t
    → ((k : List ℕ) → read v (kept_at (restore t y) k) ≡ read v (kept_at y k)) × (rows_shown v (restore t y) ≡ rows_shown v y)

-- So a restored tablet shows the rows of the logs from the cutoff to the time of the restore, key by key and as a whole list.
abbrev pub RestoredShowRows : Type 0
RestoredShowRows = (logs : Logs) (x y : TargetTablet) (u t v : ℕ) → RestoredTo logs u t y x → disagreement logs ≡ None → u ≤ v → v ≤ t
    → ((k : List ℕ) → in_range x k ≡ true
    → read v (kept_at x k) ≡ row logs v k) × (rows_shown v x ≡ where_key (slice_cmp nat_cmp) (in_range x) (rows logs v))

-- The safe time doesn't fall as places rise, splits included.
abbrev pub SafeTimeRises : Type 0
SafeTimeRises = (logs : Logs) (a b : List ℕ) → IsPlaces logs b → ((s : ℕ) → slice_index a s ≤ slice_index b s)
    → safe_time logs a ≤ safe_time logs b

-- The least over the last safe values that are kept of started tablets that aren't closed is the safe time, where the places are legal and
-- what is kept is right.
abbrev pub KeptValuesSuffice : Type 0
KeptValuesSuffice = (logs : Logs) (places : List ℕ) (f : Floors) → is_valid logs ≡ true → IsPlaces logs places → FloorsFor logs places f
    → least_kept f ≡ safe_time logs places

-- The rows that tablets show whose ranges share out the hashes, merged in byte order of keys, are the rows of the logs.
abbrev pub PartitionsShowRows : Type 0
PartitionsShowRows = (logs : Logs) (xs : List TargetTablet) (u t : ℕ) → disagreement logs ≡ None → IsPartition (map range_of xs)
    → AllByRecursion (λ x. StandsFor logs u x × (t ≤ covers logs x)) xs → u ≤ t → all_rows t xs ≡ rows logs t

-- So do restored ones.
abbrev pub RestoredPartitionsShowRows : Type 0
RestoredPartitionsShowRows = (logs : Logs) (xs : List TargetTablet) (u t v : ℕ) → disagreement logs ≡ None → IsPartition (map range_of xs)
    → AllByRecursion (λ x. (y : TargetTablet) × RestoredTo logs u t y x) xs → u ≤ v → v ≤ t → all_rows v xs ≡ rows logs v

-- Each command keeps the session: legal places, the cursor between the acknowledged place and the place, the cutoff at most the safe time.
abbrev pub StepsKeepSessions : Type 0
StepsKeepSessions = (logs : Logs) (m : Session) (c : Command) → is_valid logs ≡ true → IsSession logs m → IsSession logs (step logs m c).0

-- The session that nothing was asked of yet is one.
abbrev pub SessionsStart : Type 0
SessionsStart = (logs : Logs) → is_valid logs ≡ true → IsSession logs (start logs)

-- No command makes the safe time fall.
abbrev pub StepsKeepTimes : Type 0
StepsKeepTimes = (logs : Logs) (m : Session) (c : Command) → is_valid logs ≡ true → IsSession logs m
    → safe_now logs m ≤ safe_now logs (step logs m c).0

-- Along any list of commands no named time falls.
abbrev pub NamedTimesRise : Type 0
NamedTimesRise = (logs : Logs) (m : Session) (commands : List Command) → is_valid logs ≡ true → IsSession logs m
    → IsRising (safe_now logs m) (named_times (lines_from logs m commands))

-- A failover of an open session closes it at its safe time, and changes nothing else.
abbrev pub FailoverCloses : Type 0
FailoverCloses = (logs : Logs) (m : Session) → m.closed ≡ None
    → (step logs m command.Failover).0 ≡ record m { closed = Some (safe_now logs m) }

-- No command makes the cutoff fall.
abbrev pub CutoffsRise : Type 0
CutoffsRise = (logs : Logs) (m : Session) (c : Command) → m.cutoff ≤ (step logs m c).0.cutoff

-- A poll that stops, and a restart, leave every place as it was.
abbrev pub StopsKeepPlaces : Type 0
StopsKeepPlaces = (logs : Logs) (m : Session) (s n last : ℕ)
    → (places_of (step logs m (command.Stop s n last)).0 ≡ places_of m) × (places_of (step logs m (command.Restart s)).0 ≡ places_of m)

-- Each line of a command says what the session has after it.
abbrev pub LinesNameSessions : Type 0
LinesNameSessions = (logs : Logs) (m : Session) (c : Command) → IsSession logs m
    → AllByRecursion (Says logs m (step logs m c).0) (step logs m c).1

-- Once a session is closed, each time that it names is the one that it was closed at.
abbrev pub ClosedTimesStay : Type 0
ClosedTimesStay = (logs : Logs) (m : Session) (commands : List Command) (t : ℕ) → IsSession logs m → m.closed ≡ Some t
    → AllByRecursion (λ v. v ≡ t) (named_times (lines_from logs m commands))

-- A closed session stays as it is, whatever is asked of it.
abbrev pub ClosedStays : Type 0
ClosedStays = (logs : Logs) (m : Session) (c : Command) (t : ℕ) → m.closed ≡ Some t → (step logs m c).0 ≡ m
