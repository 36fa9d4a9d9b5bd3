-- What a target tablet keeps, and when it stands for logs.
--     TargetTablet      what a tablet of the target keeps of all source tablets, for the keys of its range
--     kept_at x k      what it keeps at the key k
--     rows_shown t x      the rows that it shows at t, in byte order of keys
--     StandsFor logs u x      x keeps exactly what the logs give up to its places, with no history before the cutoff u
--     covers logs x      up to this time x can be read: the safe time at its places
--     new_tablet lo hi headers      a tablet that took nothing in yet
--     KeepsFrom w x y      y is x without the history before w
--     restore t y      y without what is later than t, and with nothing that waits
--     RestoredTo logs u t y x      x is y restored to t, where y stood for the logs with cutoff u
--     TakesIn s r x y      y is x after one more record r of the source tablet s
--     TakesAll s rs x y      y is x after the records rs of s, one after another
--     TakesBatch s from rs x y      y is x after those of the records of s from the number `from` on that are past its place
use Rattle.std.specs.Prelude.{◌≡◌, ℕ, ◌+◌, ◌-◌, ◌≤◌, Bool, true, false, List, [], ◌∷◌, filter, nat_le, ◌&&◌, length, replicate, slice_index}
use Rattle.std.specs.Prelude.{slice_get, slice_set, drop, if◌then◌else◌}
use Rattle.std.specs.List.{AllByRecursion}
use Rattle.std.specs.Option.{option_map_or}
use Rattle.xc_record.specs.declared.record.Header.{Header}
use Rattle.xc_record.specs.declared.record.Record.{Record}
use Rattle.xc_record.specs.declared.record.Logs.{Logs}
use Rattle.xc_record.specs.Hash.{hash_of, holds}
use Rattle.xc_record.specs.Path.{path_to, events, record_events, versions, waiting}
use Rattle.xc_record.specs.SafeTime.{safe_time, IsPlaces}
use Rattle.xc_record.specs.Valid.{is_valid}
use Rattle.xc_record.specs.Kept.{Kept, KeyVersion, KeyWaiting, steps, kept_from, versions_at, waiting_at, rows_at}
use Rattle.xc_model.specs.Floors.{Floors, FloorsFor, new_floors, floors_after}

-- ---- a target tablet

pub record TargetTablet : Type 0 where
  -- the range of hashes, both ends included
  pub lo : ℕ
  pub hi : ℕ
  -- of the source tablets: how many accepted records were applied, and what they leave of each
  pub places : List ℕ
  pub floors : Floors
  -- those of a key by commit and transaction number
  pub versions : List KeyVersion
  -- those of a key in the order of its path
  pub held : List KeyWaiting

abbrev pub in_range : TargetTablet → List ℕ → Bool
in_range x k = nat_le x.lo (hash_of k) && nat_le (hash_of k) x.hi

abbrev pub kept_at : TargetTablet → List ℕ → Kept
kept_at x k = record { versions = versions_at k x.versions; held = waiting_at k x.held }

-- nothing is kept outside the range
pub record KeepsWithin (x : TargetTablet) : Type 0 where
  pub versions : AllByRecursion (λ v. in_range x v.key ≡ true) x.versions
  pub held : AllByRecursion (λ w. in_range x w.key ≡ true) x.held

abbrev pub rows_shown : ℕ → TargetTablet → List (List ℕ × List ℕ)
rows_shown t x = rows_at t x.versions

-- ---- standing for logs

-- what the logs give at the key up to the places, with no history before the cutoff
abbrev pub given_at : Logs → ℕ → List ℕ → List ℕ → Kept
given_at logs u places k =
    let es = events k (path_to logs places k) in
    record { versions = kept_from u (versions es); held = waiting es }

pub record StandsFor (logs : Logs) (u : ℕ) (x : TargetTablet) : Type 0 where
  pub valid : is_valid logs ≡ true
  pub places : IsPlaces logs x.places
  pub covered : u ≤ safe_time logs x.places
  pub floors : FloorsFor logs x.places x.floors
  pub keys : (k : List ℕ) → in_range x k ≡ true → kept_at x k ≡ given_at logs u x.places k
  pub within : KeepsWithin x

abbrev pub covers : Logs → TargetTablet → ℕ
covers logs x = safe_time logs x.places

-- ---- a new tablet

abbrev pub new_tablet : ℕ → ℕ → List Header → TargetTablet
new_tablet lo hi headers =
    record { lo = lo; hi = hi; places = replicate (length headers) 0; floors = new_floors headers; versions = []; held = [] }

-- ---- cutoffs

-- y is x without the history before w: of each key's versions with commit at most w only the newest
pub record KeepsFrom (w : ℕ) (x y : TargetTablet) : Type 0 where
  pub rest : y ≡ record x { versions = y.versions }
  pub keys : (k : List ℕ) → in_range x k ≡ true → versions_at k y.versions ≡ kept_from w (versions_at k x.versions)
  pub within : AllByRecursion (λ v. in_range x v.key ≡ true) y.versions

-- ---- restores

-- no version after t, and nothing waits; all else stays
abbrev pub restore : ℕ → TargetTablet → TargetTablet
restore t y = record y { versions = filter (λ v. nat_le v.commit t) y.versions; held = [] }

pub record RestoredTo (logs : Logs) (u t : ℕ) (y x : TargetTablet) : Type 0 where
  pub stood : StandsFor logs u y
  pub after_cutoff : u ≤ t
  pub covered : t ≤ covers logs y
  pub is : x ≡ restore t y

-- ---- records taken in

-- the source tablet s owns the key
abbrev pub owned_by : TargetTablet → ℕ → List ℕ → Bool
owned_by x s k = option_map_or (λ h. holds h (hash_of k)) (slice_get x.floors.headers s) false

pub record TakesIn (s : ℕ) (r : Record) (x y : TargetTablet) : Type 0 where
  pub range : (y.lo ≡ x.lo) × (y.hi ≡ x.hi)
  pub places : y.places ≡ slice_set x.places s (slice_index x.places s + 1)
  pub floors : y.floors ≡ floors_after s r.kind x.floors
  pub keys : (k : List ℕ) → in_range x k ≡ true
      → kept_at y k ≡ if owned_by x s k then steps (record_events k r) (kept_at x k) else kept_at x k
  pub within : KeepsWithin y

abbrev pub TakesAll : ℕ → List Record → TargetTablet → TargetTablet → Type 0
TakesAll s [] x y = y ≡ x
TakesAll s (r ∷ rs) x y = (z : TargetTablet) × (TakesIn s r x z × TakesAll s rs z y)

-- of the records from the number `from` on, those past the place
abbrev pub past : ℕ → ℕ → List Record → List Record
past place from rs = drop (place + 1 - from) rs

abbrev pub TakesBatch : ℕ → ℕ → List Record → TargetTablet → TargetTablet → Type 0
TakesBatch s from rs x y = TakesAll s (past (slice_index x.places s) from rs) x y
