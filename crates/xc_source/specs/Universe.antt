-- What the source universe keeps beside the machine, and what holds of it.
use Rattle.xc_base.specs.declared.limits.TheConstants.{MOST_RECORDS, MOST_TABLETS, LAST_SUB}
use Rattle.std.specs.Prelude.{◌≡◌, ◌≤◌, ◌<◌, ◌+◌, ◌-◌, ◌++◌, ◌∷◌, [], ℕ, List, Some, length, sum_by, take, slice_get, slice_set, fold}
use Rattle.std.specs.Prelude.{◌&&◌, filter}
use Rattle.std.specs.List.{enumerate_from}
use Rattle.std.specs.Option.{option_map_or}
use Rattle.xc_arena.specs.Arena.{Lies, key_at}
use Rattle.xc_record.specs.Hash.{hash_of}
use Rattle.xc_record.specs.declared.record.Kind.{Kind}
use Rattle.xc_record.specs.declared.record.Kind.TheVariants.{Split, Abort}
use Rattle.xc_record.specs.declared.record.Header.{Header}
use Rattle.xc_record.specs.declared.record.Record.{Record}
use Rattle.xc_record.specs.declared.record.Tablet.{Tablet}
use Rattle.xc_record.specs.Grown.{with_record}
use Rattle.xc_source.specs.declared.transaction.Provisional.{Provisional}
use Rattle.xc_source.specs.declared.transaction.Stage.{Stage}
use Rattle.xc_source.specs.Machine.{Machine, Transaction, records_in, commit_of, empty_tablet, is_open}
use Rattle.xc_source.specs.Waiting.{waits_on}
use Rattle.xc_source.specs.Holders.{numbered, commit_at}

-- the bytes are those of an operation, and the hash is that of its key
pub record IsWrite (bytes : List ℕ) (hash : ℕ) : Type 0 where
  pub lies : Lies bytes 0
  pub same : hash ≡ hash_of (key_at bytes 0)

-- a transaction with a write logged it before its commit, so that it commits at 2 at the earliest
pub record IsTransaction (writes : List Provisional) (current : ℕ) (stage : Stage) : Type 0 where
  pub few : current ≤ LAST_SUB
  pub late : (commit : ℕ) → commit_of stage ≡ Some commit → 0 < length writes → 2 ≤ commit

-- how many writes there are
abbrev pub writes_in : List Transaction → ℕ
writes_in txns = sum_by (λ t. length t.writes) txns

-- the open tablets on which something of the transaction waits, each with its number
abbrev pub places_in : Machine → Transaction → List (ℕ × Tablet)
places_in m t = filter (λ p. is_open p.1 && waits_on p.1.header t) (enumerate_from 0 m.tablets)

-- the clock and the tablets of a machine
pub record Logged : Type 0 where
  pub time : ℕ
  pub tablets : List Tablet

abbrev pub stepped : Logged → Logged
stepped j = record j { time = j.time + 1 }

abbrev pub logged_in : ℕ → Kind → Logged → Logged
logged_in id kind j = record {
  time = j.time + 1;
  tablets = with_record id (record { time = j.time + 1; kind = kind }) j.tablets;
}

-- the tablets, without the last record of the tablet of this number
abbrev pub without_last : ℕ → List Tablet → List Tablet
without_last id ts =
    option_map_or (λ t. slice_set ts id (record t { records = take (length t.records - 1) t.records })) (slice_get ts id) ts

-- what was logged last, on the tablet of this number, is taken back
abbrev pub unlogged : ℕ → Logged → Logged
unlogged id j = record { time = j.time - 1; tablets = without_last id j.tablets }

-- the same of a record on each of these tablets in turn, the last one first
abbrev pub unlogged_all : List ℕ → Logged → Logged
unlogged_all [] j = j
unlogged_all (id ∷ ids) j = unlogged id (unlogged_all ids j)

-- an abort of the transaction on each of the tablets in turn
abbrev pub aborts_in : ℕ → List ℕ → Logged → Logged
aborts_in n ids j = fold (λ k id. logged_in id (Abort n) k) j ids

-- the tablet gets the record behind its others, and two tablets with these headers stand behind all
abbrev pub split_tablets : ℕ → Record → Header → Header → List Tablet → List Tablet
split_tablets id r left right ts = with_record id r ts ++ empty_tablet left ∷ empty_tablet right ∷ []

-- a tablet with the header h is split at the hash `at`
abbrev pub split_in : ℕ → ℕ → Header → Logged → Logged
split_in id at h j =
    let left = length j.tablets in
    record {
      time = j.time + 1;
      tablets = split_tablets id (record { time = j.time + 1; kind = Split at left (left + 1) })
          (record { id = left; lo = h.lo; hi = at - 1; parent = Some id }) (record { id = left + 1; lo = at; hi = h.hi; parent = Some id })
          j.tablets;
    }

-- count is the number of records, and they and the tablets are within the limits
pub record IsJournal (tablets : List Tablet) (count : ℕ) : Type 0 where
  pub all : count ≡ records_in tablets
  pub most : count ≤ MOST_RECORDS
  pub few : length tablets ≤ MOST_TABLETS

pub record IsUniverse (time : ℕ) (txns : List Transaction) : Type 0 where
  -- each write took a time of the clock
  pub timed : writes_in txns ≤ time
  -- and so did each commit
  pub past : (n c : ℕ) → commit_at (numbered txns n) ≡ Some c → c ≤ time
