-- What a feed of records tells, and what it gives. Tablets are numbered from 0, their records from 1.
--     fetched records from max      the records from the number `from` on, at most `max` of them
--     fetched_count count from max      how many these are, where there are `count` in all
--     kind_keeps header pair ends kind      a record keeps its tablet's header, and is a split exactly where it `ends` a tablet with
--                       children, which are `pair`
--     KeepHeader headers counts id from records      the records from the number `from` on keep the header of the tablet
--     IsFeed headers counts logs      what holds of each feed's headers, of its numbers of records, and of its logs where it tells them
--     SameFeed headers counts logs faults before after      a feed, as these show it, is the one that it was before a call
--     CountsFault failed before after      the count of faults rose where the call failed for the feed, and there alone
use Rattle.std.specs.Prelude.{◌≡◌, ℕ, ◌+◌, ◌-◌, ◌<◌, ◌≤◌, ◌==◌, ◌&&◌, Bool, true, min, List, [], ◌∷◌, length, map, take, drop}
use Rattle.std.specs.Prelude.{slice_get, slice_index, Option, is_some, IsSome, IfSome, IsTrue}
use Rattle.std.specs.Bool.{beq}
use Rattle.xc_record.specs.declared.record.Header.{Header}
use Rattle.xc_record.specs.declared.record.Kind.{Kind}
use Rattle.xc_record.specs.declared.record.Record.{Record}
use Rattle.xc_record.specs.declared.record.Logs.{Logs}
use Rattle.xc_record.specs.Order.{is_split}
use Rattle.xc_record.specs.Headers.{are_headers, children}
use Rattle.xc_record.specs.Valid.{is_valid, headers_of, keeps_header}
use Rattle.xc_base.specs.Causes.{Rose}
use Rattle.xc_base.specs.declared.limits.TheConstants.{MOST_RECORDS}

abbrev pub fetched : List Record → ℕ → ℕ → List Record
fetched records from max = take max (drop (from - 1) records)

abbrev pub fetched_count : ℕ → ℕ → ℕ → ℕ
fetched_count count from max = min max (count - (from - 1))

abbrev pub kind_keeps : Header → Option (Header × Header) → Bool → Kind → Bool
kind_keeps header pair ends kind = beq (is_split kind) ends && keeps_header header pair kind

-- the records from this number on, of `count` in all, keep the header
abbrev pub keep_from : Header → Option (Header × Header) → ℕ → ℕ → List Record → Bool
keep_from header pair count number [] = true
keep_from header pair count number (r ∷ rs) =
    kind_keeps header pair (number == count && is_some pair) r.kind && keep_from header pair count (number + 1) rs

abbrev pub KeepHeader : List Header → List ℕ → ℕ → ℕ → List Record → Type 0
KeepHeader headers counts id from records =
    IfSome (slice_get headers id) (λ header. IsTrue (keep_from header (children headers id) (slice_index counts id) from records))

abbrev pub counts_of : Logs → List ℕ
counts_of logs = map (λ t. length t.records) logs.tablets

-- the headers and the numbers are those of the logs, which are well formed
pub record AreOf (logs : Logs) (headers : List Header) (counts : List ℕ) : Type 0 where
  pub valid : IsTrue (is_valid logs)
  pub headers_are : headers ≡ headers_of logs.tablets
  pub counts_are : counts ≡ counts_of logs

pub record IsFeed (headers : List Header) (counts : List ℕ) (logs : Option Logs) : Type 0 where
  pub fit : IsTrue (are_headers headers)
  pub each : length counts ≡ length headers
  pub small : (id : ℕ) → slice_index counts id ≤ MOST_RECORDS
  pub parents : (id : ℕ) → id < length headers → IsSome (children headers id) → 1 ≤ slice_index counts id
  pub told : IfSome logs (λ logs. AreOf logs headers counts)

-- it tells what it told before, and its count of faults didn't fall
pub record SameFeed {Of : Type 0} (headers : Of → List Header) (counts : Of → List ℕ) (logs : Of → Option Logs) (faults : Of → ℕ)
    (before after : Of) : Type 0 where
  pub same_headers : headers after ≡ headers before
  pub same_counts : counts after ≡ counts before
  pub same_logs : logs after ≡ logs before
  pub later : faults before ≤ faults after

-- a failure of the feed has its cause there, and with any other answer the count is as before
pub record CountsFault (failed : Type 0) (before after : ℕ) : Type 0 where
  pub rose : failed → Rose before after
  pub quiet : ¬ failed → after ≡ before
