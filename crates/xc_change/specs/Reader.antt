-- A reader of the changes of one source tablet.
--     ReaderState      what is known of a reader: its tablet, where it is, how many records it found in order, and the order after these
--     FitsFeed headers counts r      the reader is one of the feed's tablet, and hasn't found more than the feed has
--     ReadsLogs logs r b      the records that the reader found in order are the first accepted ones of the tablet b of the logs
--     IsNext headers counts max before after next      what a reader hands out, whatever the feed tells
--     IsNextOf logs max before next      what it hands out of the logs
--     fail_of fail      why it hands out nothing, by why a fetch gave nothing
use Rattle.std.specs.Prelude.{◌≡◌, ℕ, ◌+◌, ◌<◌, ◌≤◌, ◌==◌, ◌&&◌, true, List, [], length, take, drop, slice_get, slice_index, Some}
use Rattle.std.specs.Prelude.{is_some}
use Rattle.xc_record.specs.declared.record.Header.{Header}
use Rattle.xc_record.specs.declared.record.Record.{Record}
use Rattle.xc_record.specs.declared.record.Logs.{Logs}
use Rattle.xc_record.specs.declared.session.PollAnswer.{PollAnswer}
use Rattle.xc_record.specs.declared.session.PollAnswer.TheVariants as poll
use Rattle.xc_record.specs.Order.{Progress, is_split}
use Rattle.xc_record.specs.Headers.{children}
use Rattle.xc_record.specs.Accepted.{AcceptedTablet, accepted_tablet, records}
use Rattle.xc_record.specs.SafeTime.{order_at}
use Rattle.xc_record.specs.Step.{answer_from}
use Rattle.xc_logs.specs.Feed.{KeepHeader}
use Rattle.xc_logs.specs.declared.feed.FeedFail.{FeedFail}
use Rattle.xc_logs.specs.declared.feed.FeedFail.TheVariants as feed
use Rattle.xc_change.specs.declared.batch.Next.{Next}
use Rattle.xc_change.specs.declared.batch.Next.TheVariants.{Batch as Given, AtEnd, Halted}
use Rattle.xc_change.specs.declared.batch.Batch.{Batch}
use Rattle.xc_change.specs.declared.batch.NextFail.{NextFail}
use Rattle.xc_change.specs.declared.batch.NextFail.TheVariants as fail

pub record ReaderState : Type 0 where
  -- the tablet's number
  pub id : ℕ
  -- how many records the next batch begins after
  pub cursor : ℕ
  -- how many records were found in order
  pub checked : ℕ
  -- the order after these
  pub order : Progress

abbrev pub fail_of : FeedFail → NextFail
fail_of feed.Failed = fail.ReadFault
fail_of feed.NoMemory = fail.NoMemory

-- ---- any feed

-- the feed's tablet has as many records; a split was taken exactly where they are all of a tablet with children
pub record FitsFeed (headers : List Header) (counts : List ℕ) (r : ReaderState) : Type 0 where
  pub tablet : r.id < length headers
  pub within : r.checked ≤ slice_index counts r.id
  pub split : r.order.split ≡ (is_some (children headers r.id) && (r.checked == slice_index counts r.id))

-- a batch of a reader that stood at the cursor
pub record IsBatch (headers : List Header) (counts : List ℕ) (max : ℕ) (before after : ReaderState) (b : Batch) : Type 0 where
  pub from : b.from ≡ before.cursor + 1
  pub some : 1 ≤ length b.records
  pub most : length b.records ≤ max
  pub checked : before.cursor + length b.records ≤ after.checked
  pub keep : KeepHeader headers counts before.id b.from b.records
  -- a split is the last record that there is
  pub splits : (i : ℕ) (r : Record) → slice_get b.records i ≡ Some r → is_split r.kind ≡ true
      → (i + 1 ≡ length b.records) × ((before.cursor + length b.records ≡ after.checked) × (after.order.split ≡ true))

abbrev pub IsNext : List Header → List ℕ → ℕ → ReaderState → ReaderState → Next → Type 0
IsNext headers counts max before after (Given batch) = IsBatch headers counts max before after batch
IsNext headers counts max before after AtEnd = before.cursor ≡ slice_index counts before.id
IsNext headers counts max before after (Halted number kind) = (number ≡ before.cursor + 1) × (before.cursor < slice_index counts before.id)

-- the records that were found in order are kept in mind, and where the reader stands is as before
pub record Stays (before after : ReaderState) : Type 0 where
  pub id : after.id ≡ before.id
  pub cursor : after.cursor ≡ before.cursor
  pub checked : before.checked ≤ after.checked

-- ---- logs

pub record ReadsLogs (logs : Logs) (r : ReaderState) (b : AcceptedTablet) : Type 0 where
  pub tablet : accepted_tablet logs r.id ≡ Some b
  pub reached : b.reached ≡ true
  pub checked : r.checked ≤ length b.records
  pub order : r.order ≡ order_at b r.checked

-- what a poll answers that hands out as much
abbrev pub answer_of : Next → PollAnswer
answer_of (Given batch) = poll.Polled (length batch.records)
answer_of AtEnd = poll.AtEnd
answer_of (Halted number kind) = poll.Halted number kind

abbrev pub given_records : Next → List Record
given_records (Given batch) = batch.records
given_records AtEnd = []
given_records (Halted number kind) = []

-- the answer of a poll from the cursor, and the accepted records after it, as many as it says
pub record IsNextOf (logs : Logs) (b : AcceptedTablet) (max : ℕ) (before : ReaderState) (next : Next) : Type 0 where
  pub answer : answer_of next ≡ answer_from b (records logs before.id) before.cursor max
  pub records_are : given_records next ≡ take (length (given_records next)) (drop before.cursor b.records)
