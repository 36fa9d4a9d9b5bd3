-- What a poll does to a poller and to the target tablets.
--     CanPoll headers counts p x      the target tablet x can take in what the poller p gets from a feed with these headers and numbers of
--         records
--     CanPollAll headers counts p xs      so can each of the tablets xs, and the reader of p fits the feed
--     Looked old new      the reader of the poller looked further, and nothing else changed
--     IsStep headers counts max old new step      what comes next of a poller, whatever the feed tells
--     IsStepOf logs b max old step      what comes next of the logs
--     TookAll id from rs olds news      each tablet took the records in
--     TookFirst id from rs k olds news      the first k tablets did, and the others are as before
--     IsPolled headers counts max old new olds news result      what a poll does, whatever the feed tells
--     IsStopped headers counts max last old new olds news result      what a poll does that is cut off after the tablet of the number
--         `last`
--     KeepStanding logs olds news      each tablet stands for the logs as it did before
--     PollsLogs logs b max old new olds news result      what a poll does of logs that the poller stands for
--     PollCall headers counts logs faults max before after old new olds news result      what a poll does of a feed, as these show it,
--         whether or not it is cut off
use Rattle.std.specs.Prelude.{◌≡◌, ◌⊎◌, ℕ, ◌+◌, ◌≤◌, true, false, List, [], length, take, drop, Some, Result, Ok, Err, is_some, slice_index}
use Rattle.std.specs.Prelude.{Option, All, IfOk, IfSome, IsErrOf}
use Rattle.std.specs.List.{AllZip}
use Rattle.xc_record.specs.declared.record.Header.{Header}
use Rattle.xc_record.specs.declared.record.Logs.{Logs}
use Rattle.xc_record.specs.declared.record.Record.{Record}
use Rattle.xc_record.specs.declared.session.PollAnswer.{PollAnswer}
use Rattle.xc_record.specs.declared.session.PollAnswer.TheVariants as poll
use Rattle.xc_record.specs.Headers.{children}
use Rattle.xc_record.specs.Accepted.{AcceptedTablet, records}
use Rattle.xc_record.specs.Step.{answer_from}
use Rattle.xc_logs.specs.Feed.{SameFeed, CountsFault}
use Rattle.xc_model.specs.Floors.{has_closed, has_started}
use Rattle.xc_model.specs.Stands.{TargetTablet, TakesBatch, StandsFor as TabletStandsFor}
use Rattle.xc_model.specs.Laws.{BatchTaken}
use Rattle.xc_tablet.specs.Batch.{FitsFeed}
use Rattle.xc_change.specs.declared.batch.NextFail.{NextFail}
use Rattle.xc_change.specs.declared.batch.NextFail.TheVariants as fail
use Rattle.xc_change.specs.declared.batch.Next.{Next}
use Rattle.xc_change.specs.declared.batch.Next.TheVariants as next
use Rattle.xc_change.specs.declared.batch.Batch.{Batch}
use Rattle.xc_change.specs.Reader.{FitsFeed as ReaderFits, Stays, IsBatch, IsNext}
use Rattle.xc_poller.specs.declared.step.Step.{Step}
use Rattle.xc_poller.specs.declared.step.Step.TheVariants as step
use Rattle.xc_poller.specs.Poller.{PollerState, StandsFor, done, restarted}

-- ---- before a poll

pub record CanPoll (headers : List Header) (counts : List ℕ) (p : PollerState) (x : TargetTablet) : Type 0 where
  pub fits : FitsFeed headers counts x
  -- it keeps of each source tablet whether it is closed, and only one with children is
  pub flags : length x.floors.closed ≡ length headers
  pub childless : (s : ℕ) → is_some (children headers s) ≡ false → has_closed x.floors s ≡ false
  pub applied : p.applied ≤ slice_index x.places p.header.id
  pub started : p.is_open ≡ true → has_started x.floors p.header.id ≡ true

pub record CanPollAll (headers : List Header) (counts : List ℕ) (p : PollerState) (xs : List TargetTablet) : Type 0 where
  pub reader : ReaderFits headers counts p.reader
  pub tablets : All (CanPoll headers counts p) xs

-- ---- what comes next

pub record Looked (old new : PollerState) : Type 0 where
  pub is : new ≡ record old { reader = new.reader }
  pub reader : Stays old.reader new.reader

abbrev pub step_of : Next → Step
step_of (next.Batch batch) = step.Batch batch
step_of next.AtEnd = step.AtEnd
step_of (next.Halted number kind) = step.Halted number kind

abbrev pub IsStep : List Header → List ℕ → ℕ → PollerState → PollerState → Step → Type 0
IsStep headers counts max old new (step.Batch batch) = (old.is_open ≡ true) × IsBatch headers counts max old.reader new.reader batch
IsStep headers counts max old new (step.Waits parent) = (old.is_open ≡ false) × ((old.header.parent ≡ Some parent) × (new ≡ old))
IsStep headers counts max old new step.AtEnd = (old.is_open ≡ true) × IsNext headers counts max old.reader new.reader next.AtEnd
IsStep headers counts max old new (step.Halted number kind) =
    (old.is_open ≡ true) × IsNext headers counts max old.reader new.reader (next.Halted number kind)

-- what a poll answers that delivers as much
abbrev pub answer_of : Step → PollAnswer
answer_of (step.Batch batch) = poll.Polled (length batch.records)
answer_of (step.Waits parent) = poll.Waits parent
answer_of step.AtEnd = poll.AtEnd
answer_of (step.Halted number kind) = poll.Halted number kind

abbrev pub records_of : Step → List Record
records_of (step.Batch batch) = batch.records
records_of (step.Waits parent) = []
records_of step.AtEnd = []
records_of (step.Halted number kind) = []

-- the answer of a poll from the cursor, of an open poller, and the accepted records after it, as many as it says
pub record IsStepOf (logs : Logs) (b : AcceptedTablet) (max : ℕ) (old : PollerState) (s : Step) : Type 0 where
  pub answer : old.is_open ≡ true → answer_of s ≡ answer_from b (records logs old.header.id) old.reader.cursor max
  pub records_are : records_of s ≡ take (length (records_of s)) (drop old.reader.cursor b.records)

-- ---- what is delivered

pub record Took (id from : ℕ) (rs : List Record) (x y : TargetTablet) : Type 0 where
  pub taken : TakesBatch id from rs x y
  pub moved : BatchTaken id from rs x y

abbrev pub TookAll : ℕ → ℕ → List Record → List TargetTablet → List TargetTablet → Type 0
TookAll id from rs olds news = AllZip (Took id from rs) olds news

pub record TookFirst (id from : ℕ) (rs : List Record) (k : ℕ) (olds news : List TargetTablet) : Type 0 where
  pub first : AllZip (Took id from rs) (take k olds) (take k news)
  pub rest : drop k news ≡ drop k olds

abbrev pub KeepStanding : Logs → List TargetTablet → List TargetTablet → Type 0
KeepStanding logs olds news = AllZip (λ x y. (u : ℕ) → TabletStandsFor logs u x → TabletStandsFor logs u y) olds news

-- an open poller answers what comes of its tablet, and it and the tablets stand for the logs as before
pub record PollsLogs (logs : Logs) (b : AcceptedTablet) (max : ℕ) (old new : PollerState) (olds news : List TargetTablet)
    (result : Result PollAnswer NextFail) : Type 0 where
  pub answer : old.is_open ≡ true → IfOk result (λ a. a ≡ answer_from b (records logs old.header.id) old.reader.cursor max)
  pub stands : StandsFor logs new b
  pub tablets : KeepStanding logs olds news

pub record PollCall {Of : Type 0} (headers : Of → List Header) (counts : Of → List ℕ) (logs : Of → Option Logs) (faults : Of → ℕ)
    (max : ℕ) (before after : Of) (old new : PollerState) (olds news : List TargetTablet) (result : Result PollAnswer NextFail) : Type 0
  where
    -- it can go on, whatever the feed tells
    pub can : CanPollAll (headers after) (counts after) new news
    -- where the feed tells logs that the poller stands for
    pub told : IfSome (logs before) (λ told. (b : AcceptedTablet) → StandsFor told old b → PollsLogs told b max old new olds news result)
    -- a read fault has its cause in the feed
    pub fault : CountsFault (IsErrOf result fail.ReadFault) (faults before) (faults after)
    -- what each call of a feed keeps
    pub feed : SameFeed headers counts logs faults before after

-- ---- a whole poll

-- a batch was taken from the poller after its reader had looked further
pub record Moved (headers : List Header) (counts : List ℕ) (max : ℕ) (old looked : PollerState) (batch : Batch) : Type 0 where
  pub started : old.is_open ≡ true
  pub reader : Looked old looked
  pub given : IsBatch headers counts max old.reader looked.reader batch

-- nothing moved
pub record Stood (headers : List Header) (counts : List ℕ) (max : ℕ) (old new : PollerState) (olds news : List TargetTablet) (s : Step) :
    Type 0 where
  pub looked : Looked old new
  pub tablets : news ≡ olds
  pub step : IsStep headers counts max old new s

-- out of memory: the poller is as before, but for its reader, and some tablets may be ahead
pub record WasRefused (headers : List Header) (counts : List ℕ) (max : ℕ) (old new : PollerState) (olds news : List TargetTablet)
    (batch : Batch) (k : ℕ) : Type 0 where
  pub moved : Moved headers counts max old new batch
  pub tablets : TookFirst old.header.id batch.from batch.records k olds news

abbrev pub OutOfMemory : List Header → List ℕ → ℕ → PollerState → PollerState → List TargetTablet → List TargetTablet → Type 0
OutOfMemory headers counts max old new olds news =
    ((new ≡ old) × (news ≡ olds)) ⊎ ((batch : Batch) × ((k : ℕ) × WasRefused headers counts max old new olds news batch k))

abbrev pub IsPolled : List Header → List ℕ → ℕ → PollerState → PollerState → List TargetTablet → List TargetTablet
    → Result PollAnswer NextFail → Type 0
IsPolled headers counts max old new olds news (Ok (poll.Polled k)) =
    (looked : PollerState) × ((batch : Batch) × (Moved headers counts max old looked batch
    × ((k ≡ length batch.records) × ((new ≡ done batch.records looked) × TookAll old.header.id batch.from batch.records olds news))))
IsPolled headers counts max old new olds news (Ok (poll.Waits parent)) = Stood headers counts max old new olds news (step.Waits parent)
IsPolled headers counts max old new olds news (Ok poll.AtEnd) = Stood headers counts max old new olds news step.AtEnd
IsPolled headers counts max old new olds news (Ok (poll.Halted number kind)) =
    Stood headers counts max old new olds news (step.Halted number kind)
IsPolled headers counts max old new olds news (Err fail.ReadFault) = (new ≡ old) × (news ≡ olds)
IsPolled headers counts max old new olds news (Err fail.NoMemory) = OutOfMemory headers counts max old new olds news

-- the applied place stays, and the cursor goes back to the acknowledged one
abbrev pub IsStopped : List Header → List ℕ → ℕ → ℕ → PollerState → PollerState → List TargetTablet → List TargetTablet
    → Result PollAnswer NextFail → Type 0
IsStopped headers counts max last old new olds news (Ok (poll.Polled k)) =
    (looked : PollerState) × ((batch : Batch) × (Moved headers counts max old looked batch
    × ((k ≡ length batch.records) × ((new ≡ restarted looked) × TookFirst old.header.id batch.from batch.records (last + 1) olds news))))
IsStopped headers counts max last old new olds news (Ok (poll.Waits parent)) =
    Stood headers counts max old new olds news (step.Waits parent)
IsStopped headers counts max last old new olds news (Ok poll.AtEnd) = Stood headers counts max old new olds news step.AtEnd
IsStopped headers counts max last old new olds news (Ok (poll.Halted number kind)) =
    Stood headers counts max old new olds news (step.Halted number kind)
IsStopped headers counts max last old new olds news (Err fail.ReadFault) = (new ≡ old) × (news ≡ olds)
IsStopped headers counts max last old new olds news (Err fail.NoMemory) = OutOfMemory headers counts max old new olds news
