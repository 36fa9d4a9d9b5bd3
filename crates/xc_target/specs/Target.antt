-- A target: its tablets, and the pollers of the source tablets.
--     TargetState      what contracts see of a target
--     headers_of_pollers ps      the headers of the source tablets
--     least_open ps      the least of the last safe values of the tablets that are open and not closed
--     shown_at t k xs      the value of the key at t, in the tablet whose range has it
--     opened_by parent p      p after its parent opened it; Opens parent p q      q is p after that, and fits each feed that p fits
--     new_target headers bounds      a target that nothing was asked of yet
--     IsTarget t      what holds between calls
--     of_parts parts      the target that is made of these parts
--     FitsFeed headers counts t      the target can poll a feed with these headers and numbers of records
use Rattle.std.specs.Prelude.{◌≡◌, ℕ, Bool, ◌&&◌, not, List, [], ◌∷◌, map, filter, Option, None, if◌then◌else◌}
use Rattle.std.specs.List.{AllByRecursion}
use Rattle.xc_record.specs.declared.record.Header.{Header}
use Rattle.xc_record.specs.declared.record.Logs.{Logs}
use Rattle.xc_record.specs.Headers.{is_child_of}
use Rattle.xc_logs.specs.Feed.{IsFeed}
use Rattle.xc_record.specs.Bounds.{ranges, IsPartition}
use Rattle.xc_record.specs.Kept.{read}
use Rattle.xc_record.specs.Lists.{least}
use Rattle.xc_model.specs.Rows.{range_of}
use Rattle.xc_model.specs.Stands.{TargetTablet, in_range, kept_at, new_tablet}
use Rattle.xc_change.specs.Reader.{FitsFeed as ReaderFits}
use Rattle.xc_poller.specs.declared.parts.Parts.{Parts}
use Rattle.xc_poller.specs.Poller.{PollerState, is_closed, new_poller, opened}
use Rattle.xc_poller.specs.Polled.{CanPoll}

pub record TargetState : Type 0 where
  -- by the lower ends of their ranges
  pub tablets : List TargetTablet
  -- by the numbers of their source tablets
  pub pollers : List PollerState
  -- before this time no history is kept
  pub cutoff : ℕ
  -- the time that the session was closed at
  pub closed : Option ℕ

abbrev pub headers_of_pollers : List PollerState → List Header
headers_of_pollers ps = map (λ p. p.header) ps

-- ---- what is shown

abbrev pub is_low : PollerState → Bool
is_low p = p.is_open && not (is_closed p)

abbrev pub least_open : List PollerState → ℕ
least_open ps = least (map (λ p. p.floor) (filter is_low ps))

abbrev pub shown_at : ℕ → List ℕ → List TargetTablet → Option (List ℕ)
shown_at t k [] = None
shown_at t k (x ∷ xs) = if in_range x k then read t (kept_at x k) else shown_at t k xs

-- ---- a new target

abbrev pub new_tablets : List Header → List (ℕ × ℕ) → List TargetTablet
new_tablets headers rs = map (λ r. new_tablet r.0 r.1 headers) rs

abbrev pub new_target : List Header → List ℕ → TargetState
new_target headers bounds =
    record { tablets = new_tablets headers (ranges bounds); pollers = map new_poller headers; cutoff = 0; closed = None }

-- ---- children

-- q is p after this closed poller opened it, where it is that of its parent
abbrev pub opened_by : PollerState → PollerState → PollerState
opened_by parent p = if is_child_of parent.header.id p.header then opened parent p else p

pub record Opens (parent p q : PollerState) : Type 0 where
  pub is : q ≡ opened_by parent p
  pub fits : (headers : List Header) (counts : List ℕ) (logs : Option Logs) → IsFeed headers counts logs
      → ReaderFits headers counts p.reader → ReaderFits headers counts q.reader

-- ---- between calls

pub record IsTarget (t : TargetState) : Type 0 where
  -- the tablets share out all hashes
  pub ranges : IsPartition (map range_of t.tablets)

abbrev pub of_parts : Parts → TargetState
of_parts parts = record { tablets = parts.tablets; pollers = parts.pollers; cutoff = parts.cutoff; closed = parts.closed }

pub record FitsFeed (headers : List Header) (counts : List ℕ) (t : TargetState) : Type 0 where
  pub headers_are : headers_of_pollers t.pollers ≡ headers
  -- each reader is of its poller's tablet
  pub numbers : AllByRecursion (λ p. p.reader.id ≡ p.header.id) t.pollers
  pub readers : AllByRecursion (λ p. ReaderFits headers counts p.reader) t.pollers
  pub tablets : AllByRecursion (λ x. AllByRecursion (λ p. CanPoll headers counts p x) t.pollers) t.tablets
