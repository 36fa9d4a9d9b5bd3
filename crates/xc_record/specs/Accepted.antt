-- The accepted records of all tablets, parents before their children.
--     AcceptedTablet      a tablet's header, whether it is reached, the progress before its records, its accepted records, and the progress
--         after them
--     accepted_tablets logs      one for each tablet, in the tablets' order
--     halt logs s      the number and the break of the first record of s that is not accepted, where s is reached
--     accepted logs s, accepted_tablet logs s      the accepted records of tablet s, and all that is kept of it
use Rattle.std.specs.Prelude.{ℕ, Bool, true, false, List, [], ◌∷◌, ◌++◌, Option, Some, None, if◌then◌else◌, ◌&&◌, fold, slice_get}
use Rattle.std.specs.Prelude.{option_and_then, ◌+◌}
use Rattle.std.specs.Option.{option_map_or}
use Rattle.xc_record.specs.declared.record.Record.{Record}
use Rattle.xc_record.specs.declared.record.Header.{Header}
use Rattle.xc_record.specs.declared.record.Tablet.{Tablet}
use Rattle.xc_record.specs.declared.record.Logs.{Logs}
use Rattle.xc_record.specs.declared.record.Break.{Break}
use Rattle.xc_record.specs.Order.{Progress, break_of, after, accepted_from}

pub record AcceptedTablet : Type 0 where
  pub header : Header
  pub reached : Bool
  pub start : Progress
  pub records : List Record
  pub end : Progress

-- where a root begins
abbrev pub root_start : Progress
root_start = record { floor = 0; last = 0; split = false }

-- where a child begins, at the end of its parent
abbrev pub child_start : AcceptedTablet → Progress
child_start parent = record { floor = parent.end.floor; last = parent.end.last; split = false }

abbrev pub start_after : List AcceptedTablet → Option ℕ → Progress
start_after before None = root_start
start_after before (Some parent) = option_map_or child_start (slice_get before parent) root_start

-- a root is reached, and a child is where its parent's accepted records end in a split
abbrev pub reached_after : List AcceptedTablet → Option ℕ → Bool
reached_after before None = true
reached_after before (Some parent) =
    option_map_or (λ accepted_tablet. accepted_tablet.reached && accepted_tablet.end.split) (slice_get before parent) false

abbrev pub accepted_tablet_from : Header → Bool → Progress → List Record → AcceptedTablet
accepted_tablet_from header reached start kept =
    record { header = header; reached = reached; start = start; records = kept; end = fold after start kept }

abbrev pub accepted_tablet_after : List AcceptedTablet → Tablet → AcceptedTablet
accepted_tablet_after before t =
    let reached = reached_after before t.header.parent in
    let start = start_after before t.header.parent in
    accepted_tablet_from t.header reached start (if reached then accepted_from start t.records else [])

abbrev pub accepted_tablets_after : List AcceptedTablet → List Tablet → List AcceptedTablet
accepted_tablets_after before [] = before
accepted_tablets_after before (t ∷ ts) = accepted_tablets_after (before ++ accepted_tablet_after before t ∷ []) ts

unfoldable pub accepted_tablets : Logs → List AcceptedTablet
accepted_tablets logs = accepted_tablets_after [] logs.tablets

abbrev pub accepted_tablet : Logs → ℕ → Option AcceptedTablet
accepted_tablet logs s = slice_get (accepted_tablets logs) s

abbrev pub accepted : Logs → ℕ → List Record
accepted logs s = option_map_or (λ b. b.records) (accepted_tablet logs s) []

-- the final floor
abbrev pub final_floor : Logs → ℕ → ℕ
final_floor logs s = option_map_or (λ b. b.end.floor) (accepted_tablet logs s) 0

abbrev pub halt_from : Progress → ℕ → List Record → Option (ℕ × Break)
halt_from p number [] = None
halt_from p number (r ∷ rs) = option_map_or (λ kind. Some (number, kind)) (break_of p r) (halt_from (after p r) (number + 1) rs)

abbrev pub tablet : Logs → ℕ → Option Tablet
tablet logs s = slice_get logs.tablets s

-- the records of the log, accepted or not
abbrev pub records : Logs → ℕ → List Record
records logs s = option_map_or (λ t. t.records) (tablet logs s) []

abbrev pub parent_of : Logs → ℕ → Option ℕ
parent_of logs s = option_and_then (λ t. t.header.parent) (tablet logs s)

-- of a tablet with these records, accepted or not
abbrev pub halt_of : AcceptedTablet → List Record → Option (ℕ × Break)
halt_of b rs = if b.reached then halt_from b.start 1 rs else None

unfoldable pub halt : Logs → ℕ → Option (ℕ × Break)
halt logs s = option_and_then (λ b. halt_of b (records logs s)) (accepted_tablet logs s)
