-- What each command makes of a session, and the lines that it answers.
--     answer_from b rs cursor n      the answer of a poll of n records from the cursor, of the tablet b with the records rs
--     poll_answer logs m s n      the answer of a poll of n records of tablet s
--     step logs m command      the session after the command, and its lines
--     lines_from logs m commands      the lines of all commands, from the session m on
use Rattle.std.specs.Prelude.{ℕ, ◌+◌, ◌-◌, min, max, Bool, true, false, List, [], ◌∷◌, ◌++◌, Option, Some, None, length, map, slice_set}
use Rattle.std.specs.Prelude.{if◌then◌else◌, ◌==◌, option_and_then, is_some, nat_lt}
use Rattle.std.specs.List.{filter_map}
use Rattle.std.specs.Option.{option_map_or, option_map}
use Rattle.xc_record.specs.declared.record.Logs.{Logs}
use Rattle.xc_record.specs.declared.session.Command.{Command}
use Rattle.xc_record.specs.declared.session.Command.TheVariants as command
use Rattle.xc_record.specs.declared.session.Line.{Line}
use Rattle.xc_record.specs.declared.session.Line.TheVariants as line
use Rattle.xc_record.specs.declared.session.PollAnswer.{PollAnswer}
use Rattle.xc_record.specs.declared.session.PollAnswer.TheVariants as poll
use Rattle.xc_record.specs.declared.record.Record.{Record}
use Rattle.xc_record.specs.Accepted.{AcceptedTablet, accepted_tablets, accepted_tablet, records, parent_of, halt, halt_of}
use Rattle.xc_record.specs.SafeTime.{is_closed}
use Rattle.xc_record.specs.Rows.{rows, row}
use Rattle.xc_record.specs.Session.{Session, Position, position, places_of, safe_now}

-- ---- a poll

-- the parent of s, where it isn't closed
abbrev pub awaits : Logs → Session → ℕ → Option ℕ
awaits logs m s = option_and_then (λ parent. if is_closed logs (places_of m) parent then None else Some parent) (parent_of logs s)

-- what a poll of n records from the cursor answers, of the tablet b with these records, which isn't waited for
abbrev pub answer_from : AcceptedTablet → List Record → ℕ → ℕ → PollAnswer
answer_from b rs cursor n =
    option_map_or (λ found. poll.Halted found.0 found.1) (if cursor == length b.records then halt_of b rs else None)
    (if cursor == length rs then poll.AtEnd else poll.Polled (min n (length b.records - cursor)))

unfoldable pub poll_answer : Logs → Session → ℕ → ℕ → PollAnswer
poll_answer logs m s n =
    option_map_or (λ parent. poll.Waits parent) (awaits logs m s)
    (option_map_or (λ b. answer_from b (records logs s) (position m s).cursor n) (accepted_tablet logs s) poll.AtEnd)

abbrev pub with_position : ℕ → Position → Session → Session
with_position s p m = record m { positions = slice_set m.positions s p }

-- k more records were delivered to every target tablet
abbrev pub moved : ℕ → Position → Position
moved k p = let to = p.cursor + k in record p { cursor = to; place = max p.place to }

-- the next poll begins at the acknowledged place again
abbrev pub set_back : Position → Position
set_back p = record p { cursor = p.acknowledged }

-- a restart begins at the cursor from now on
abbrev pub acknowledge : Position → Position
acknowledge p = record p { acknowledged = p.cursor }

abbrev pub poll_step : Session → ℕ → PollAnswer → Session × List Line
poll_step m s (poll.Polled k) = (with_position s (moved k (position m s)) m, line.Polled s k ∷ [])
poll_step m s (poll.Waits parent) = (m, line.Wait s parent ∷ [])
poll_step m s poll.AtEnd = (m, line.AtEnd s ∷ [])
poll_step m s (poll.Halted number kind) = (m, line.Halt s number kind ∷ [])

-- as a poll, but it was cut off: the place stays, and the cursor goes back
abbrev pub stop_step : Session → ℕ → PollAnswer → Session × List Line
stop_step m s (poll.Polled k) = (with_position s (set_back (position m s)) m, line.Stopped s k ∷ [])
stop_step m s (poll.Waits parent) = (m, line.Wait s parent ∷ [])
stop_step m s poll.AtEnd = (m, line.AtEnd s ∷ [])
stop_step m s (poll.Halted number kind) = (m, line.Halt s number kind ∷ [])

-- ---- the other commands

-- all accepted records were delivered
abbrev pub drained_to : AcceptedTablet → Position → Position
drained_to b p = record p { place = length b.records; cursor = length b.records }

abbrev pub drained : Logs → Session → Session
drained logs m = record m { positions = map (λ b. drained_to b (position m b.header.id)) (accepted_tablets logs) }

-- a line for each tablet that has a break and is reached, by number
abbrev pub halt_lines : Logs → List Line
halt_lines logs =
    filter_map (λ b. option_map (λ found. line.Halt b.header.id found.0 found.1) (halt logs b.header.id)) (accepted_tablets logs)

abbrev pub drain_step : Logs → Session → Session × List Line
drain_step logs m = (drained logs m, line.Drain (safe_now logs (drained logs m)) ∷ halt_lines logs)

abbrev pub row_lines : Logs → ℕ → List Line
row_lines logs t = map (λ r. line.Row r.0 r.1) (rows logs t)

abbrev pub read_at_line : Logs → Session → ℕ → List ℕ → Line
read_at_line logs m u key =
    if nat_lt (safe_now logs m) u then line.Ahead u (safe_now logs m)
    else (if nat_lt u m.cutoff then line.Pruned u m.cutoff else line.ReadAt u key (row logs u key))

abbrev pub prune_step : Logs → Session → ℕ → Session × List Line
prune_step logs m u =
    if nat_lt (safe_now logs m) u then (m, line.Ahead u (safe_now logs m) ∷ [])
    else (record m { cutoff = max m.cutoff u }, line.Prune (max m.cutoff u) ∷ [])

abbrev pub failover_step : Logs → Session → ℕ → Session × List Line
failover_step logs m t = (record m { closed = Some t }, line.Failover t (length (rows logs t)) ∷ row_lines logs t)

abbrev pub report_line : Logs → Session → Line
report_line logs m =
    line.Report (map (λ p. p.acknowledged) m.positions) (is_some m.closed) (map (λ p. p.cursor) m.positions) m.cutoff (places_of m)
    (safe_now logs m)

-- the step of a command that isn't refused
unfoldable pub open_step : Logs → Session → Command → Session × List Line
open_step logs m (command.Poll id n) = poll_step m id (poll_answer logs m id n)
open_step logs m (command.Stop id n last) = stop_step m id (poll_answer logs m id n)
open_step logs m (command.Ack id) = (with_position id (acknowledge (position m id)) m, line.Ack id (position m id).cursor ∷ [])
open_step logs m (command.Restart id) = (with_position id (set_back (position m id)) m, line.Restart id (position m id).acknowledged ∷ [])
open_step logs m command.Drain = drain_step logs m
open_step logs m command.Safe = (m, line.Safe (safe_now logs m) ∷ [])
open_step logs m (command.Read key) = (m, line.Read (safe_now logs m) key (row logs (safe_now logs m) key) ∷ [])
open_step logs m (command.ReadAt u key) = (m, read_at_line logs m u key ∷ [])
open_step logs m command.Scan = (m, line.Scan (safe_now logs m) (length (rows logs (safe_now logs m))) ∷ row_lines logs (safe_now logs m))
open_step logs m (command.Prune u) = prune_step logs m u
open_step logs m command.Failover = failover_step logs m (safe_now logs m)
open_step logs m command.Report = (m, report_line logs m ∷ [])

-- the commands that a closed session refuses
abbrev pub is_change : Command → Bool
is_change (command.Poll id n) = true
is_change (command.Stop id n last) = true
is_change (command.Ack id) = true
is_change (command.Restart id) = true
is_change command.Drain = true
is_change command.Safe = false
is_change (command.Read key) = false
is_change (command.ReadAt u key) = false
is_change command.Scan = false
is_change (command.Prune u) = true
is_change command.Failover = true
is_change command.Report = false

-- the time that a closed session names where it refuses the command
abbrev pub refuses : Session → Command → Option ℕ
refuses m command = if is_change command then m.closed else None

unfoldable pub step : Logs → Session → Command → Session × List Line
step logs m command = option_map_or (λ t. (m, line.Closed t ∷ [])) (refuses m command) (open_step logs m command)

abbrev pub lines_from : Logs → Session → List Command → List Line
lines_from logs m [] = []
lines_from logs m (command ∷ commands) = (step logs m command).1 ++ lines_from logs (step logs m command).0 commands
