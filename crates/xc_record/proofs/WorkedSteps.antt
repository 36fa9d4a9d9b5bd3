-- What the session step answers over small logs, for each command at each of its edges.
use Rattle.std.proofs.Common.{◌≡◌, [], ◌∷◌, Some, None, true, false, refl}
use Rattle.std.specs.Prelude.{codes}
use Rattle.xc_record.specs.declared.record.Break.TheVariants.{CommitBelow, SafeAhead, TimeBack}
use Rattle.xc_record.specs.declared.record.Kind.TheVariants.{Write, Safe, Split}
use Rattle.xc_record.specs.declared.record.Logs.{Logs}
use Rattle.xc_record.specs.declared.session.Command.TheVariants as command
use Rattle.xc_record.specs.declared.session.Line.TheVariants as line
use Rattle.xc_record.specs.Session.{start}
use Rattle.xc_record.specs.Step.{lines_from}
use Rattle.xc_record.specs.Valid.{is_valid}
use Rattle.xc_record.proofs.WorkedLogs.{computed, at, sets, root, child, a, z, with_split, with_late_apply, with_both_children}

-- ---- polls

-- a child waits for its parent; a stop moves nothing on; a restart goes back to the acknowledged place
polls : lines_from (with_split 14) (start (with_split 14))
    (command.Poll 1 9 ∷ command.Stop 0 3 0 ∷ command.Poll 0 3 ∷ command.Ack 0 ∷ command.Poll 0 9 ∷ command.Restart 0 ∷ command.Poll 0 9 ∷
    command.Poll 0 9 ∷ command.Poll 2 9 ∷ command.Safe ∷ command.Poll 1 9 ∷ command.Safe ∷ command.Read z ∷ [])
    ≡ line.Wait 1 0 ∷ line.Stopped 0 3 ∷ line.Polled 0 3 ∷ line.Ack 0 3 ∷ line.Polled 0 1 ∷ line.Restart 0 3 ∷ line.Polled 0 1 ∷ line.AtEnd
    0 ∷ line.Polled 2 2 ∷ line.Safe 12 ∷ line.Polled 1 1 ∷ line.Safe 17 ∷ line.Read 17 z (Some (codes "9")) ∷ []
unfolding computed
polls = refl

-- after a stop the cursor is back at the acknowledged place, and the places are as they were
stops : lines_from with_both_children (start with_both_children)
    (command.Stop 0 2 0 ∷ command.Report ∷ command.Poll 0 2 ∷ command.Stop 0 9 1 ∷ command.Report ∷ command.Ack 0 ∷ command.Poll 0 1 ∷
    command.Ack 0 ∷ command.Stop 0 9 0 ∷ command.Report ∷ [])
    ≡ line.Stopped 0 2 ∷ line.Report (0 ∷ 0 ∷ 0 ∷ []) false (0 ∷ 0 ∷ 0 ∷ []) 0 (0 ∷ 0 ∷ 0 ∷ []) 0 ∷ line.Polled 0 2 ∷ line.Stopped 0 3 ∷
    line.Report (0 ∷ 0 ∷ 0 ∷ []) false (0 ∷ 0 ∷ 0 ∷ []) 0 (2 ∷ 0 ∷ 0 ∷ []) 0
    ∷ line.Ack 0 0 ∷ line.Polled 0 1 ∷ line.Ack 0 1 ∷ line.Stopped 0 4 ∷ line.Report (1 ∷ 0 ∷ 0 ∷ []) false (1 ∷ 0 ∷ 0 ∷ []) 0
    (2 ∷ 0 ∷ 0 ∷ []) 0 ∷ []
unfolding computed
stops = refl

-- after a restart polls begin at the acknowledged place again, and the places stay until the cursor is past them
restarts : lines_from with_both_children (start with_both_children)
    (command.Poll 0 1 ∷ command.Ack 0 ∷ command.Poll 0 9 ∷ command.Stop 0 1 0 ∷ command.Restart 0 ∷ command.Report ∷ command.Poll 0 1 ∷
    command.Report ∷ command.Ack 0 ∷ command.Restart 0 ∷ command.Poll 0 9 ∷ command.Poll 0 0 ∷ command.Report ∷ [])
    ≡ line.Polled 0 1 ∷ line.Ack 0 1 ∷ line.Polled 0 4 ∷ line.AtEnd 0 ∷ line.Restart 0 1 ∷ line.Report (1 ∷ 0 ∷ 0 ∷ []) false
    (1 ∷ 0 ∷ 0 ∷ []) 0 (5 ∷ 0 ∷ 0 ∷ []) 12 ∷ line.Polled 0 1 ∷ line.Report (1 ∷ 0 ∷ 0 ∷ []) false (2 ∷ 0 ∷ 0 ∷ []) 0 (5 ∷ 0 ∷ 0 ∷ []) 12
    ∷ line.Ack 0 2 ∷ line.Restart 0 2 ∷ line.Polled 0 3 ∷ line.AtEnd 0 ∷ line.Report (2 ∷ 0 ∷ 0 ∷ []) false (5 ∷ 0 ∷ 0 ∷ []) 0
    (5 ∷ 0 ∷ 0 ∷ []) 12 ∷ []
unfolding computed
restarts = refl

-- a poll of no record, and of more than there are
counts : lines_from with_both_children (start with_both_children)
    (command.Poll 0 0 ∷ command.Stop 0 0 0 ∷ command.Poll 0 6 ∷ command.Safe ∷ [])
    ≡ line.Polled 0 0 ∷ line.Stopped 0 0 ∷ line.Polled 0 5 ∷ line.Safe 12 ∷ []
unfolding computed
counts = refl

-- ---- breaks

-- a drain goes up to the break and says so; later commands of a closed session are refused
halts : lines_from (with_late_apply 12) (start (with_late_apply 12))
    (command.Drain ∷ command.Poll 0 1 ∷ command.Failover ∷ command.Poll 0 1 ∷ command.Safe ∷ [])
    ≡ line.Drain 12 ∷ line.Halt 0 4 CommitBelow ∷ line.Halt 0 4 CommitBelow ∷ line.Failover 12 1 ∷ line.Row a (codes "1") ∷ line.Closed 12 ∷
    line.Safe 12 ∷ []
unfolding computed
halts = refl

-- two roots that break, of which the first has two children; one of these would break too, if it were reached
abbrev with_breaks : Logs
with_breaks = record {
  tablets =
      root 0 0 32767 (at 10 (Write (sets a (codes "1") ∷ [])) ∷ at 10 (Safe 9) ∷ at 14 (Split 16384 2 3) ∷ [])
      ∷ root 1 32768 65535 (at 11 (Write (sets z (codes "2") ∷ [])) ∷ at 12 (Safe 13) ∷ at 20 (Safe 20) ∷ [])
      ∷ child 2 0 16383 0 (at 20 (Safe 21) ∷ [])
      ∷ child 3 16384 32767 0 (at 20 (Safe 20) ∷ [])
      ∷ [];
}

breaks-valid : is_valid with_breaks ≡ true
unfolding computed
breaks-valid = refl

-- at the break a poll and a stop answer it each time, and nothing goes past it; also after a restart
at_breaks : lines_from with_breaks (start with_breaks)
    (command.Stop 0 9 0 ∷ command.Poll 0 9 ∷ command.Poll 0 9 ∷ command.Stop 0 9 0 ∷ command.Poll 0 0 ∷ command.Restart 0 ∷ command.Poll 0 1
    ∷ command.Ack 0 ∷ command.Restart 0 ∷ command.Poll 0 1 ∷ command.Poll 1 9 ∷ command.Poll 1 9 ∷ command.Report ∷ [])
    ≡ line.Stopped 0 1 ∷ line.Polled 0 1 ∷ line.Halt 0 2 TimeBack ∷ line.Halt 0 2 TimeBack ∷ line.Halt 0 2 TimeBack ∷ line.Restart 0 0 ∷
    line.Polled 0 1 ∷ line.Ack 0 1 ∷ line.Restart 0 1 ∷ line.Halt 0 2 TimeBack ∷ line.Polled 1 1 ∷ line.Halt 1 2 SafeAhead
    ∷ line.Report (1 ∷ 0 ∷ 0 ∷ 0 ∷ []) false (1 ∷ 1 ∷ 0 ∷ 0 ∷ []) 0 (1 ∷ 1 ∷ 0 ∷ 0 ∷ []) 0 ∷ []
unfolding computed
at_breaks = refl

-- behind a parent that breaks both children wait for ever
behind : lines_from with_breaks (start with_breaks)
    (command.Poll 2 9 ∷ command.Stop 3 9 0 ∷ command.Drain ∷ command.Poll 2 9 ∷ command.Stop 3 9 0 ∷ command.Ack 2 ∷ command.Restart 3 ∷ [])
    ≡ line.Wait 2 0 ∷ line.Wait 3 0 ∷ line.Drain 0 ∷ line.Halt 0 2 TimeBack ∷ line.Halt 1 2 SafeAhead ∷ line.Wait 2 0 ∷ line.Wait 3 0 ∷
    line.Ack 2 0 ∷ line.Restart 3 0 ∷ []
unfolding computed
behind = refl

-- ---- times

-- reads at a time: above the safe time, at it, at the cutoff and below it; a cutoff that is asked for above the safe time, and one below
-- the cutoff
times : lines_from with_both_children (start with_both_children)
    (command.Drain ∷ command.ReadAt 20 a ∷ command.ReadAt 19 a ∷ command.ReadAt 15 z ∷ command.ReadAt 16 z ∷ command.Prune 20 ∷
    command.Prune 16 ∷ command.Prune 12 ∷ command.ReadAt 16 a ∷ command.ReadAt 15 z ∷ command.Scan ∷ command.Report ∷ [])
    ≡ line.Drain 19 ∷ line.Ahead 20 19 ∷ line.ReadAt 19 a (Some (codes "3")) ∷ line.ReadAt 15 z (Some (codes "2")) ∷ line.ReadAt 16 z None ∷
    line.Ahead 20 19 ∷ line.Prune 16 ∷ line.Prune 16 ∷ line.ReadAt 16 a (Some (codes "3")) ∷ line.Pruned 15 16 ∷ line.Scan 19 1 ∷
    line.Row a (codes "3")
    ∷ line.Report (0 ∷ 0 ∷ 0 ∷ []) false (5 ∷ 2 ∷ 2 ∷ []) 16 (5 ∷ 2 ∷ 2 ∷ []) 19 ∷ []
unfolding computed
times = refl

-- a cutoff at the safe time leaves that time alone to be read
at_safe : lines_from with_both_children (start with_both_children)
    (command.Prune 1 ∷ command.Prune 0 ∷ command.Poll 0 9 ∷ command.Prune 12 ∷ command.Prune 13 ∷ command.ReadAt 11 a ∷ command.ReadAt 12 a
    ∷ command.ReadAt 13 a ∷ command.Read z ∷ command.Drain ∷ command.ReadAt 12 a ∷ command.ReadAt 13 a ∷ [])
    ≡ line.Ahead 1 0 ∷ line.Prune 0 ∷ line.Polled 0 5 ∷ line.Prune 12 ∷ line.Ahead 13 12 ∷ line.Pruned 11 12 ∷ line.ReadAt 12 a
    (Some (codes "1")) ∷ line.Ahead 13 12 ∷ line.Read 12 z (Some (codes "2")) ∷ line.Drain 19 ∷ line.ReadAt 12 a (Some (codes "1")) ∷
    line.ReadAt 13 a (Some (codes "1")) ∷ []
unfolding computed
at_safe = refl

-- ---- a closed session

-- closed with the transaction of the children still waiting: each command that changes something is refused, the others answer as at that
-- time
closed : lines_from with_both_children (start with_both_children)
    (command.Poll 0 9 ∷ command.Failover ∷ command.Poll 1 9 ∷ command.Stop 1 9 0 ∷ command.Ack 0 ∷ command.Restart 0 ∷ command.Drain ∷
    command.Prune 12 ∷ command.Failover ∷ command.Safe ∷ command.Read a ∷ command.ReadAt 12 z ∷ command.ReadAt 13 z ∷ command.Scan ∷
    command.Report ∷ [])
    ≡ line.Polled 0 5 ∷ line.Failover 12 2 ∷ line.Row a (codes "1") ∷ line.Row z (codes "2") ∷ line.Closed 12 ∷ line.Closed 12 ∷ line.Closed
    12 ∷ line.Closed 12 ∷ line.Closed 12 ∷ line.Closed 12 ∷ line.Closed 12 ∷ line.Safe 12 ∷ line.Read 12 a (Some (codes "1")) ∷
    line.ReadAt 12 z (Some (codes "2")) ∷ line.Ahead 13 12
    ∷ line.Scan 12 2 ∷ line.Row a (codes "1") ∷ line.Row z (codes "2") ∷ line.Report (0 ∷ 0 ∷ 0 ∷ []) true (5 ∷ 0 ∷ 0 ∷ []) 0
    (5 ∷ 0 ∷ 0 ∷ []) 12 ∷ []
unfolding computed
closed = refl

-- closed before anything was polled
closed_first : lines_from with_both_children (start with_both_children)
    (command.Failover ∷ command.Poll 0 9 ∷ command.Safe ∷ command.ReadAt 0 a ∷ command.ReadAt 1 a ∷ command.Scan ∷ [])
    ≡ line.Failover 0 0 ∷ line.Closed 0 ∷ line.Safe 0 ∷ line.ReadAt 0 a None ∷ line.Ahead 1 0 ∷ line.Scan 0 0 ∷ []
unfolding computed
closed_first = refl
