-- The laws of the source, each the contract of one function of the crate. A source starts from roots, and runs a list of commands, of which
-- each is answered or refused.
--     CommandFits c      what the types of the commands' parts give: keys and values within their lengths, and times within theirs
--     plain c      a commit of the logs without its tablet
--     is_shown logs c      c is a put, or of a transaction that a tablet applied
--     ends logs      the places at which all accepted records are applied
--     rows_listed cs t      the fold of the commits cs up to t
use Rattle.std.specs.Prelude.{◌≡◌, ℕ, ◌≤◌, true, Bool, ◌&&◌, ◌||◌, ◌==◌, List, None, map, filter, length, flat_map, nat_le, []}
use Rattle.std.specs.List.{AllByRecursion}
use Rattle.std.specs.Option.{option_map_or}
use Rattle.xc_base.specs.Names.{is_key, is_value}
use Rattle.xc_time.specs.Times.{last_time}
use Rattle.xc_record.specs.declared.record.Header.{Header}
use Rattle.xc_record.specs.declared.record.Op.{Op}
use Rattle.xc_record.specs.Accepted.{halt, accepted, records, accepted_tablets}
use Rattle.xc_record.specs.Agreement.{disagreement}
use Rattle.xc_record.specs.declared.record.Logs.{Logs}
use Rattle.xc_record.specs.Commits.{Commit as LogCommit, applied, commits}
use Rattle.xc_record.specs.Lists.{has}
use Rattle.xc_record.specs.Rows.{rows, rows_after}
use Rattle.xc_record.specs.SafeTime.{safe_time}
use Rattle.xc_record.specs.Valid.{is_valid}
use Rattle.xc_source.specs.declared.commit.Commit.{Commit}
use Rattle.xc_source.specs.declared.command.SourceCommand.{SourceCommand}
use Rattle.xc_source.specs.declared.command.SourceCommand.TheVariants as command
use Rattle.xc_source.specs.Machine.{start, are_roots, logs_of}
use Rattle.xc_source.specs.Commands.{run}

abbrev pub OpFits : Op → Type 0
OpFits op = (is_key op.key && option_map_or is_value op.value true) ≡ true

abbrev pub CommandFits : SourceCommand → Type 0
CommandFits command.Begin = Unit {0}
CommandFits (command.Write txn op) = OpFits op
CommandFits (command.Put op) = OpFits op
CommandFits (command.Commit txn) = Unit {0}
CommandFits (command.Abort txn) = Unit {0}
CommandFits (command.Apply txn id) = Unit {0}
CommandFits (command.Safe id) = Unit {0}
CommandFits (command.Split id at) = Unit {0}
CommandFits (command.Tick to) = to ≤ last_time
CommandFits command.Finish = Unit {0}
CommandFits (command.Savepoint txn) = Unit {0}
CommandFits (command.Rollback txn sub) = Unit {0}

-- the logs are well-formed
abbrev pub LogsAreValid : Type 0
LogsAreValid = (roots : List Header) (time : ℕ) (commands : List SourceCommand) → are_roots roots ≡ true → time ≤ last_time
    → AllByRecursion CommandFits commands → is_valid (logs_of (run commands (start roots time))) ≡ true

-- no record breaks the order rules: all are accepted
abbrev pub NothingBreaks : Type 0
NothingBreaks = (roots : List Header) (time : ℕ) (commands : List SourceCommand) → are_roots roots ≡ true → time ≤ last_time
    → AllByRecursion CommandFits commands → (s : ℕ)
    → (halt (logs_of (run commands (start roots time))) s ≡ None) ×
    (accepted (logs_of (run commands (start roots time))) s ≡ records (logs_of (run commands (start roots time))) s)

-- the tablets agree: no case of disagreement stands anywhere
abbrev pub LogsAgree : Type 0
LogsAgree = (roots : List Header) (time : ℕ) (commands : List SourceCommand) → are_roots roots ≡ true → time ≤ last_time
    → AllByRecursion CommandFits commands → disagreement (logs_of (run commands (start roots time))) ≡ None

-- ---- commits

-- a commit of the logs as the source lists it, without the tablet
abbrev pub plain : LogCommit → Commit
plain c = record { time = c.time; txn = c.txn; ops = c.ops }

-- a put, or a transaction that a tablet applied
abbrev pub is_shown : Logs → Commit → Bool
is_shown logs c = c.txn == 0 || has c.txn (applied logs)

-- the commits of the logs are those that the source lists, in their order, but for the transactions that no tablet has applied yet
abbrev pub CommitsAreListed : Type 0
CommitsAreListed = (roots : List Header) (time : ℕ) (cs : List SourceCommand) → are_roots roots ≡ true → time ≤ last_time
    → AllByRecursion CommandFits cs
    → map plain (commits (logs_of (run cs (start roots time))))
    ≡ filter (is_shown (logs_of (run cs (start roots time)))) (run cs (start roots time)).commits

-- ---- rows

-- the places at which all accepted records are applied
abbrev pub ends : Logs → List ℕ
ends logs = map (λ b. length b.records) (accepted_tablets logs)

-- the fold of the listed commits up to t, one operation after the other from no row
abbrev pub rows_listed : List Commit → ℕ → List (List ℕ × List ℕ)
rows_listed cs t = rows_after (flat_map (λ c. c.ops) (filter (λ c. nat_le c.time t) cs)) []

-- up to the safe time at the ends of the logs, their rows are the fold of what the source committed, finished or not
abbrev pub RowsAreListed : Type 0
RowsAreListed = (roots : List Header) (time : ℕ) (cs : List SourceCommand) → are_roots roots ≡ true → time ≤ last_time
    → AllByRecursion CommandFits cs → (t : ℕ)
    → t ≤ safe_time (logs_of (run cs (start roots time))) (ends (logs_of (run cs (start roots time))))
    → rows (logs_of (run cs (start roots time))) t ≡ rows_listed (run cs (start roots time)).commits t
