-- The source as a machine: its state, and the parts of it.
--     Transaction      its writes in order, its current subtransaction, those rolled back, and how far it came
--     Machine      where the clock stands, the tablets with their logs, the list of commits, and the begun transactions, of which the
--         one of number n stands at the place n - 1
--     start roots time      the machine as it begins
--     are_roots hs      what it may begin with: no header has a parent, and the headers fit
use Rattle.std.specs.Prelude.{ℕ, ◌-◌, Bool, true, false, ◌&&◌, ◌==◌, not, List, [], Option, Some, None, if◌then◌else◌}
use Rattle.std.specs.Prelude.{slice_get, slice_set, map, filter, is_none, sum_by, length}
use Rattle.std.specs.List.{list_all}
use Rattle.std.specs.Option.{option_map_or}
use Rattle.xc_record.specs.declared.record.Header.{Header}
use Rattle.xc_record.specs.declared.record.Tablet.{Tablet}
use Rattle.xc_record.specs.declared.record.Logs.{Logs}
use Rattle.xc_record.specs.declared.record.Op.{Op}
use Rattle.xc_record.specs.Headers.{are_headers}
use Rattle.xc_record.specs.Lists.{has}
use Rattle.xc_record.specs.Order.{is_split}
use Rattle.xc_source.specs.declared.commit.Commit.{Commit}
use Rattle.xc_source.specs.declared.transaction.Provisional.{Provisional}
use Rattle.xc_source.specs.declared.transaction.Stage.{Stage}
use Rattle.xc_source.specs.declared.transaction.Stage.TheVariants.{Live, Committed, Aborted}

pub record Transaction : Type 0 where
  pub writes : List Provisional
  pub current : ℕ
  pub undone : List ℕ
  pub stage : Stage

pub record Machine : Type 0 where
  pub time : ℕ
  pub tablets : List Tablet
  pub commits : List Commit
  pub txns : List Transaction

abbrev pub logs_of : Machine → Logs
logs_of m = record { tablets = m.tablets }

-- ---- the beginning

abbrev pub are_roots : List Header → Bool
are_roots hs = list_all (λ h. is_none h.parent) hs && are_headers hs

abbrev pub empty_tablet : Header → Tablet
empty_tablet h = record { header = h; records = [] }

abbrev pub start : List Header → ℕ → Machine
start roots time = record { time = time; tablets = map empty_tablet roots; commits = []; txns = [] }

-- ---- tablets

-- a tablet that wasn't split
abbrev pub is_open : Tablet → Bool
is_open t = option_map_or (λ r. not (is_split r.kind)) (slice_get t.records (length t.records - 1)) true

abbrev pub open_tablet : Machine → ℕ → Option Tablet
open_tablet m id = option_map_or (λ t. if is_open t then Some t else None) (slice_get m.tablets id) None

-- how many records there are
abbrev pub records_in : List Tablet → ℕ
records_in ts = sum_by (λ t. length t.records) ts

abbrev pub record_count : Machine → ℕ
record_count m = records_in m.tablets

-- ---- transactions

-- a transaction that has just begun
abbrev pub begun : Transaction
begun = record { writes = []; current = 0; undone = []; stage = Live }

-- the transaction of this number, if it was begun
abbrev pub transaction : Machine → ℕ → Option Transaction
transaction m n = if n == 0 then None else slice_get m.txns (n - 1)

abbrev pub with_transaction : ℕ → Transaction → Machine → Machine
with_transaction n t m = record m { txns = slice_set m.txns (n - 1) t }

abbrev pub is_live : Stage → Bool
is_live Live = true
is_live (Committed commit) = false
is_live Aborted = false

-- the commit of a committed transaction
abbrev pub commit_of : Stage → Option ℕ
commit_of Live = None
commit_of (Committed commit) = Some commit
commit_of Aborted = None

-- the operations that weren't rolled back, in the order written
abbrev pub kept_ops : Transaction → List Op
kept_ops t = map (λ w. w.op) (filter (λ w. not (has w.sub t.undone)) t.writes)
