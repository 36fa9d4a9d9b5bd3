-- What the accepted records say of one key: its path, its events, its versions, and what waits there.
--     path logs k      the accepted records of the tablets that hold the key's hash, parents first
--     path_to logs places k      the same, of each tablet those up to its place
--     events k rs      what the records rs say of the key, in their order
--     fate n sub es      what the events es make of an operation of the subtransaction sub of transaction n that stands before them
--     waiting es      the operations that wait after es, in the order of the path
--     versions es      the versions that es give, by commit and transaction number; those that tie stay in the order of the path
use Rattle.std.specs.Prelude.{ℕ, List, [], ◌∷◌, ◌++◌, Option, if◌then◌else◌, ◌==◌, filter, map, flat_map, take, bytes_eq, slice_index}
use Rattle.std.specs.declared.cmp.Ordering.{Ordering}
use Rattle.std.specs.Ordering.{nat_cmp, ordering_then}
use Rattle.xc_record.specs.declared.record.Kind.{Kind}
use Rattle.xc_record.specs.declared.record.Kind.TheVariants as kind
use Rattle.xc_record.specs.declared.record.Op.{Op}
use Rattle.xc_record.specs.declared.record.Record.{Record}
use Rattle.xc_record.specs.declared.record.Logs.{Logs}
use Rattle.xc_record.specs.Hash.{hash_of, holds}
use Rattle.xc_record.specs.Accepted.{AcceptedTablet, accepted_tablets}
use Rattle.xc_record.specs.Lists.{sort_by, has}

-- ---- the path

unfoldable pub holders : Logs → List ℕ → List AcceptedTablet
holders logs k = filter (λ b. holds b.header (hash_of k)) (accepted_tablets logs)

unfoldable pub path : Logs → List ℕ → List Record
path logs k = flat_map (λ b. b.records) (holders logs k)

unfoldable pub path_to : Logs → List ℕ → List ℕ → List Record
path_to logs places k = flat_map (λ b. take (slice_index places b.header.id) b.records) (holders logs k)

-- ---- the events of a key

-- what an operation writes at its key: a value, or None where it removes the key
abbrev pub Written : Type 0
Written = Option (List ℕ)

pub data Event : Type 0 where
  -- an operation of a write, at its log time
  Put : ℕ → Written → Event
  -- an operation of an intent: the transaction, its subtransaction, and the intent's log time
  Hold : ℕ → ℕ → ℕ → Written → Event
  -- an apply: the transaction, its commit, and the subtransactions that were rolled back
  Apply : ℕ → ℕ → List ℕ → Event
  -- an abort of the transaction
  Abort : ℕ → Event
  -- a safe record of this value
  Safe : ℕ → Event

-- what the operations write at the key, in their order
abbrev pub puts : List ℕ → List Op → List Written
puts k [] = []
puts k (op ∷ ops) = if bytes_eq k op.key then (op.value ∷ puts k ops) else puts k ops

abbrev pub kind_events : List ℕ → ℕ → Kind → List Event
kind_events k time (kind.Write ops) = map (λ v. Put time v) (puts k ops)
kind_events k time (kind.Intent sub n ops) = map (λ v. Hold n sub time v) (puts k ops)
kind_events k time (kind.Apply n commit without) = Apply n commit without ∷ []
kind_events k time (kind.Abort n) = Abort n ∷ []
kind_events k time (kind.Safe value) = Safe value ∷ []
kind_events k time (kind.Split at left right) = []

abbrev pub record_events : List ℕ → Record → List Event
record_events k r = kind_events k r.time r.kind

abbrev pub events : List ℕ → List Record → List Event
events k rs = flat_map (record_events k) rs

-- ---- what becomes of an operation

-- The next apply or abort of its transaction on the path decides.
pub data Fate : Type 0 where
  -- there is none yet
  Waits : Fate
  -- an apply took it, at this commit
  Taken : ℕ → Fate
  -- an apply named its subtransaction as rolled back
  RolledBack : Fate
  -- an abort dropped it
  Dropped : Fate

-- what an apply makes of it
abbrev pub fate_at : ℕ → ℕ → List ℕ → Fate
fate_at sub commit without = if has sub without then RolledBack else Taken commit

abbrev pub fate : ℕ → ℕ → List Event → Fate
fate n sub [] = Waits
fate n sub (Put time v ∷ es) = fate n sub es
fate n sub (Hold m other time v ∷ es) = fate n sub es
fate n sub (Apply m commit without ∷ es) = if m == n then fate_at sub commit without else fate n sub es
fate n sub (Abort m ∷ es) = if m == n then Dropped else fate n sub es
fate n sub (Safe value ∷ es) = fate n sub es

-- an operation that waits
pub record Waiting : Type 0 where
  pub txn : ℕ
  pub sub : ℕ
  pub value : Written

abbrev pub waiting_by : Fate → ℕ → ℕ → Written → List Waiting
waiting_by Waits n sub v = record { txn = n; sub = sub; value = v } ∷ []
waiting_by (Taken commit) n sub v = []
waiting_by RolledBack n sub v = []
waiting_by Dropped n sub v = []

abbrev pub waiting : List Event → List Waiting
waiting [] = []
waiting (Put time v ∷ es) = waiting es
waiting (Hold n sub time v ∷ es) = waiting_by (fate n sub es) n sub v ++ waiting es
waiting (Apply n commit without ∷ es) = waiting es
waiting (Abort n ∷ es) = waiting es
waiting (Safe value ∷ es) = waiting es

-- a version of the key: its commit, its transaction (0: a write), and what it leaves there
pub record Version : Type 0 where
  pub commit : ℕ
  pub txn : ℕ
  pub value : Written

abbrev pub version_by : Fate → ℕ → Written → List Version
version_by Waits n v = []
version_by (Taken commit) n v = record { commit = commit; txn = n; value = v } ∷ []
version_by RolledBack n v = []
version_by Dropped n v = []

-- in the order of the path
abbrev pub versions_along : List Event → List Version
versions_along [] = []
versions_along (Put time v ∷ es) = record { commit = time; txn = 0; value = v } ∷ versions_along es
versions_along (Hold n sub time v ∷ es) = version_by (fate n sub es) n v ++ versions_along es
versions_along (Apply n commit without ∷ es) = versions_along es
versions_along (Abort n ∷ es) = versions_along es
versions_along (Safe value ∷ es) = versions_along es

abbrev pub version_cmp : Version → Version → Ordering
version_cmp x y = ordering_then (nat_cmp x.commit y.commit) (nat_cmp x.txn y.txn)

abbrev pub versions : List Event → List Version
versions es = sort_by version_cmp (versions_along es)
