-- Each call of the source: what it answers, and the machine after it. A refused call leaves the machine as it is.
--     Case X      an answer, and the machine after it
--     first_of rs      the first refusal of the list, in which each stands as it is looked at
--     Answers result before after case      the call answered and stepped as its case says, or memory was out and all is as before
use Rattle.std.specs.Prelude.{◌≡◌, ◌⊎◌, ℕ, ◌+◌, ◌-◌, ◌^◌, min, Bool, true, false, ◌&&◌, ◌||◌, ◌==◌, not, nat_le, nat_lt, List, [], ◌∷◌}
use Rattle.std.specs.Prelude.{◌++◌}
use Rattle.std.specs.Prelude.{Option, Some, None, Result, Ok, Err, if◌then◌else◌, length, map, fold, is_none, is_some, option_map}
use Rattle.std.specs.Prelude.{slice_get}
use Rattle.std.specs.List.{position_or_len, range_with_len}
use Rattle.std.specs.Option.{option_map_or}
use Rattle.xc_base.specs.declared.limits.TheConstants.{MOST_RECORDS, MOST_TABLETS, LAST_SUB}
use Rattle.xc_time.specs.Times.{last_time}
use Rattle.xc_record.specs.declared.record.Header.{Header}
use Rattle.xc_record.specs.declared.record.Kind.{Kind}
use Rattle.xc_record.specs.declared.record.Kind.TheVariants as kind
use Rattle.xc_record.specs.declared.record.Op.{Op}
use Rattle.xc_record.specs.declared.record.Tablet.{Tablet}
use Rattle.xc_record.specs.Grown.{with_record}
use Rattle.xc_record.specs.Hash.{hash_of, holds}
use Rattle.xc_record.specs.Lists.{or_else, least, has, insert_number}
use Rattle.xc_source.specs.declared.commit.Commit.{Commit}
use Rattle.xc_source.specs.declared.fail.SourceFail.{SourceFail}
use Rattle.xc_source.specs.declared.fail.SourceFail.TheVariants.{Unknown, Ended, Conflict, NotOpen, NotCommitted, NotThere, BadPlace}
use Rattle.xc_source.specs.declared.fail.SourceFail.TheVariants.{NoSavepoint}
use Rattle.xc_source.specs.declared.fail.SourceFail.TheVariants.{Full, ClockEnd, Back, NoMemory}
use Rattle.xc_source.specs.declared.transaction.Provisional.{Provisional}
use Rattle.xc_source.specs.declared.transaction.Stage.TheVariants.{Committed, Aborted}
use Rattle.xc_source.specs.Machine.{Machine, Transaction, transaction, with_transaction, begun, is_live, commit_of, kept_ops, is_open}
use Rattle.xc_source.specs.Machine.{open_tablet}
use Rattle.xc_source.specs.Machine.{record_count, empty_tablet}
use Rattle.xc_source.specs.Waiting.{waits_on, tablets_of, open_tablets, holder, commits_on, pending, taken}

abbrev pub Case : Type 0 → Type 0
Case X = Result X SourceFail × Machine

-- ---- refusals

abbrev pub when : Bool → SourceFail → Option SourceFail
when b fail = if b then Some fail else None

abbrev pub first_of : List (Option SourceFail) → Option SourceFail
first_of [] = None
first_of (r ∷ rs) = or_else r (first_of rs)

abbrev pub unknown : Machine → ℕ → Option SourceFail
unknown m n = when (is_none (transaction m n)) (Unknown n)

abbrev pub ended : Machine → ℕ → Option SourceFail
ended m n = when (not (option_map_or (λ t. is_live t.stage) (transaction m n) false)) (Ended n)

-- nothing may be done with a transaction that isn't live
abbrev pub not_live : Machine → ℕ → Option SourceFail
not_live m n = first_of (unknown m n ∷ ended m n ∷ [])

abbrev pub conflict : Machine → ℕ → Op → Option SourceFail
conflict m n op = option_map (λ other. Conflict other) (holder m n op.key)

abbrev pub not_open : Machine → ℕ → Option SourceFail
not_open m id = when (is_none (open_tablet m id)) (NotOpen id)

-- there may be MOST_RECORDS records at most
abbrev pub full : Machine → ℕ → Option SourceFail
full m more = when (nat_lt MOST_RECORDS (record_count m + more)) Full

-- as many times are needed
abbrev pub clock_end : Machine → ℕ → Option SourceFail
clock_end m more = when (nat_lt last_time (m.time + more)) ClockEnd

abbrev pub no_room : Machine → ℕ → Option SourceFail
no_room m more = first_of (full m more ∷ clock_end m more ∷ [])

-- the case of a call: its refusal, or else its answer and the machine after it
abbrev pub unless : {X : Type 0} → Option SourceFail → Machine → X → Machine → Case X
unless (Some fail) before answer after = (Err fail, before)
unless None before answer after = (Ok answer, after)

-- ---- the log

-- a record of the tablet, at the clock's next time
abbrev pub logged : ℕ → Kind → Machine → Machine
logged id kind m = record m {
  time = m.time + 1;
  tablets = with_record id (record { time = m.time + 1; kind = kind }) m.tablets;
}

-- the open tablet that holds the key
abbrev pub tablet_in : List ℕ → List Tablet → ℕ
tablet_in key ts = position_or_len (λ t. is_open t && holds t.header (hash_of key)) ts

abbrev pub tablet_of : Machine → List ℕ → ℕ
tablet_of m key = tablet_in key m.tablets

-- ---- transactions

abbrev pub begin_refusal : Machine → Option SourceFail
begin_refusal m = when (nat_le (2 ^ 32 - 1) (length m.txns)) Full

abbrev pub begin : Machine → Case ℕ
begin m =
    unless (begin_refusal m) m (length m.txns + 1) (record m { txns = m.txns ++ begun ∷ [] })

abbrev pub written : Op → Transaction → Transaction
written op t = record t { writes = t.writes ++ record { sub = t.current; op = op; waits = true } ∷ [] }

abbrev pub write_after : ℕ → Op → Machine → Transaction → Machine
write_after n op m t = logged (tablet_of m op.key) (kind.Intent t.current n (op ∷ [])) (with_transaction n (written op t) m)

-- the machine after something is done with the transaction of this number
abbrev pub to_transaction : (Transaction → Machine) → Machine → ℕ → Machine
to_transaction f m n = option_map_or f (transaction m n) m

abbrev pub write_refusal : ℕ → Op → Machine → Option SourceFail
write_refusal n op m = first_of (unknown m n ∷ ended m n ∷ conflict m n op ∷ full m 1 ∷ clock_end m 1 ∷ [])

abbrev pub write : ℕ → Op → Machine → Case ℕ
write n op m =
    unless (write_refusal n op m) m (m.time + 1)
    (to_transaction (write_after n op m) m n)

abbrev pub with_commit : ℕ → ℕ → List Op → Machine → Machine
with_commit time n ops m = record m { commits = m.commits ++ record { time = time; txn = n; ops = ops } ∷ [] }

abbrev pub put_after : Op → Machine → Machine
put_after op m = with_commit (m.time + 1) 0 (op ∷ []) (logged (tablet_of m op.key) (kind.Write (op ∷ [])) m)

abbrev pub put_refusal : Op → Machine → Option SourceFail
put_refusal op m = first_of (conflict m 0 op ∷ full m 1 ∷ clock_end m 1 ∷ [])

abbrev pub put : Op → Machine → Case ℕ
put op m =
    unless (put_refusal op m) m (m.time + 1)
    (put_after op m)

-- a transaction that wrote nothing is not listed
abbrev pub commits_and : ℕ → ℕ → Transaction → List Commit → List Commit
commits_and time n t cs = if length t.writes == 0 then cs else (cs ++ record { time = time; txn = n; ops = kept_ops t } ∷ [])

abbrev pub listed : ℕ → ℕ → Transaction → Machine → Machine
listed time n t m = record m { commits = commits_and time n t m.commits }

abbrev pub committed : ℕ → Transaction → Transaction
committed time t = record t { stage = Committed time }

abbrev pub commit_after : ℕ → Machine → Transaction → Machine
commit_after n m t =
    listed (m.time + 1) n t (with_transaction n (committed (m.time + 1) t) (record m { time = m.time + 1 }))

abbrev pub commit_refusal : ℕ → Machine → Option SourceFail
commit_refusal n m = first_of (unknown m n ∷ ended m n ∷ clock_end m 1 ∷ [])

abbrev pub commit : ℕ → Machine → Case ℕ
commit n m =
    unless (commit_refusal n m) m (m.time + 1) (to_transaction (commit_after n m) m n)

-- what waited of it was taken by its aborts
abbrev pub aborted_write : Provisional → Provisional
aborted_write w = record w { waits = false }

abbrev pub aborted : Transaction → Transaction
aborted t = record t { stage = Aborted; writes = map aborted_write t.writes }

-- an abort record on each of the tablets
abbrev pub with_aborts : ℕ → List ℕ → Machine → Machine
with_aborts n ids m = fold (λ m' id. logged id (kind.Abort n) m') m ids

-- the tablets on which something of the transaction of this number waits
abbrev pub tablets_with : Machine → ℕ → List ℕ
tablets_with m n = option_map_or (λ t. tablets_of m t) (transaction m n) []

-- on how many tablets it waits
abbrev pub places_of : Machine → ℕ → ℕ
places_of m n = option_map_or (λ t. length (tablets_of m t)) (transaction m n) 0

abbrev pub marked : ℕ → Machine → Transaction → Machine
marked n m t = with_transaction n (aborted t) m

abbrev pub abort_after : ℕ → Machine → Transaction → Machine
abort_after n m t = with_aborts n (tablets_of m t) (marked n m t)

abbrev pub abort_refusal : ℕ → Machine → Option SourceFail
abort_refusal n m = first_of (unknown m n ∷ ended m n ∷ full m (places_of m n) ∷ clock_end m (places_of m n) ∷ [])

abbrev pub abort : ℕ → Machine → Case (Unit {0})
abort n m =
    unless (abort_refusal n m) m tt
    (to_transaction (abort_after n m) m n)

-- ---- applies

abbrev pub is_committed : Machine → ℕ → Bool
is_committed m n = option_map_or (λ t. is_some (commit_of t.stage)) (transaction m n) false

abbrev pub waits_at : Machine → ℕ → ℕ → Bool
waits_at m n id = option_map_or (λ t. option_map_or (λ b. waits_on b.header t) (slice_get m.tablets id) false) (transaction m n) false

abbrev pub apply_kind : ℕ → Transaction → Kind
apply_kind n t = kind.Apply n (option_map_or (λ commit. commit) (commit_of t.stage) 0) t.undone

-- the machine when the transaction was applied on the tablet
abbrev pub applied : ℕ → ℕ → Machine → Machine
applied n id m =
    to_transaction
    (λ t. logged id (apply_kind n t) (option_map_or (λ b. with_transaction n (taken b.header t) m) (slice_get m.tablets id) m)) m n

abbrev pub apply_refusal : ℕ → ℕ → Machine → Option SourceFail
apply_refusal n id m =
    first_of
    (unknown m n ∷ not_open m id ∷ when (not (is_committed m n)) (NotCommitted n) ∷ when (not (waits_at m n id)) (NotThere id)
    ∷ full m 1 ∷ clock_end m 1 ∷ [])

abbrev pub apply : ℕ → ℕ → Machine → Case ℕ
apply n id m =
    unless (apply_refusal n id m) m (m.time + 1) (applied n id m)

-- ---- safe times

-- the lesser of the log time and, over the committed transactions that wait on the tablet with this header, the least commit minus 1
abbrev pub safe_on : Machine → Header → ℕ
safe_on m header = min (m.time + 1) (least (map (λ commit. commit - 1) (commits_on m header)))

abbrev pub safe_value : Machine → ℕ → ℕ
safe_value m id = option_map_or (λ b. safe_on m b.header) (slice_get m.tablets id) 0

abbrev pub with_safe : ℕ → Machine → Machine
with_safe id m = logged id (kind.Safe (safe_value m id)) m

abbrev pub safe_refusal : ℕ → Machine → Option SourceFail
safe_refusal id m = first_of (not_open m id ∷ full m 1 ∷ clock_end m 1 ∷ [])

abbrev pub safe : ℕ → Machine → Case ℕ
safe id m = unless (safe_refusal id m) m (safe_value m id) (with_safe id m)

abbrev pub applied_pairs : List (ℕ × ℕ) → Machine → Machine
applied_pairs ps m = fold (λ m' p. applied p.0 p.1 m') m ps

-- all that committed transactions have waiting is applied
abbrev pub all_applied : Machine → Machine
all_applied m = applied_pairs (pending m) m

abbrev pub all_safe : List ℕ → Machine → Machine
all_safe ids m = fold (λ m' id. with_safe id m') m ids

-- the records that a finish logs
abbrev pub finish_count : Machine → ℕ
finish_count m = length (pending m) + length (open_tablets m)

abbrev pub finish_refusal : Machine → Option SourceFail
finish_refusal m = first_of (full m (finish_count m) ∷ clock_end m (finish_count m) ∷ [])

abbrev pub finish : Machine → Case (Unit {0})
finish m =
    unless (finish_refusal m) m tt (all_safe (open_tablets m) (all_applied m))

-- ---- splits and the clock

-- the hash is below the range's second or above its last
abbrev pub bad_place : Machine → ℕ → ℕ → Option SourceFail
bad_place m id at =
    option_map_or (λ b. when (nat_le at b.header.lo || nat_lt b.header.hi at) (BadPlace b.header.lo b.header.hi))
    (slice_get m.tablets id) None

-- there may be MOST_TABLETS tablets at most
abbrev pub tablets_full : Machine → Option SourceFail
tablets_full m = when (nat_lt MOST_TABLETS (length m.tablets + 2)) Full

abbrev pub child : ℕ → ℕ → ℕ → ℕ → Tablet
child id lo hi parent = empty_tablet (record { id = id; lo = lo; hi = hi; parent = Some parent })

abbrev pub split_after : ℕ → ℕ → Machine → Header → Machine
split_after id at m h =
    let left = length m.tablets in
    let m' = logged id (kind.Split at left (left + 1)) m in
    record m' { tablets = m'.tablets ++ child left h.lo (at - 1) id ∷ child (left + 1) at h.hi id ∷ [] }

abbrev pub split_refusal : ℕ → ℕ → Machine → Option SourceFail
split_refusal id at m = first_of (not_open m id ∷ bad_place m id at ∷ tablets_full m ∷ full m 1 ∷ clock_end m 1 ∷ [])

abbrev pub split : ℕ → ℕ → Machine → Case (ℕ × ℕ)
split id at m =
    unless (split_refusal id at m) m
    (length m.tablets, length m.tablets + 1) (option_map_or (λ b. split_after id at m b.header) (slice_get m.tablets id) m)

abbrev pub tick : ℕ → Machine → Case (Unit {0})
tick to m = unless (when (nat_lt to m.time) (Back m.time)) m tt (record m { time = to })

-- ---- savepoints

-- a transaction has LAST_SUB subtransactions at most
abbrev pub subs_full : Machine → ℕ → Option SourceFail
subs_full m n = when (option_map_or (λ t. nat_le LAST_SUB t.current) (transaction m n) false) Full

-- the number of the subtransaction that would begin
abbrev pub next_sub : Machine → ℕ → ℕ
next_sub m n = option_map_or (λ t. t.current + 1) (transaction m n) 0

abbrev pub next_begun : Transaction → Transaction
next_begun t = record t { current = t.current + 1 }

abbrev pub savepoint_refusal : ℕ → Machine → Option SourceFail
savepoint_refusal n m = first_of (unknown m n ∷ ended m n ∷ subs_full m n ∷ [])

abbrev pub savepoint : ℕ → Machine → Case ℕ
savepoint n m =
    unless (savepoint_refusal n m) m (next_sub m n)
    (to_transaction (λ t. with_transaction n (next_begun t) m) m n)

-- a subtransaction that was begun and isn't rolled back
abbrev pub is_savepoint : ℕ → Transaction → Bool
is_savepoint sub t = nat_le 1 sub && (nat_le sub t.current && not (has sub t.undone))

abbrev pub no_savepoint : Machine → ℕ → ℕ → Option SourceFail
no_savepoint m n sub = when (not (option_map_or (is_savepoint sub) (transaction m n) false)) (NoSavepoint sub)

-- the numbers from `sub` up to the current one are rolled back too
abbrev pub undone_from : ℕ → Transaction → Transaction
undone_from sub t =
    record t { undone = fold (λ undone n. insert_number n undone) t.undone (range_with_len sub (t.current + 1 - sub)) }

abbrev pub roll_back_refusal : ℕ → ℕ → Machine → Option SourceFail
roll_back_refusal n sub m = first_of (unknown m n ∷ ended m n ∷ no_savepoint m n sub ∷ subs_full m n ∷ [])

abbrev pub roll_back : ℕ → ℕ → Machine → Case ℕ
roll_back n sub m =
    unless (roll_back_refusal n sub m) m (next_sub m n)
    (to_transaction (λ t. with_transaction n (next_begun (undone_from sub t)) m) m n)

-- ---- what a call's contract says

pub record Steps {X : Type 0} (result : Result X SourceFail) (after : Machine) (case : Case X) : Type 0 where
  pub answer : result ≡ case.0
  pub machine : after ≡ case.1

-- memory was out, and all is as before
pub record IsOutOfMemory {X : Type 0} (result : Result X SourceFail) (before after : Machine) : Type 0 where
  pub answer : result ≡ Err NoMemory
  pub machine : after ≡ before

abbrev pub Answers : {X : Type 0} → Result X SourceFail → Machine → Machine → Case X → Type 0
Answers result before after case = IsOutOfMemory result before after ⊎ Steps result after case
