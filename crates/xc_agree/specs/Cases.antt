-- The first case of disagreement, tablet by tablet.
--     IsFirst first cases      first has the least transaction with a case, and that case
--     left_of lefts i      what the records of the tablet at i left waiting
--     held_from lefts parent      what the parent's records left waiting; nothing for a root
--     AreLast lasts ts      no tablet of ts has a child after the number that lasts has for it
--     AreLeft lefts lasts commits bs      lefts has what each of the tablets bs with a child to come left waiting
--     Drops lefts after lasts parent id      after is lefts without what the parent left, where the tablet `id` is its last child
--     cases_of logs commits bs n      the first case of the transaction n at the tablets bs
use Rattle.std.specs.Prelude.{◌≡◌, ℕ, ◌+◌, ◌<◌, ◌≤◌, ◌==◌, false, if◌then◌else◌, nat_le, Bool, List, [], Option, Some, None, ◌&&◌}
use Rattle.std.specs.Prelude.{MatchOption, slice_get, length, option_map, option_and_then, is_some, take, flat_map, filter}
use Rattle.std.specs.Option.{option_map_or}
use Rattle.std.specs.declared.vec.Vec.{Vec}
use Rattle.std.specs.declared.alloc.Global.{Global}
use Rattle.xc_record.specs.declared.record.AgreeKind.{AgreeKind}
use Rattle.xc_record.specs.declared.record.Record.{Record}
use Rattle.xc_record.specs.declared.record.Logs.{Logs}
use Rattle.xc_record.specs.declared.record.Tablet.{Tablet}
use Rattle.xc_record.specs.Hash.{holds}
use Rattle.xc_record.specs.Accepted.{AcceptedTablet}
use Rattle.xc_record.specs.Agreement.{Disagreement, kind_at}
use Rattle.xc_record.specs.Lists.{first_some, or_else}
use Rattle.xc_agree.specs.declared.cases.Case.{Case}
use Rattle.xc_agree.specs.declared.held.Held.{Held}
use Rattle.xc_agree.specs.declared.commits.Commit.{Commit}
use Rattle.xc_agree.specs.Slots.{time_of}
use Rattle.xc_agree.specs.Held.{is_held, writes_at, waits_by, InSlots}

abbrev pub case_of : ℕ → ℕ → AgreeKind → Disagreement
case_of txn tablet kind = record { txn = txn; tablet = tablet; kind = kind }

abbrev pub IsFirst : Option Case → (ℕ → Option Disagreement) → Type 0
IsFirst first cases =
    MatchOption first ((n : ℕ) → cases n ≡ None)
    (λ d. (cases d.txn ≡ Some (case_of d.txn d.tablet d.kind)) × ((n : ℕ) → n < d.txn → cases n ≡ None))

-- with the cases of one more tablet
abbrev pub with_cases : ℕ → (ℕ → Option AgreeKind) → (ℕ → Option Disagreement) → ℕ → Option Disagreement
with_cases tablet kinds cases n = or_else (cases n) (option_map (case_of n tablet) (kinds n))

abbrev pub items_of : Vec Held Global → List Held
items_of v = v.items

abbrev pub left_of : List (Vec Held Global) → ℕ → List Held
left_of lefts i = option_map_or items_of (slice_get lefts i) []

abbrev pub held_from : List (Vec Held Global) → Option ℕ → List Held
held_from lefts None = []
held_from lefts (Some parent) = left_of lefts parent

-- the records of the path of a hash, the tablet at i with them
abbrev pub line_through : List AcceptedTablet → ℕ → ℕ → List Record
line_through bs i h = flat_map (λ b. b.records) (filter (λ b. holds b.header h) (take (i + 1) bs))

-- an upper bound: that the number is a child's is not said, since what is judged doesn't depend on it
abbrev pub AreLast : List ℕ → List Tablet → Type 0
AreLast lasts ts = (i p k : ℕ) (t : Tablet) → slice_get ts i ≡ Some t → t.header.parent ≡ Some p → slice_get lasts p ≡ Some k → i ≤ k

-- what each tablet with a child to come left waiting: at each hash of its range what waits there after the path
pub record AreLeft (lefts : List (Vec Held Global)) (lasts : List ℕ) (commits : List Commit) (bs : List AcceptedTablet) : Type 0 where
  pub count : length lefts ≡ length bs
  pub slots : (i : ℕ) → InSlots commits (left_of lefts i)
  pub each : (i k : ℕ) (b : AcceptedTablet) → slice_get bs i ≡ Some b → slice_get lasts i ≡ Some k → length bs ≤ k → (n h : ℕ)
      → is_held (left_of lefts i) n h ≡
      (is_some (time_of commits n) && (holds b.header h && waits_by n (writes_at h) false (line_through bs i h)))

-- the tablet i is the parent, and has its last child at `id` or before
abbrev pub is_done : List ℕ → Option ℕ → ℕ → ℕ → Bool
is_done lasts parent id i = option_map_or (λ p. p == i) parent false && option_map_or (λ last. nat_le last id) (slice_get lasts i) false

-- what the tablets left, without that of a parent that is done
pub record Drops (lefts after : List (Vec Held Global)) (lasts : List ℕ) (parent : Option ℕ) (id : ℕ) : Type 0 where
  pub count : length after ≡ length lefts
  pub each : (i : ℕ) → left_of after i ≡ (if is_done lasts parent id i then [] else left_of lefts i)

-- the first case of the transaction at the tablets
abbrev pub cases_of : Logs → List Commit → List AcceptedTablet → ℕ → Option Disagreement
cases_of logs commits bs n =
    option_and_then (λ c. first_some (λ b. option_map (case_of n b.header.id) (kind_at logs n c b)) bs) (time_of commits n)

abbrev pub of_tablets : List Tablet → Logs
of_tablets ts = record { tablets = ts }

abbrev pub all_records : List AcceptedTablet → List Record
all_records bs = flat_map (λ b. b.records) bs
