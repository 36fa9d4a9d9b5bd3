-- What one transaction does on one tablet, record by record.
--     Seen      what was seen so far: how many records, the place and the value of the last safe record, the place at which the
--               transaction began to wait, and which cases of disagreement stand
--     see n commit undone s r      the same after the record r, for the transaction n, which commits at `commit` without the
--         subtransactions `undone`
--     kind_seen s      the first kind of the cases that stand
--     IsLeast found kinds      found has the least transaction with a kind, and that kind
--     since_at look slot, since_in commits look n      the place since which the slot, or the transaction, waits by the look
--     is_in_slot commits txn slot      the transaction commits, and is in the slot
--     IsIdle look commits      nothing waits by the look, which has a slot for each commit
--     IsLook look commits seen      the look has of each transaction what is seen of it
use Rattle.std.specs.Prelude.{◌≡◌, ℕ, ◌+◌, ◌<◌, Bool, true, false, List, [], ◌∷◌, Option, Some, None, ◌&&◌, ◌||◌, ◌==◌, not, nat_le, nat_lt}
use Rattle.std.specs.Prelude.{bytes_eq, if◌then◌else◌, MatchOption, option_and_then, is_some, slice_get, length}
use Rattle.std.specs.List.{list_any, list_all}
use Rattle.std.specs.Option.{option_map_or}
use Rattle.xc_record.specs.declared.record.AgreeKind.{AgreeKind}
use Rattle.xc_record.specs.declared.record.AgreeKind.TheVariants.{CommitDiffers, RollbackDiffers, LateIntent, Aborted, Straggler}
use Rattle.xc_record.specs.declared.record.Kind.{Kind}
use Rattle.xc_record.specs.declared.record.Kind.TheVariants.{Write, Intent, Apply, Abort, Safe, Split}
use Rattle.xc_record.specs.declared.record.Record.{Record}
use Rattle.xc_record.specs.declared.record.Header.{Header}
use Rattle.xc_record.specs.Hash.{holds}
use Rattle.xc_record.specs.Agreement.{first_kind, rank}
use Rattle.xc_agree.specs.declared.held.Held.{Held}
use Rattle.xc_record.specs.Lists.{or_else}
use Rattle.xc_agree.specs.declared.look.Found.{Found}
use Rattle.xc_agree.specs.declared.look.Look.{Look}
use Rattle.xc_agree.specs.declared.look.Waiter.{Waiter}
use Rattle.xc_agree.specs.declared.commits.Commit.{Commit}
use Rattle.xc_agree.specs.Slots.{time_of, undone_of, slot_of}

pub record Seen : Type 0 where
  pub place : ℕ
  pub safe : ℕ
  pub floor : ℕ
  -- 0 where it waits since before the first record
  pub since : Option ℕ
  pub differs : Bool
  pub undoes : Bool
  pub late : Bool
  pub aborted : Bool
  pub straggles : Bool

-- before the first record
abbrev pub unseen : Bool → Seen
unseen waits =
    record {
      place = 0;
      safe = 0;
      floor = 0;
      since = if waits then Some 0 else None;
      differs = false;
      undoes = false;
      late = false;
      aborted
          = false;
      straggles = false;
    }

-- the transaction waits, and waited at a safe record of value at or above the commit: the last one shows it, since their values don't fall
abbrev pub pends : ℕ → Seen → Bool
pends commit s = option_map_or (λ since. nat_lt since s.safe && nat_le commit s.floor) s.since false

abbrev pub passes : Seen → Seen
passes s = record s { place = s.place + 1 }

abbrev pub settles : ℕ → Seen → Seen
settles commit s = record s { place = s.place + 1; since = None; straggles = s.straggles || pends commit s }

-- an apply with this commit, without these subtransactions
abbrev pub settles_as : ℕ → List ℕ → Seen → ℕ → List ℕ → Seen
settles_as commit undone s c without =
    record (settles commit s) { differs = s.differs || not (c == commit); undoes = s.undoes || not (bytes_eq without undone) }

abbrev pub see_kind : ℕ → ℕ → List ℕ → Seen → ℕ → Kind → Seen
see_kind n commit undone s time (Write ops) = passes s
see_kind n commit undone s time (Intent sub txn ops) =
    if txn == n then record s { place = s.place + 1; since = or_else s.since (Some (s.place + 1)); late = s.late || nat_le commit time }
    else passes s
see_kind n commit undone s time (Apply txn c without) = if txn == n then settles_as commit undone s c without else passes s
see_kind n commit undone s time (Abort txn) = if txn == n then record (settles commit s) { aborted = true } else passes s
see_kind n commit undone s time (Safe value) = record s { place = s.place + 1; safe = s.place + 1; floor = value }
see_kind n commit undone s time (Split at left right) = passes s

abbrev pub see : ℕ → ℕ → List ℕ → Seen → Record → Seen
see n commit undone s r = see_kind n commit undone s r.time r.kind

abbrev pub kind_of : Bool → Bool → Bool → Bool → Bool → Option AgreeKind
kind_of differs undoes late aborted straggles =
    first_kind ((differs, CommitDiffers) ∷ (undoes, RollbackDiffers) ∷ (late, LateIntent) ∷ (aborted, Aborted) ∷ (straggles, Straggler) ∷
    [])

abbrev pub kind_seen : Seen → Option AgreeKind
kind_seen s = kind_of s.differs s.undoes s.late s.aborted s.straggles

-- at the end, where what waits may pend
abbrev pub kind_at_end : ℕ → Seen → Option AgreeKind
kind_at_end commit s = kind_of s.differs s.undoes s.late s.aborted (s.straggles || pends commit s)

abbrev pub earlier : AgreeKind → Option AgreeKind → AgreeKind
earlier kind None = kind
earlier kind (Some other) = if nat_le (rank other) (rank kind) then other else kind

abbrev pub IsLeast : Option Found → (ℕ → Option AgreeKind) → Type 0
IsLeast found kinds =
    MatchOption found ((n : ℕ) → kinds n ≡ None) (λ f. (kinds f.txn ≡ Some f.kind) × ((n : ℕ) → n < f.txn → kinds n ≡ None))

-- with this kind of the transaction too
abbrev pub with_kind : ℕ → AgreeKind → (ℕ → Option AgreeKind) → ℕ → Option AgreeKind
with_kind txn kind kinds n = if n == txn then Some (earlier kind (kinds n)) else kinds n

-- found, with this case too where it stands
abbrev pub IsLeastWith : Option Found → Bool → ℕ → AgreeKind → Option Found → Type 0
IsLeastWith found stands txn kind more = (kinds : ℕ → Option AgreeKind) → IsLeast found kinds
    → IsLeast more (λ n. if stands then with_kind txn kind kinds n else kinds n)

-- where the transaction in the slot began to wait
abbrev pub waits_at : List (Option ℕ) → ℕ → Option ℕ
waits_at waiting slot = option_and_then (λ since. since) (slice_get waiting slot)

abbrev pub since_at : Look → ℕ → Option ℕ
since_at look slot = waits_at look.waiting.items slot

abbrev pub is_slot_of : ℕ → List Waiter → Bool
is_slot_of i ws = list_any (λ w. w.slot == i) ws

-- where the transaction began to wait
abbrev pub since_in : List Commit → Look → ℕ → Option ℕ
since_in commits look n = option_and_then (since_at look) (slot_of commits n)

abbrev pub pended : ℕ → Look → Option ℕ → Bool
pended commit look since = option_map_or (λ since. nat_lt since look.safe && nat_le commit look.floor) since false

abbrev pub pends_at : ℕ → Look → ℕ → Bool
pends_at commit look slot = pended commit look (since_at look slot)

abbrev pub pends_in : List Commit → ℕ → Look → ℕ → Bool
pends_in commits commit look n = pended commit look (since_in commits look n)

-- the transaction is in the slot
abbrev pub is_in_slot : List Commit → ℕ → ℕ → Bool
is_in_slot commits txn slot = option_map_or (λ i. i == slot) (slot_of commits txn) false

abbrev pub AreInSlots : List Commit → List Waiter → Type 0
AreInSlots commits ws = list_all (λ w. is_in_slot commits w.txn w.slot) ws ≡ true

pub record KeepsPlace (old new : Look) : Type 0 where
  pub place : new.place ≡ old.place
  pub safe : new.safe ≡ old.safe
  pub floor : new.floor ≡ old.floor
  pub slots : length new.waiting.items ≡ length old.waiting.items

-- what waits in a slot is among what began to
abbrev pub Began : Look → Type 0
Began look = (i : ℕ) → is_some (since_at look i) ≡ true → is_slot_of i look.began.items ≡ true

-- nothing waits, in as many slots as there are commits
pub record IsIdle (look : Look) (commits : List Commit) : Type 0 where
  pub slots : length look.waiting.items ≡ length commits
  pub idle : (i : ℕ) → since_at look i ≡ None
  pub began : look.began.items ≡ []

-- the look has, of each transaction that commits, what is seen of it
pub record IsLook (look : Look) (commits : List Commit) (seen : ℕ → ℕ → Seen) : Type 0 where
  pub place : (n c : ℕ) → (seen n c).place ≡ look.place
  pub safe : (n c : ℕ) → (seen n c).safe ≡ look.safe
  pub floor : (n c : ℕ) → (seen n c).floor ≡ look.floor
  pub since : (n : ℕ) → since_in commits look n ≡ option_and_then (λ c. (seen n c).since) (time_of commits n)
  pub found : IsLeast look.found (λ n. option_and_then (λ c. kind_seen (seen n c)) (time_of commits n))
  pub slots : length look.waiting.items ≡ length commits
  pub began : Began look
  pub waiters : AreInSlots commits look.began.items

-- the look after a record of this time and kind
abbrev pub Takes : Look → Look → List Commit → ℕ → Kind → Type 0
Takes old new commits time kind = (seen : ℕ → ℕ → Seen) → IsLook old commits seen
    → IsLook new commits (λ n c. see_kind n c (undone_of commits n) (seen n c) time kind)

-- the transaction waits by what was held, at a hash of the range
abbrev pub waits_from : Header → List Held → ℕ → Bool
waits_from header held n = list_any (λ x. x.txn == n && holds header x.hash) held

-- at a tablet's end
abbrev pub IsEnd : Option Found → List Commit → (ℕ → ℕ → Seen) → Type 0
IsEnd found commits seen = IsLeast found (λ n. option_and_then (λ c. kind_at_end c (seen n c)) (time_of commits n))

-- as at a tablet's end, where the transaction was tried there
abbrev pub kind_tried : Bool → ℕ → Seen → Option AgreeKind
kind_tried tried commit s = kind_of s.differs s.undoes s.late s.aborted (s.straggles || (tried && pends commit s))

abbrev pub is_among : ℕ → List ℕ → Bool
is_among n ns = list_any (λ m. m == n) ns
