-- The index of the live transactions by the keys that they have waiting writes of.
--     numbered ts n      the transaction of number n
--     changed f n ts      the transactions, with f done to the one of number n
--     is_holder ts key n      the transaction of number n is live and has a waiting write of the key
--     AreHolders f ts      f tells of each key the live transaction that has a waiting write of it; so there is one at most
--     AreCursors k ts      k tells of a tablet, by the first hash of its range, a time before which nothing that waits there committed
use Rattle.xc_base.specs.declared.limits.TheConstants.{LAST_SUB}
use Rattle.std.specs.Prelude.{◌≡◌, ℕ, ◌-◌, ◌==◌, ◌&&◌, Bool, true, false, List, Option, Some, None, if◌then◌else◌, slice_get, slice_set}
use Rattle.std.specs.Prelude.{bytes_eq, is_some, IfSome, ◌<◌, ◌≤◌, ◌+◌, nat_le, length, ◌^◌}
use Rattle.std.specs.List.{list_any}
use Rattle.std.specs.Option.{option_map_or}
use Rattle.xc_source.specs.declared.cursor.Cursor.{Cursor}
use Rattle.xc_source.specs.Machine.{Transaction, is_live, commit_of}
use Rattle.xc_source.specs.Waiting.{has_write, commit_on}
use Rattle.std.specs.Prelude.{option_map, min, map, filter_map}
use Rattle.xc_record.specs.declared.record.Header.{Header}
use Rattle.xc_record.specs.Lists.{least}

abbrev pub numbered : List Transaction → ℕ → Option Transaction
numbered ts n = if n == 0 then None else slice_get ts (n - 1)

abbrev pub changed : (Transaction → Transaction) → ℕ → List Transaction → List Transaction
changed f n ts = option_map_or (λ t. slice_set ts (n - 1) (f t)) (numbered ts n) ts

-- it has a waiting write of the key
abbrev pub awaits : List ℕ → Transaction → Bool
awaits key t = list_any (λ w. w.waits && bytes_eq key w.op.key) t.writes

abbrev pub is_holder : List Transaction → List ℕ → ℕ → Bool
is_holder ts key n = option_map_or (has_write key) (numbered ts n) false

pub record AreHolders (f : List ℕ → Option ℕ) (ts : List Transaction) : Type 0 where
  pub sound : (key : List ℕ) (n : ℕ) → f key ≡ Some n → is_holder ts key n ≡ true
  pub full : (key : List ℕ) (n : ℕ) → is_holder ts key n ≡ true → f key ≡ Some n

-- ---- the committed transactions of which something waits

-- when the transaction committed, if it did
abbrev pub commit_at : Option Transaction → Option ℕ
commit_at o = option_map_or (λ t. commit_of t.stage) o None

-- something of it waits
abbrev pub some_waits : Transaction → Bool
some_waits t = list_any (λ w. w.waits) t.writes

-- w tells of a commit the transaction that committed then, of each one of which something waits
pub record AreWaiting (w : ℕ → Option ℕ) (ts : List Transaction) : Type 0 where
  pub sound : (c n : ℕ) → w c ≡ Some n → commit_at (numbered ts n) ≡ Some c
  pub full : (n c : ℕ) (t : Transaction) → numbered ts n ≡ Some t → commit_of t.stage ≡ Some c → some_waits t ≡ true → w c ≡ Some n

-- the greatest safe value at which it doesn't show yet, where it is committed and waits on the tablet with this header
abbrev pub bound_at : Header → Option Transaction → Option ℕ
bound_at header o = option_map_or (λ t. option_map (λ commit. commit - 1) (commit_on header t)) o None

-- the lesser of x and, over the committed transactions that wait on the tablet with this header, the least commit minus 1
abbrev pub least_bound : Header → List Transaction → ℕ → ℕ
least_bound header ts x = min x (least (map (λ commit. commit - 1) (filter_map (commit_on header) ts)))

-- ---- where to look on for a commit that waits on a tablet

-- what waits on the tablet with this header committed at this time or later; and this is no later than a time above all commits
pub record IsEarliest (header : Header) (earliest : ℕ) (ts : List Transaction) : Type 0 where
  pub least : (n c : ℕ) (t : Transaction) → numbered ts n ≡ Some t → commit_on header t ≡ Some c → earliest ≤ c
  pub most : (x : ℕ) → ((n c : ℕ) → commit_at (numbered ts n) ≡ Some c → c < x) → earliest ≤ x

-- k tells of a tablet, by the first hash of its range, where to look on; it says nothing of a tablet with another last hash
abbrev pub AreCursors : (ℕ → Option Cursor) → List Transaction → Type 0
AreCursors k ts = (header : Header) (cursor : Cursor) → k header.lo ≡ Some cursor → cursor.hi ≡ header.hi
    → IsEarliest header cursor.earliest ts

-- the earliest commit that may wait on the tablet with this header, by the cursor of its first hash
abbrev pub earliest_at : Header → Option Cursor → ℕ
earliest_at header o = option_map_or (λ cursor. if cursor.hi == header.hi then cursor.earliest else 0) o 0

-- the begun transactions, and what is kept beside them
pub record AreTransactions (f : List ℕ → Option ℕ) (w : ℕ → Option ℕ) (k : ℕ → Option Cursor) (ts : List Transaction) : Type 0 where
  pub few : length ts < 2 ^ 32
  pub holders : AreHolders f ts
  pub waiting : AreWaiting w ts
  pub cursors : AreCursors k ts

-- ---- what a call asks of a transaction

abbrev pub live_at : Option Transaction → Bool
live_at o = option_map_or (λ t. is_live t.stage) o false

abbrev pub committed_at : Option Transaction → Bool
committed_at o = option_map_or (λ t. is_some (commit_of t.stage)) o false

-- a transaction that wrote commits at 2 at the earliest
abbrev pub late_at : ℕ → Option Transaction → Type 0
late_at commit o = IfSome o (λ t. 0 < length t.writes → 2 ≤ commit)

abbrev pub subs_full_of : Option Transaction → Bool
subs_full_of o = option_map_or (λ t. nat_le LAST_SUB t.current) o false

abbrev pub next_sub_of : Option Transaction → ℕ
next_sub_of o = option_map_or (λ t. t.current + 1) o 0

abbrev pub sub_within : ℕ → Option Transaction → Bool
sub_within sub o = option_map_or (λ t. nat_le sub t.current) o false

-- the holder of a key but for the transaction of this number
abbrev pub other_than : ℕ → Option ℕ → Option ℕ
other_than n None = None
other_than n (Some k) = if k == n then None else Some k
