-- What a target tablet keeps of the keys of its range.
--     has_key c k      the key is in the range
--     kept_in c k      what is kept at the key
--     IsContents c      nothing outside the range is kept, the versions are in order, and the next place is above theirs
--     Alike c d      d keeps what c keeps, with more room at most
--     Changes f c d      d is c with f done to what is kept at each key of the range
--     put_events time ops, hold_events txn sub time ops      what operations do at a key, of a write and of an intent
--     LeavesAlike txn commit without lo hi c d      an apply of what waits still at the hashes from lo to hi gives the same after c and
--         after d
--     IsApart header lo hi      the tablet with this header has no key with a hash from lo to hi
--     all_held header ops      the operations' keys are of the tablet with this header
--     keys_keep header kind, all_keep header rs      a record's keys are, and those of all records
use Rattle.std.specs.Prelude.{◌≡◌, ℕ, ◌<◌, Bool, true, false, ◌&&◌, nat_le, List, map, filter}
use Rattle.std.specs.List.{AllByRecursion, list_all}
use Rattle.xc_record.specs.declared.record.Header.{Header}
use Rattle.xc_record.specs.declared.record.Kind.{Kind}
use Rattle.xc_record.specs.declared.record.Kind.TheVariants as kind
use Rattle.xc_record.specs.declared.record.Op.{Op}
use Rattle.xc_record.specs.declared.record.Record.{Record}
use Rattle.xc_record.specs.Hash.{hash_of, holds}
use Rattle.xc_record.specs.Path.{Put, Hold, puts}
use Rattle.xc_record.specs.Kept.{Kept, steps, add_all, is_kept, waiting_at}
use Rattle.xc_record.specs.Valid.{ops_keep}
use Rattle.xc_versions.specs.Stored.{InOrder, stored_at}
use Rattle.xc_intents.specs.HeldOps.{is_part, is_rest}
use Rattle.xc_tablet.specs.declared.contents.Contents.{Contents}

abbrev pub in_hashes : ℕ → ℕ → List ℕ → Bool
in_hashes lo hi k = nat_le lo (hash_of k) && nat_le (hash_of k) hi

abbrev pub has_key : Contents → List ℕ → Bool
has_key c k = in_hashes c.lo c.hi k

abbrev pub kept_in : Contents → List ℕ → Kept
kept_in c k = record { versions = stored_at k c.versions.items; held = waiting_at k c.held.held }

pub record IsContents (c : Contents) : Type 0 where
  pub versions : AllByRecursion (λ v. has_key c v.key ≡ true) c.versions.items
  pub held : AllByRecursion (λ w. has_key c w.key ≡ true) c.held.held
  pub ordered : InOrder c.versions.items
  pub counted : AllByRecursion (λ v. v.place < c.next) c.versions.items

pub record Alike (c d : Contents) : Type 0 where
  pub next : d.next ≡ c.next
  pub range : (d.lo ≡ c.lo) × (d.hi ≡ c.hi)
  pub versions : d.versions.items ≡ c.versions.items
  pub held : d.held.held ≡ c.held.held

pub record Changes (f : List ℕ → Kept → Kept) (c d : Contents) : Type 0 where
  pub range : (d.lo ≡ c.lo) × (d.hi ≡ c.hi)
  pub keys : (k : List ℕ) → has_key c k ≡ true → kept_in d k ≡ f k (kept_in c k)
  pub is : IsContents d

-- ---- what records do at a key

abbrev pub put_events : ℕ → List Op → List ℕ → Kept → Kept
put_events time ops k x = steps (map (λ v. Put time v) (puts k ops)) x

abbrev pub hold_events : ℕ → ℕ → ℕ → List Op → List ℕ → Kept → Kept
hold_events txn sub time ops k x = steps (map (λ v. Hold txn sub time v) (puts k ops)) x

-- what an apply leaves at the key of what is kept in c
abbrev pub applied : ℕ → ℕ → List ℕ → ℕ → ℕ → Contents → List ℕ → Kept
applied txn commit without lo hi c k = record {
  versions = add_all commit (filter (is_kept without) (waiting_at k (filter (is_part txn lo hi) c.held.held)))
      (stored_at k c.versions.items);
  held = waiting_at k (filter (is_rest txn lo hi) c.held.held);
}

pub record LeavesAlike (txn commit : ℕ) (without : List ℕ) (lo hi : ℕ) (c d : Contents) : Type 0 where
  pub range : (d.lo ≡ c.lo) × (d.hi ≡ c.hi)
  pub keys : (k : List ℕ) → has_key c k ≡ true → applied txn commit without lo hi d k ≡ applied txn commit without lo hi c k
  pub is : IsContents d

abbrev pub IsApart : Header → ℕ → ℕ → Type 0
IsApart header lo hi = (k : List ℕ) → holds header (hash_of k) ≡ true → in_hashes lo hi k ≡ false

abbrev pub all_held : Header → List Op → Bool
all_held header ops = list_all (λ op. holds header (hash_of op.key)) ops

abbrev pub keys_keep : Header → Kind → Bool
keys_keep header (kind.Write ops) = ops_keep header ops
keys_keep header (kind.Intent sub txn ops) = ops_keep header ops
keys_keep header (kind.Apply txn commit without) = true
keys_keep header (kind.Abort txn) = true
keys_keep header (kind.Safe value) = true
keys_keep header (kind.Split at left right) = true

abbrev pub all_keep : Header → List Record → Bool
all_keep header rs = list_all (λ r. keys_keep header r.kind) rs
