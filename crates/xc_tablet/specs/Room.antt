-- The room that records need, so that taking them in wants no memory.
--     count_in lo hi ops      how many of the operations are of keys in the range
--     Adds n m c d      from c to d n versions and m operations that wait were added
--     Settles c d      from c to d operations ceased to wait, and each gave one version at most
--     HasRoom rs c      c has room for the records rs
use Rattle.std.specs.Prelude.{◌≡◌, ℕ, ◌+◌, ◌≤◌, Bool, true, false, List, length, count_by, sum_by}
use Rattle.std.specs.List.{list_any}
use Rattle.xc_record.specs.declared.record.Kind.{Kind}
use Rattle.xc_record.specs.declared.record.Kind.TheVariants as kind
use Rattle.xc_record.specs.declared.record.Op.{Op}
use Rattle.xc_record.specs.declared.record.Record.{Record}
use Rattle.xc_tablet.specs.declared.contents.Contents.{Contents}
use Rattle.xc_tablet.specs.Contents.{in_hashes}

abbrev pub count_in : ℕ → ℕ → List Op → ℕ
count_in lo hi ops = count_by (λ op. in_hashes lo hi op.key) ops

pub record Adds (n m : ℕ) (c d : Contents) : Type 0 where
  pub next : d.next ≡ c.next + n
  pub waits : length d.held.held ≡ length c.held.held + m
  pub versions : c.versions.spare ≤ d.versions.spare + n
  pub held : c.held.spare ≤ d.held.spare + m

pub record Settles (c d : Contents) : Type 0 where
  pub next : d.next + length d.held.held ≤ c.next + length c.held.held
  pub fewer : length d.held.held ≤ length c.held.held
  pub versions : c.versions.spare + length d.held.held ≤ d.versions.spare + length c.held.held
  pub held : c.held.spare ≤ d.held.spare

-- ---- what records need

-- versions, one for each operation of a write
abbrev pub puts_of : ℕ → ℕ → Kind → ℕ
puts_of lo hi (kind.Write ops) = count_in lo hi ops
puts_of lo hi (kind.Intent sub txn ops) = 0
puts_of lo hi (kind.Apply txn commit without) = 0
puts_of lo hi (kind.Abort txn) = 0
puts_of lo hi (kind.Safe value) = 0
puts_of lo hi (kind.Split at left right) = 0

-- places to wait, one for each operation of an intent
abbrev pub holds_of : ℕ → ℕ → Kind → ℕ
holds_of lo hi (kind.Write ops) = 0
holds_of lo hi (kind.Intent sub txn ops) = count_in lo hi ops
holds_of lo hi (kind.Apply txn commit without) = 0
holds_of lo hi (kind.Abort txn) = 0
holds_of lo hi (kind.Safe value) = 0
holds_of lo hi (kind.Split at left right) = 0

abbrev pub is_apply : Kind → Bool
is_apply (kind.Write ops) = false
is_apply (kind.Intent sub txn ops) = false
is_apply (kind.Apply txn commit without) = true
is_apply (kind.Abort txn) = false
is_apply (kind.Safe value) = false
is_apply (kind.Split at left right) = false

abbrev pub puts_in : ℕ → ℕ → List Record → ℕ
puts_in lo hi rs = sum_by (λ r. puts_of lo hi r.kind) rs

abbrev pub holds_in : ℕ → ℕ → List Record → ℕ
holds_in lo hi rs = sum_by (λ r. holds_of lo hi r.kind) rs

abbrev pub has_apply : List Record → Bool
has_apply rs = list_any (λ r. is_apply r.kind) rs

pub record HasRoom (rs : List Record) (c : Contents) : Type 0 where
  pub holds : holds_in c.lo c.hi rs ≤ c.held.spare
  pub puts : puts_in c.lo c.hi rs ≤ c.versions.spare
  -- an apply may take all that waits
  pub applied : has_apply rs ≡ true → puts_in c.lo c.hi rs + holds_in c.lo c.hi rs + length c.held.held ≤ c.versions.spare
