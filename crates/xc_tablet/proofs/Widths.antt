-- Operations of keys in a range are among those of keys in all hashes.
use Rattle.std.proofs.Common.{◌≡◌, ℕ, ◌≤◌, Bool, true, false, cond, List, refl, ap, sym, ◌∙◌, arith, ⊎_elim, ◌&&◌}
use Rattle.std.specs.Prelude.{nat_le}
use Rattle.std.proofs.lemmas.Bool.{cases_Bool}
use Rattle.std.proofs.lemmas.Bool.Decides.{nat_tests}
use Rattle.std.proofs.lemmas.List.Sums.{sum_by-le-sum_by}
use Rattle.xc_record.specs.declared.record.Kind.{Kind}
use Rattle.xc_record.specs.declared.record.Kind.TheVariants as kind
use Rattle.xc_record.specs.declared.record.Op.{Op}
use Rattle.xc_record.specs.declared.record.Record.{Record}
use Rattle.xc_record.specs.Hash.{hash_of}
use Rattle.xc_tablet.specs.Contents.{in_hashes}
use Rattle.xc_tablet.specs.Room.{count_in, puts_of, holds_of, puts_in, holds_in}

wider : (lo hi h : ℕ) → hi ≤ 65535 → cond (nat_le lo h && nat_le h hi) 1 0 ≤ cond (nat_le 0 h && nat_le h 65535) 1 0
wider lo hi h few = grind (arith, nat_tests)

pub count-wider : (lo hi : ℕ) (ops : List Op) → hi ≤ 65535 → count_in lo hi ops ≤ count_in 0 65535 ops
count-wider lo hi ops few =
    sum_by-le-sum_by (λ (o : Op). cond (in_hashes lo hi o.key) 1 0) (λ (o : Op). cond (in_hashes 0 65535 o.key) 1 0) ops
    (λ o. wider lo hi (hash_of o.key) few)

puts-of-wider : (lo hi : ℕ) (k : Kind) → hi ≤ 65535 → puts_of lo hi k ≤ puts_of 0 65535 k
puts-of-wider lo hi (kind.Write ops) few = count-wider lo hi ops few
puts-of-wider lo hi (kind.Intent sub txn ops) few = omega arith
puts-of-wider lo hi (kind.Apply txn commit without) few = omega arith
puts-of-wider lo hi (kind.Abort txn) few = omega arith
puts-of-wider lo hi (kind.Safe value) few = omega arith
puts-of-wider lo hi (kind.Split at left right) few = omega arith

holds-of-wider : (lo hi : ℕ) (k : Kind) → hi ≤ 65535 → holds_of lo hi k ≤ holds_of 0 65535 k
holds-of-wider lo hi (kind.Write ops) few = omega arith
holds-of-wider lo hi (kind.Intent sub txn ops) few = count-wider lo hi ops few
holds-of-wider lo hi (kind.Apply txn commit without) few = omega arith
holds-of-wider lo hi (kind.Abort txn) few = omega arith
holds-of-wider lo hi (kind.Safe value) few = omega arith
holds-of-wider lo hi (kind.Split at left right) few = omega arith

pub puts-wider : (lo hi : ℕ) (rs : List Record) → hi ≤ 65535 → puts_in lo hi rs ≤ puts_in 0 65535 rs
puts-wider lo hi rs few =
    sum_by-le-sum_by (λ (r : Record). puts_of lo hi r.kind) (λ (r : Record). puts_of 0 65535 r.kind) rs
    (λ r. puts-of-wider lo hi r.kind few)

pub holds-wider : (lo hi : ℕ) (rs : List Record) → hi ≤ 65535 → holds_in lo hi rs ≤ holds_in 0 65535 rs
holds-wider lo hi rs few =
    sum_by-le-sum_by (λ (r : Record). holds_of lo hi r.kind) (λ (r : Record). holds_of 0 65535 r.kind) rs
    (λ r. holds-of-wider lo hi r.kind few)
