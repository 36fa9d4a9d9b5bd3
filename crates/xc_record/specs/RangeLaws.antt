-- Laws of ranges and of headers.
--     holders h ranges      those of the ranges that hold the hash h
--     roots hs      the headers with no parent
use Rattle.std.specs.Prelude.{◌≡◌, ℕ, ◌≤◌, Bool, true, ◌&&◌, List, [], ◌∷◌, Some, None, filter, map, length, nat_le, is_none, slice_get}
use Rattle.xc_record.specs.declared.record.Header.{Header}
use Rattle.xc_record.specs.Hash.{holds}
use Rattle.xc_record.specs.Headers.{headers_fit, children}
use Rattle.xc_record.specs.Bounds.{are_bounds, ranges, SharesOut, IsPartition}

abbrev pub range : Header → ℕ × ℕ
range h = (h.lo, h.hi)

abbrev pub is_root : Header → Bool
is_root h = is_none h.parent

abbrev pub roots : List Header → List Header
roots hs = filter is_root hs

abbrev pub holders : ℕ → List (ℕ × ℕ) → List (ℕ × ℕ)
holders h rs = filter (λ r. nat_le r.0 h && nat_le h r.1) rs

-- Of ranges that share out a range, exactly one holds each of its hashes.
abbrev pub RangesHoldOnce : Type 0
RangesHoldOnce = (whole : ℕ × ℕ) (rs : List (ℕ × ℕ)) (h : ℕ) → SharesOut whole rs → whole.0 ≤ h → h ≤ whole.1 → length (holders h rs) ≡ 1

-- Bounds within the rules share out all hashes.
abbrev pub BoundsShareOut : Type 0
BoundsShareOut = (bounds : List ℕ) → are_bounds bounds ≡ true → IsPartition (ranges bounds)

-- The roots of headers within the rules share out all hashes.
abbrev pub RootsShareOut : Type 0
RootsShareOut = (hs : List Header) → headers_fit hs ≡ true → IsPartition (map range (roots hs))

-- So there is one root, and no other, that holds a hash.
abbrev pub OneRootHolds : Type 0
OneRootHolds = (hs : List Header) (hash i j : ℕ) (a b : Header) → headers_fit hs ≡ true → slice_get hs i ≡ Some a → slice_get hs j ≡ Some b
    → a.parent ≡ None → b.parent ≡ None → holds a hash ≡ true → holds b hash ≡ true → i ≡ j

-- The two children of a tablet share out its range: the left one has the lower part.
abbrev pub ChildrenShareOut : Type 0
ChildrenShareOut = (hs : List Header) (id : ℕ) (parent left right : Header) → headers_fit hs ≡ true → slice_get hs id ≡ Some parent
    → children hs id ≡ Some (left, right)
    → SharesOut (range parent) (range left ∷ range right ∷ [])
