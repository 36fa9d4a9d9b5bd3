-- The least value over headers, from one header to the next.
use Rattle.std.proofs.Common.{◌≡◌, ℕ, ◌≤◌, ◌^◌, min, true, false, List, [], ◌∷◌, map, filter, slice_index, refl, arith}
use Rattle.xc_record.specs.declared.record.Header.{Header}
use Rattle.xc_record.specs.Lists.{least}
use Rattle.xc_model.specs.Floors.{Floors, counts}

-- over these headers alone
abbrev pub least_of : Floors → List Header → ℕ
least_of f hs = least (map (λ h. slice_index f.safe h.id) (filter (counts f) hs))

least-below : (ns : List ℕ) → least ns ≤ 2 ^ 62
least-below [] = omega arith
least-below (n ∷ ns) = omega (arith, least-below ns)

pub least_of-start : (f : Floors) (hs : List Header) → min (2 ^ 62) (least_of f hs) ≡ least_of f hs
least_of-start f hs = omega (arith, least-below (map (λ h. slice_index f.safe h.id) (filter (counts f) hs)))

pub least_of-end : (f : Floors) (m : ℕ) → m ≤ 2 ^ 62 → min m (least_of f []) ≡ m
least_of-end f m h = omega arith

-- a header that counts, and one that doesn't
pub least_of-counts : (f : Floors) (m : ℕ) (h : Header) (hs : List Header) → counts f h ≡ true
    → min (min m (slice_index f.safe h.id)) (least_of f hs) ≡ min m (least_of f (h ∷ hs))
least_of-counts f m h hs e = rw e (omega arith)

pub least_of-passes : (f : Floors) (m : ℕ) (h : Header) (hs : List Header) → counts f h ≡ false
    → min m (least_of f hs) ≡ min m (least_of f (h ∷ hs))
least_of-passes f m h hs e = rw e refl
