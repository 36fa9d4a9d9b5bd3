-- What is shown, from one element to the next.
use Rattle.std.proofs.Common.{◌≡◌, ℕ, ◌≤◌, ◌^◌, min, true, false, List, [], ◌∷◌, map, filter, refl, arith}
use Rattle.xc_record.specs.Lists.{least}
use Rattle.xc_poller.specs.Poller.{PollerState}
use Rattle.xc_target.specs.Target.{is_low, least_open}

least-below : (ns : List ℕ) → least ns ≤ 2 ^ 62
least-below [] = omega arith
least-below (n ∷ ns) = omega (arith, least-below ns)

pub least-start : (ps : List PollerState) → min (2 ^ 62) (least_open ps) ≡ least_open ps
least-start ps = omega (arith, least-below (map (λ (p : PollerState). p.floor) (filter is_low ps)))

pub least-end : (m : ℕ) → m ≤ 2 ^ 62 → min m (least_open []) ≡ m
least-end m h = omega arith

-- a poller that counts, and one that doesn't
pub least-counts : (m : ℕ) (p : PollerState) (ps : List PollerState) → is_low p ≡ true
    → min (min m p.floor) (least_open ps) ≡ min m (least_open (p ∷ ps))
least-counts m p ps e = rw e (omega arith)

pub least-passes : (m : ℕ) (p : PollerState) (ps : List PollerState) → is_low p ≡ false
    → min m (least_open ps) ≡ min m (least_open (p ∷ ps))
least-passes m p ps e = rw e refl
