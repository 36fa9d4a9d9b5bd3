-- The ranges of the target's tablets.
--     are_bounds bounds      from 1 to MOST_TARGETS hashes, the first 0, each above the one before: where the tablets' ranges begin
--     ranges bounds      the first and the last hash of each tablet, both included
--     SharesOut whole ranges      the ranges share out the hashes of the range `whole`, in order
--     IsPartition ranges      the ranges share out all hashes, in order
use Rattle.std.specs.Prelude.{◌≡◌, ℕ, ◌+◌, ◌-◌, ◌≤◌, Bool, true, false, ◌&&◌, ◌==◌, nat_le, nat_lt, List, [], ◌∷◌, length}
use Rattle.xc_base.specs.declared.limits.TheConstants.{MOST_TARGETS}

-- each number is above the one before, and is a hash
abbrev pub rises_from : ℕ → List ℕ → Bool
rises_from before [] = true
rises_from before (b ∷ bs) = nat_lt before b && (nat_lt b 65536 && rises_from b bs)

abbrev pub starts_at_0 : List ℕ → Bool
starts_at_0 [] = false
starts_at_0 (b ∷ bs) = b == 0 && rises_from 0 bs

unfoldable pub are_bounds : List ℕ → Bool
are_bounds bounds = starts_at_0 bounds && nat_le (length bounds) MOST_TARGETS

abbrev pub ranges_from : ℕ → List ℕ → List (ℕ × ℕ)
ranges_from lo [] = (lo, 65535) ∷ []
ranges_from lo (b ∷ bs) = (lo, b - 1) ∷ ranges_from b bs

abbrev pub ranges : List ℕ → List (ℕ × ℕ)
ranges [] = []
ranges (b ∷ bs) = ranges_from b bs

-- the ranges follow one another from the hash lo on, up to the one before end
abbrev pub Follows : ℕ → ℕ → List (ℕ × ℕ) → Type 0
Follows lo end [] = lo ≡ end
Follows lo end (r ∷ rs) = (r.0 ≡ lo) × ((r.0 ≤ r.1) × Follows (r.1 + 1) end rs)

abbrev pub SharesOut : ℕ × ℕ → List (ℕ × ℕ) → Type 0
SharesOut whole rs = Follows whole.0 (whole.1 + 1) rs

abbrev pub IsPartition : List (ℕ × ℕ) → Type 0
IsPartition rs = SharesOut (0, 65535) rs
