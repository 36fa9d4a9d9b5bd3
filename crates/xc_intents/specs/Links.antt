-- An index, or none, as one number: the index and 1, or 0.
use Rattle.std.specs.Prelude.{◌≡◌, ℕ, zero, suc, Option, Some, None}
use Rattle.std.proofs.Common.{refl}

abbrev pub link_of : ℕ → Option ℕ
link_of zero = None
link_of (suc n) = Some n

abbrev pub number_of : Option ℕ → ℕ
number_of None = zero
number_of (Some n) = suc n

pub number-back : (n : ℕ) → number_of (link_of n) ≡ n
number-back zero = refl
number-back (suc n) = refl
