-- Numbers of subtransactions: from 1 to LAST_SUB, in the bits of a number the number n at the bit n - 1.
--     numbers_in bits      the numbers, rising
--     are_subs subs      the numbers are from 1 to LAST_SUB and rise
use Rattle.std.specs.Prelude.{ℕ, ◌-◌, Bool, ◌==◌, ◌&&◌, nat_le, bytes_eq, List}
use Rattle.std.specs.Int.{bit_at}
use Rattle.std.specs.List.{filter, range_with_len, list_all}
use Rattle.xc_base.specs.declared.limits.TheConstants.{LAST_SUB}
use Rattle.xc_record.specs.Lists.{distinct}

abbrev pub has_number : ℕ → ℕ → Bool
has_number bits n = bit_at bits (n - 1) == 1

unfoldable pub numbers_in : ℕ → List ℕ
numbers_in bits = filter (has_number bits) (range_with_len 1 LAST_SUB)

abbrev pub are_subs : List ℕ → Bool
are_subs subs = list_all (λ sub. nat_le 1 sub && nat_le sub LAST_SUB) subs && bytes_eq (distinct subs) subs
