-- The words of a line and the numbers that they spell. A text is a list of bytes.
--     split_on separator text      the pieces between the separators: at least one, and an empty one where two separators touch
--     number_of word      the number that a word spells, in decimal with no leading zero; None where it is spelled otherwise
--     number_within most word      what `read_number` answers
use Rattle.std.specs.Prelude.{ℕ, Bool, List, length, ◌&&◌, ◌||◌, ◌==◌, nat_lt, nat_le, not, slice_index, if◌then◌else◌, Option, Some, None}
use Rattle.std.specs.Prelude.{Result, Ok, Err}
use Rattle.std.specs.List.{slice_split}
use Rattle.std.specs.Str.{all_ascii_digits}
use Rattle.std.specs.Str.Parse.{digits_value}
use Rattle.xc_base.specs.declared.number.NumberFail.{NumberFail}
use Rattle.xc_base.specs.declared.number.NumberFail.TheVariants as number_fail

abbrev pub split_on : ℕ → List ℕ → List (List ℕ)
split_on separator text = slice_split (λ byte. byte == separator) text

-- a zero stands first only where it stands alone
abbrev pub no_leading_zero : List ℕ → Bool
no_leading_zero word = not (slice_index word 0 == 48) || length word == 1

-- a digit or more, with no leading zero
abbrev pub is_number : List ℕ → Bool
is_number word = nat_lt 0 (length word) && (all_ascii_digits word && no_leading_zero word)

abbrev pub number_of : List ℕ → Option ℕ
number_of word = if is_number word then Some (digits_value 10 word) else None

-- a number that was read, where it is at most as large as it may be
abbrev pub within_most : ℕ → Option ℕ → Result ℕ NumberFail
within_most most None = Err number_fail.Spelling
within_most most (Some n) = if nat_le n most then Ok n else Err number_fail.TooLarge

abbrev pub number_within : ℕ → List ℕ → Result ℕ NumberFail
number_within most word = within_most most (number_of word)
