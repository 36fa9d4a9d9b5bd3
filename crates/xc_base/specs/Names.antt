-- The bytes that keys and values may have.
--     is_key bytes, is_value bytes      1 to KEY_BYTES bytes, 0 to VALUE_BYTES bytes
--     in_alphabet byte      a letter, a digit or one of _ . - / :
--     is_plain bytes      all of them are in the alphabet
--     length_fault least most bytes      what is wrong with the number of bytes, where it is out of these limits
--     key_fault bytes, value_fault bytes      what is wrong with bytes that are no plain key, no plain value; None where they are one
--     IsKeyIn, IsValueIn      a buffer holds a key, a value, with zeros behind it
use Rattle.std.specs.Prelude.{◌≡◌, ℕ, Bool, true, List, ◌&&◌, ◌||◌, ◌==◌, nat_lt, nat_le, not, length, take, position, if◌then◌else◌}
use Rattle.std.specs.Prelude.{Option, Some, None}
use Rattle.std.specs.Option.{option_map}
use Rattle.std.specs.List.{list_all}
use Rattle.xc_base.specs.Padded.{IsPadded}
use Rattle.xc_base.specs.declared.limits.TheConstants.{KEY_BYTES, VALUE_BYTES}
use Rattle.xc_base.specs.declared.name.BadName.{BadName}
use Rattle.xc_base.specs.declared.name.BadName.TheVariants as bad_name

abbrev pub within : ℕ → ℕ → ℕ → Bool
within low high b = nat_le low b && nat_le b high

-- a byte is a number below 256
abbrev pub are_bytes : List ℕ → Bool
are_bytes bytes = list_all (λ byte. nat_lt byte 256) bytes

abbrev pub is_key : List ℕ → Bool
is_key bytes = within 1 KEY_BYTES (length bytes) && are_bytes bytes

abbrev pub is_value : List ℕ → Bool
is_value bytes = within 0 VALUE_BYTES (length bytes) && are_bytes bytes

-- ---- the alphabet

abbrev pub is_small_letter : ℕ → Bool
is_small_letter b = within 97 122 b

abbrev pub is_capital_letter : ℕ → Bool
is_capital_letter b = within 65 90 b

-- a digit, one of - . / that stand before the digits, or : that stands after them
abbrev pub is_digit_or_mark : ℕ → Bool
is_digit_or_mark b = within 45 58 b

abbrev pub underscore : ℕ
underscore = 95

abbrev pub in_alphabet : ℕ → Bool
in_alphabet b = is_small_letter b || (is_capital_letter b || (is_digit_or_mark b || b == underscore))

abbrev pub is_plain : List ℕ → Bool
is_plain bytes = list_all in_alphabet bytes

abbrev pub length_fault : ℕ → ℕ → List ℕ → Option BadName
length_fault least most bytes = if within least most (length bytes) then None else Some (bad_name.Length (length bytes))

-- the length, where it is out of the limits, and else the place of the first byte outside the alphabet
abbrev pub name_fault : ℕ → ℕ → List ℕ → Option BadName
name_fault least most bytes =
    if within least most (length bytes) then option_map (λ place. bad_name.Byte place) (position (λ byte. not (in_alphabet byte)) bytes)
    else Some (bad_name.Length (length bytes))

abbrev pub key_fault : List ℕ → Option BadName
key_fault bytes = name_fault 1 KEY_BYTES bytes

abbrev pub value_fault : List ℕ → Option BadName
value_fault bytes = name_fault 0 VALUE_BYTES bytes

pub record IsKeyIn (len : ℕ) (bytes : List ℕ) : Type 0 where
  pub padded : IsPadded KEY_BYTES len bytes
  pub key : is_key (take len bytes) ≡ true

pub record IsValueIn (len : ℕ) (bytes : List ℕ) : Type 0 where
  pub padded : IsPadded VALUE_BYTES len bytes
  pub value : is_value (take len bytes) ≡ true
