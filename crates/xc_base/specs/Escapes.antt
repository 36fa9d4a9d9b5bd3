-- Words for any bytes. A byte of the alphabet stands for itself; any other is escaped, as `%` and two digits of 0123456789ABCDEF.
--     escaped bytes      their word
--     begins_byte word      a byte of the alphabet or the escape of another byte begins the word
--     wrong_place word      the first place where neither begins; None where there is no such place
--     unescaped word      the bytes that a word without such a place stands for
--     word_fault least most word      what is wrong with a word that is none of bytes within these limits
use Rattle.std.specs.Prelude.{◌≡◌, ℕ, zero, suc, ◌+◌, ◌-◌, ◌*◌, ◌/◌, ◌%◌, Bool, true, List, [], ◌∷◌, ◌&&◌, ◌||◌, ◌==◌, nat_lt, not}
use Rattle.std.specs.Prelude.{slice_index, flat_map, if◌then◌else◌, Option, Some, None}
use Rattle.std.specs.Option.{option_map, option_map_or}
use Rattle.xc_base.specs.Names.{within, are_bytes, in_alphabet, length_fault}
use Rattle.xc_base.specs.declared.name.BadName.{BadName}
use Rattle.xc_base.specs.declared.name.BadName.TheVariants as bad_name

-- what begins an escape: %
abbrev pub escape_sign : ℕ
escape_sign = 37

-- ---- digits: 48 to 57 are 0 to 9, and 65 to 70 are A to F

abbrev pub digit : ℕ → ℕ
digit n = if nat_lt n 10 then n + 48 else n + 55

abbrev pub is_digit : ℕ → Bool
is_digit b = within 48 57 b || within 65 70 b

abbrev pub digit_value : ℕ → ℕ
digit_value b = if nat_lt b 65 then b - 48 else b - 55

-- ---- writing

abbrev pub escaped_byte : ℕ → List ℕ
escaped_byte b = if in_alphabet b then b ∷ [] else (escape_sign ∷ digit (b / 16) ∷ digit (b % 16) ∷ [])

abbrev pub escaped : List ℕ → List ℕ
escaped bytes = flat_map escaped_byte bytes

-- ---- reading

-- what the two digits behind the first byte spell
abbrev pub escape_value : List ℕ → ℕ
escape_value word = 16 * digit_value (slice_index word 1) + digit_value (slice_index word 2)

-- only a byte outside the alphabet is escaped
abbrev pub begins_escape : List ℕ → Bool
begins_escape word =
    slice_index word 0 == escape_sign
    && (is_digit (slice_index word 1) && (is_digit (slice_index word 2) && not (in_alphabet (escape_value word))))

abbrev pub begins_byte : List ℕ → Bool
begins_byte word = in_alphabet (slice_index word 0) || begins_escape word

-- the digits of an escape are bytes of the alphabet themselves, so each place may be looked at by itself
abbrev pub wrong_place : List ℕ → Option ℕ
wrong_place [] = None
wrong_place (b ∷ word) = if begins_byte (b ∷ word) then option_map (λ place. place + 1) (wrong_place word) else Some 0

-- the bytes of a word after so many digits of an escape
abbrev pub unescaped_after : ℕ → List ℕ → List ℕ
unescaped_after digits [] = []
unescaped_after zero (b ∷ word) =
    if b == escape_sign then (escape_value (b ∷ word) ∷ unescaped_after 2 word) else (b ∷ unescaped_after 0 word)
unescaped_after (suc digits) (b ∷ word) = unescaped_after digits word

abbrev pub unescaped : List ℕ → List ℕ
unescaped word = unescaped_after 0 word

-- the first wrong place, and else the number of bytes, where it is out of the limits
abbrev pub word_fault : ℕ → ℕ → List ℕ → Option BadName
word_fault least most word =
    option_map_or (λ place. Some (bad_name.Byte place)) (wrong_place word) (length_fault least most (unescaped word))

-- ---- the laws

-- The word of bytes has no wrong place and stands for them, so no word is that of two lists of bytes.
pub record IsReadBack (bytes : List ℕ) : Type 0 where
  pub right : wrong_place (escaped bytes) ≡ None
  pub same : unescaped (escaped bytes) ≡ bytes

abbrev pub EscapedIsRead : Type 0
EscapedIsRead = (bytes : List ℕ) → are_bytes bytes ≡ true → IsReadBack bytes

-- A word without a wrong place is that of the bytes that it stands for, so no bytes have two words.
abbrev pub ReadIsEscaped : Type 0
ReadIsEscaped = (word : List ℕ) → wrong_place word ≡ None → escaped (unescaped word) ≡ word
