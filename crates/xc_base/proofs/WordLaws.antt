-- Laws of words and of the numbers that they spell.
use Rattle.std.proofs.Common.{◌≡◌, ◌≢◌, ℕ, ◌+◌, ◌-◌, ◌*◌, ◌^◌, ◌<◌, ◌≤◌, Bool, true, false, List, [], ◌∷◌, length, drop, get_or, ◌==◌}
use Rattle.std.proofs.Common.{nat_lt, zero, suc, Some, None, decimal, refl, sym, ap, ◌∙◌, arith, ◌&&◌, add-one}
use Rattle.std.specs.Char.{is_ascii_digit, digit_value}
use Rattle.std.specs.Str.{all_ascii_digits}
use Rattle.std.specs.Str.Parse.{digits_value, digits_value_after}
use Rattle.std.specs.List.{All, join_with_byte}
use Rattle.std.proofs.lemmas.Bool.Decides.{nat_tests}
pub use Rattle.std.proofs.lemmas.Bool.{and_parts}
use Rattle.std.proofs.lemmas.Bool.{eq-eqb, ne_eqb}
use Rattle.std.proofs.lemmas.Fmt.{decimal_digit, digits_decimal, digits_value-decimal, decimal_nonempty, first_decimal}
use Rattle.std.proofs.lemmas.Fmt.{decimal-digits_value}
use Rattle.std.proofs.lemmas.Str.Parse.{IsNumeralModel, numerals_by_value, tells_all_ascii_digits}
use Rattle.std.proofs.lemmas.List.Splits.{slice_split_none, slice_split_at, join_with_byte-slice_split}
use Rattle.std.proofs.lemmas.List.Elements.{All-tail}
use Rattle.std.proofs.Math.Seq.{drop-cons}
use Rattle.std.proofs.Math.Nat.{pow-succ', pow-le-pow_right}
use Rattle.xc_base.specs.Words.{split_on, number_of, is_number, no_leading_zero}

-- ---- digit by digit

digit_value_is : (c : ℕ) → is_ascii_digit c ≡ true → digit_value c ≡ c - 48
digit_value_is c h = grind (arith, nat_tests)

-- more digits make no number smaller
pub digits_value_after-le : (n : ℕ) (cs : List ℕ) → n ≤ digits_value_after 10 n cs
digits_value_after-le n [] = omega arith
digits_value_after-le n (c ∷ cs) = let h = digits_value_after-le (n * 10 + digit_value c) cs in omega arith

-- the first digit taken off
pub record TakesDigit (n : ℕ) (ds : List ℕ) (i : ℕ) : Type 0 where
  pub value : digits_value_after 10 n (drop i ds) ≡ digits_value_after 10 (10 * n + (get_or ds i 0 - 48)) (drop (i + 1) ds)
  pub rest : all_ascii_digits (drop (i + 1) ds) ≡ true

takes_first : (n c : ℕ) (cs : List ℕ) → is_ascii_digit c ≡ true
    → digits_value_after 10 n (c ∷ cs) ≡ digits_value_after 10 (10 * n + (c - 48)) cs
takes_first n c cs h =
    let e : n * 10 + digit_value c ≡ 10 * n + (c - 48) = omega (arith, digit_value_is c h) in ap (λ m. digits_value_after 10 m cs) e

pub takes_digit : (n : ℕ) (ds : List ℕ) (i : ℕ) → i < length ds → all_ascii_digits (drop i ds) ≡ true → TakesDigit n ds i
takes_digit n ds i h a =
    let cut : drop i ds ≡ get_or ds i 0 ∷ drop (i + 1) ds = rw add-one (drop-cons ds i 0 h) in
    let parts = and_parts (is_ascii_digit (get_or ds i 0)) (all_ascii_digits (drop (i + 1) ds)) (rw cut at a) in
    record { value = rw cut (takes_first n (get_or ds i 0) (drop (i + 1) ds) parts.0); rest = parts.1 }

-- the first byte taken off, where it is a digit
pub record TakesByte (n : ℕ) (ds : List ℕ) (i : ℕ) : Type 0 where
  pub value : digits_value_after 10 n (drop i ds) ≡ digits_value_after 10 (10 * n + (get_or ds i 0 - 48)) (drop (i + 1) ds)
  pub rest : all_ascii_digits (drop i ds) ≡ all_ascii_digits (drop (i + 1) ds)

pub takes_byte : (n : ℕ) (ds : List ℕ) (i : ℕ) → i < length ds → is_ascii_digit (get_or ds i 0) ≡ true → TakesByte n ds i
takes_byte n ds i h a =
    let cut : drop i ds ≡ get_or ds i 0 ∷ drop (i + 1) ds = rw add-one (drop-cons ds i 0 h) in
    record { value = rw cut (takes_first n (get_or ds i 0) (drop (i + 1) ds) a); rest = rw (cut, a) refl }

pub digit_at_most : (c : ℕ) → is_ascii_digit c ≡ true → c - 48 ≤ 9
digit_at_most c h = grind (arith, nat_tests)

-- with one more digit behind it a number stays below the next power of ten, and up to 19 digits below 64 bits
pub one_more_digit : (n d i : ℕ) → n < 10 ^ i → d ≤ 9 → 10 * n + d < 10 ^ (i + 1)
one_more_digit n d i h g = rw (add-one, pow-succ') (omega arith)

pub nineteen_digits : (n i : ℕ) → n < 10 ^ i → i ≤ 19 → n < 2 ^ 64
nineteen_digits n i h g =
    let p : 10 ^ i ≤ 10 ^ 19 = pow-le-pow_right (omega arith) g in
    omega arith

-- ---- `decimal`, which `format!` writes, and `number_of` undo each other

own : IsNumeralModel (λ ds. all_ascii_digits ds ≡ true) (digits_value 10)
own = numerals_by_value _ tells_all_ascii_digits

-- what makes a word a number
record Spells (word : List ℕ) (n : ℕ) : Type 0 where
  some : 0 < length word
  digits : all_ascii_digits word ≡ true
  plain : get_or word 0 0 ≡ 48 → length word ≡ 1
  value : digits_value 10 word ≡ n

plain_digits : (word : List ℕ) → no_leading_zero word ≡ true → get_or word 0 0 ≡ 48 → length word ≡ 1
plain_digits word plain leads = grind (arith, nat_tests)

spelled : (word : List ℕ) (n : ℕ) → is_number word ≡ true → number_of word ≡ Some n → Spells word n
spelled word n is e =
    let first = and_parts (nat_lt 0 (length word)) (all_ascii_digits word && no_leading_zero word) is in
    let second = and_parts (all_ascii_digits word) (no_leading_zero word) first.1 in
    let number : number_of word ≡ Some (digits_value 10 word) = rw is refl in
    record { some = grind (arith, nat_tests); digits = second.0; plain = plain_digits word second.1; value = cc }

not_spelled : (word : List ℕ) (n : ℕ) → is_number word ≡ false → number_of word ≡ Some n → ⊥
not_spelled word n not e = let none : number_of word ≡ None = rw not refl in cc

number_cases : (word : List ℕ) (n : ℕ) → number_of word ≡ Some n → (b : Bool) → is_number word ≡ b → Spells word n
number_cases word n e true is = spelled word n is e
number_cases word n e false is = absurd (not_spelled word n is e)

number_parts : (word : List ℕ) (n : ℕ) → number_of word ≡ Some n → Spells word n
number_parts word n e =
    number_cases word n e (is_number word) refl

above_zero : (digits : List ℕ) → 48 < get_or digits 0 0 → no_leading_zero digits ≡ true
above_zero digits h = grind (arith, nat_tests)

decimal-plain : (n : ℕ) → n < 2 ^ 64 → no_leading_zero (decimal n) ≡ true
decimal-plain zero h = rw (decimal_digit 0 (omega arith)) refl
decimal-plain (suc n) h = above_zero (decimal (suc n)) (first_decimal (suc n) (omega arith) h)

pub number_of-decimal : (n : ℕ) → n < 2 ^ 64 → number_of (decimal n) ≡ Some n
number_of-decimal n h =
    let digits : all_ascii_digits (decimal n) ≡ true = digits_decimal own n h in
    let value : digits_value 10 (decimal n) ≡ n = digits_value-decimal own n h in
    let some : 0 < length (decimal n) = decimal_nonempty n h in
    let plain : no_leading_zero (decimal n) ≡ true = decimal-plain n h in
    rw (digits, plain, value) (grind (arith, nat_tests))

pub decimal-number_of : (word : List ℕ) (n : ℕ) → n < 2 ^ 64 → number_of word ≡ Some n → decimal n ≡ word
decimal-number_of word n h e =
    let spelled = number_parts word n e in
    let value : digits_value 10 word ≡ n = spelled.value in
    sym (ap decimal value) ∙ decimal-digits_value own word spelled.digits spelled.some spelled.plain (omega (arith, value))

-- ---- pieces joined by the separator and split at it are the pieces

none_in : (separator : ℕ) (piece : List ℕ) → All (λ byte. byte ≢ separator) piece → All (λ byte. byte == separator ≡ false) piece
none_in separator piece h = λ k d l. ne_eqb _ separator (h k d l)

pub split_on-join : (separator : ℕ) (piece : List ℕ) (pieces : List (List ℕ))
    → All (λ p. All (λ byte. byte ≢ separator) p) (piece ∷ pieces)
    → split_on separator (join_with_byte separator (piece ∷ pieces)) ≡ piece ∷ pieces
split_on-join separator piece [] h = slice_split_none _ piece (none_in separator piece (h 0 piece (omega arith)))
split_on-join separator piece (next ∷ pieces) h =
    slice_split_at _ piece separator (join_with_byte separator (next ∷ pieces)) (none_in separator piece (h 0 piece (omega arith)))
    (eq-eqb separator separator refl)
    ∙ ap (λ rest. piece ∷ rest)
    (split_on-join separator next pieces (All-tail (λ p. All (λ byte. byte ≢ separator) p) piece (next ∷ pieces) h))

pub join-split_on : (separator : ℕ) (text : List ℕ) → join_with_byte separator (split_on separator text) ≡ text
join-split_on separator text = join_with_byte-slice_split separator text
