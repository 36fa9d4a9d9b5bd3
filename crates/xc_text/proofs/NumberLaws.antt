-- The number that a list of bytes begins with.
use Rattle.std.proofs.Common.{◌≡◌, ℕ, suc, zero, ◌+◌, ◌-◌, ◌*◌, ◌^◌, ◌<◌, ◌≤◌, ◌==◌, true, false, List, [], ◌∷◌, ◌++◌, length, take, drop}
use Rattle.std.proofs.Common.{get_or, Some, refl, sym, ap, ◌∙◌, min, arith}
use Rattle.std.proofs.lemmas.List.{take_more, take_all, length-take-le, get_or-take}
use Rattle.std.proofs.lemmas.Bool.Decides.{nat_tests}
use Rattle.std.specs.Char.{is_ascii_digit, digit_value}
use Rattle.std.specs.List.{position_or_len}
use Rattle.std.specs.Str.{all_ascii_digits}
use Rattle.std.specs.Str.Parse.{digits_value, digits_value_after}
use Rattle.xc_base.specs.Words.{split_on, number_of, is_number}
use Rattle.xc_base.proofs.WordLaws.{and_parts, digit_at_most, one_more_digit}
use Rattle.xc_text.specs.Lines.{number, first_number}
use Rattle.xc_text.proofs.CutLaws.{cut_pieces, cut_none}

-- the first len bytes are digits, which spell the value
pub record IsLeading (value len : ℕ) (bytes : List ℕ) : Type 0 where
  pub within : len ≤ length bytes
  pub digits : all_ascii_digits (take len bytes) ≡ true
  pub spells : digits_value 10 (take len bytes) ≡ value
  pub small : value < 10 ^ len

digits_with : (xs : List ℕ) (c : ℕ) → all_ascii_digits xs ≡ true → is_ascii_digit c ≡ true → all_ascii_digits (xs ++ c ∷ []) ≡ true
digits_with [] c h d = rw d refl
digits_with (x ∷ xs) c h d =
    let parts = and_parts (is_ascii_digit x) (all_ascii_digits xs) h in
    rw (parts.0) (digits_with xs c parts.1 d)

worth_of : (c : ℕ) → is_ascii_digit c ≡ true → digit_value c ≡ c - 48
worth_of c h = grind (arith, nat_tests)

value_with : (n : ℕ) (xs : List ℕ) (c : ℕ) → digits_value_after 10 n (xs ++ c ∷ []) ≡ digits_value_after 10 n xs * 10 + digit_value c
value_with n [] c = refl
value_with n (x ∷ xs) c = value_with (n * 10 + digit_value x) xs c

pub no_digits : (bytes : List ℕ) → IsLeading 0 0 bytes
no_digits bytes = record { within = omega arith; digits = refl; spells = refl; small = omega arith }

pub one_digit_more : (value len digit : ℕ) (bytes : List ℕ) → IsLeading value len bytes → len < length bytes
    → is_ascii_digit (get_or bytes len 0) ≡ true → digit ≡ get_or bytes len 0 - 48 → IsLeading (10 * value + digit) (len + 1) bytes
one_digit_more value len digit bytes h l d e =
    let c = get_or bytes len 0 in
    let more = take_more bytes len 0 l in
    let worth = worth_of c d in
    let most = digit_at_most c d in
    let spells : digits_value 10 (take len bytes) ≡ value = h.spells in
    let all = value_with 0 (take len bytes) c in
    record {
      within = omega arith;
      digits = rw more (digits_with (take len bytes) c h.digits d);
      spells = rw more (all ∙ omega (arith, worth, spells));
      small = one_more_digit value digit len h.small (omega (arith, most));
    }

no_space : (x : ℕ) → is_ascii_digit x ≡ true → x == 32 ≡ false
no_space x h = grind (arith, nat_tests)

-- the digits end where the first space stands, or at the end
digits_place : (bytes : List ℕ) (n : ℕ) → all_ascii_digits (take n bytes) ≡ true → n ≤ length bytes
    → (n < length bytes → get_or bytes n 0 ≡ 32) → n ≡ position_or_len (λ b. b == 32) bytes
digits_place [] n a l h = omega arith
digits_place (x ∷ xs) zero a l h = let e : x ≡ 32 = h (omega arith) in rw e refl
digits_place (x ∷ xs) (suc n) a l h =
    let parts = and_parts (is_ascii_digit x) (all_ascii_digits (take n xs)) a in
    let later = digits_place xs n parts.1 (omega arith) (λ m. h (omega arith)) in
    rw (no_space x parts.0) (omega (arith, later))

least : (n : ℕ) → n < 2 ^ 64 → min n (2 ^ 64 - 1) ≡ n
least n h = omega arith

-- a word of digits is the number that they spell
spelled_number : (word : List ℕ) (n : ℕ) → 0 < length word → all_ascii_digits word ≡ true → (get_or word 0 0 ≡ 48 → length word ≡ 1)
    → digits_value 10 word ≡ n → n < 2 ^ 64 → number word ≡ Some n
unfolding number
spelled_number word n some digits plain value small =
    let is : is_number word ≡ true = grind (arith, nat_tests) in
    let of : number_of word ≡ Some n = rw is (ap Some value) in
    rw of (ap Some (least n small))

pub quick_end : (bytes : List ℕ) (n value : ℕ) → all_ascii_digits (take n bytes) ≡ true → digits_value 10 (take n bytes) ≡ value
    → value < 2 ^ 64 → 0 < n → (get_or bytes 0 0 ≡ 48 → n ≤ 1) → n ≡ length bytes → first_number (split_on 32 bytes) ≡ Some (value, [])
quick_end bytes n value digits spells small some plain e =
    let all : take n bytes ≡ bytes = take_all n bytes (omega arith) in
    let place = digits_place bytes n digits (omega arith) (λ m. absurd (omega arith)) in
    let is = spelled_number bytes value (omega arith) (rw all at digits) (λ z. let m = plain z in omega (arith, m)) (rw all at spells) small
    in
    rw (cut_none 32 bytes (omega (arith, place)), is) refl

pub quick_more : (bytes : List ℕ) (n value : ℕ) → all_ascii_digits (take n bytes) ≡ true → digits_value 10 (take n bytes) ≡ value
    → value < 2 ^ 64 → 0 < n → (get_or bytes 0 0 ≡ 48 → n ≤ 1) → n < length bytes → get_or bytes n 0 ≡ 32
    → first_number (split_on 32 bytes) ≡ Some (value, split_on 32 (take (length bytes - (n + 1)) (drop (n + 1) bytes)))
quick_more bytes n value digits spells small some plain l e =
    let long : length (take n bytes) ≡ n = length-take-le n bytes (omega arith) in
    let first : get_or (take n bytes) 0 0 ≡ get_or bytes 0 0 = get_or-take n bytes 0 0 some in
    let place = digits_place bytes n digits (omega arith) (λ m. e) in
    let is = spelled_number (take n bytes) value (omega arith) digits (λ z. let m = plain (sym first
    ∙ z) in omega (arith, m)) spells small in
    rw (cut_pieces 32 bytes n place l, is) refl
