-- Bytes without a fault are a name, and a buffer that takes them holds a key or a value.
use Rattle.std.proofs.Common.{◌≡◌, suc, get_or, ◌<◌, ℕ, ◌≤◌, Bool, true, false, not, List, [], ◌∷◌, ◌++◌, drop, replicate, length, cond}
use Rattle.std.proofs.Common.{nat_lt, ◌&&◌, if◌then◌else◌, Option, Some, None, refl, ◌∙◌, arith, length-append, length-drop}
use Rattle.std.proofs.lemmas.List.{take_at, drop-replicate, length-replicate}
use Rattle.std.proofs.Math.Seq.{drop-append_seam}
use Rattle.std.proofs.lemmas.Bool.Decides.{nat_tests}
use Rattle.std.proofs.lemmas.Bool.{and_from}
use Rattle.std.specs.List.{position_or_len, position, list_all}
use Rattle.std.specs.Option.{option_map}
use Rattle.xc_base.proofs.WordLaws.{and_parts}
use Rattle.xc_base.specs.declared.name.BadName.TheVariants as bad_name
use Rattle.xc_base.specs.Padded.{IsPadded}
use Rattle.xc_base.specs.Names.{within, are_bytes, IsKeyIn, IsValueIn, in_alphabet, is_plain, is_key, is_value, name_fault, key_fault}
use Rattle.xc_base.specs.Names.{value_fault}

abbrev pub zeros : ℕ → List ℕ
zeros n = replicate n 0

pub padded-by : (n : ℕ) (xs : List ℕ) → length xs ≤ n → IsPadded n (length xs) (xs ++ drop (length xs) (zeros n))
padded-by n xs l = record {
  fits = l;
  width = let e = length-append xs (drop (length xs) (zeros n)) in let d = length-drop (length xs) (zeros n) in let r : length (zeros n) ≡ n
      = length-replicate n 0 in omega arith;
  zeros = drop-append_seam xs (drop (length xs) (zeros n)) ∙ drop-replicate (length xs) n 0;
}

pub all_in : (p : ℕ → Bool) (xs : List ℕ) → length xs ≤ position_or_len (λ x. not (p x)) xs → list_all p xs ≡ true
all_in p [] h = refl
all_in p (x ∷ xs) h = grind (arith, all_in p xs)

past_end : (place n : ℕ) → cond (nat_lt place n) (Some place) None ≡ None → n ≤ place
past_end place n h = grind (arith, nat_tests)

none_outside : (xs : List ℕ) → position (λ x. not (in_alphabet x)) xs ≡ None → list_all in_alphabet xs ≡ true
none_outside xs h = all_in in_alphabet xs (past_end (position_or_len (λ x. not (in_alphabet x)) xs) (length xs) h)

no_fault : (b : Bool) (place : Option ℕ) (n : ℕ) → (if b then option_map (λ i. bad_name.Byte i) place else Some (bad_name.Length n)) ≡ None
    → (b ≡ true) × (place ≡ None)
no_fault true None n h = (refl, refl)
no_fault true (Some i) n h = cc
no_fault false place n h = cc

length_in : (least most n : ℕ) → within least most n ≡ true → (least ≤ n) × (n ≤ most)
length_in least most n h = (grind (arith, nat_tests), grind (arith, nat_tests))

-- what no fault means
pub record IsNameOf (least most : ℕ) (bytes : List ℕ) : Type 0 where
  pub low : least ≤ length bytes
  pub high : length bytes ≤ most
  pub inside : list_all in_alphabet bytes ≡ true

pub name-no_fault : (least most : ℕ) (bytes : List ℕ) → name_fault least most bytes ≡ None → IsNameOf least most bytes
name-no_fault least most bytes h =
    let parts = no_fault (within least most (length bytes)) (position (λ x. not (in_alphabet x)) bytes) (length bytes) h in
    let limits = length_in least most (length bytes) parts.0 in
    record { low = limits.0; high = limits.1; inside = none_outside bytes parts.1 }

in_alphabet-byte : (b : ℕ) → in_alphabet b ≡ true → nat_lt b 256 ≡ true
in_alphabet-byte b h = grind (arith, nat_tests)

pub plain-bytes : (xs : List ℕ) → is_plain xs ≡ true → are_bytes xs ≡ true
plain-bytes [] h = refl
plain-bytes (x ∷ xs) h =
    let parts = and_parts (in_alphabet x) (is_plain xs) h in
    and_from _ _ (in_alphabet-byte x parts.0) (plain-bytes xs parts.1)

-- a slice's bytes
pub below-bytes : (xs : List ℕ) → ((i : ℕ) → get_or xs i 0 < 256) → are_bytes xs ≡ true
below-bytes [] h = refl
below-bytes (x ∷ xs) h = let here : x < 256 = h 0 in and_from _ _ (grind (arith, nat_tests)) (below-bytes xs (λ i. h (suc i)))

pub key-no_fault : (bytes : List ℕ) → key_fault bytes ≡ None → is_key bytes ≡ true
key-no_fault bytes h = let name = name-no_fault 1 32 bytes h in rw (plain-bytes bytes name.inside) (grind (arith, nat_tests))

pub value-no_fault : (bytes : List ℕ) → value_fault bytes ≡ None → is_value bytes ≡ true
value-no_fault bytes h = let name = name-no_fault 0 64 bytes h in rw (plain-bytes bytes name.inside) (grind (arith, nat_tests))

length-within : (least most : ℕ) (bytes : List ℕ) → within least most (length bytes) && are_bytes bytes ≡ true → length bytes ≤ most
length-within least most bytes h =
    let parts = and_parts (within least most (length bytes)) (are_bytes bytes) h in
    (length_in least most (length bytes) parts.0).1

pub value-length : (bytes : List ℕ) → is_value bytes ≡ true → length bytes ≤ 64
value-length bytes h = length-within 0 64 bytes h

pub key-length : (bytes : List ℕ) → is_key bytes ≡ true → length bytes ≤ 32
key-length bytes h = length-within 1 32 bytes h

-- and what is a name has no fault
inside_all : (xs : List ℕ) → list_all in_alphabet xs ≡ true → position_or_len (λ x. not (in_alphabet x)) xs ≡ length xs
inside_all [] h = refl
inside_all (x ∷ xs) h = grind (arith, inside_all xs)

no_position : (place n : ℕ) → place ≡ n → cond (nat_lt place n) (Some place) None ≡ None
no_position place n h = grind (arith, nat_tests)

name-has_no_fault : (least most : ℕ) (bytes : List ℕ) → least ≤ length bytes → length bytes ≤ most → list_all in_alphabet bytes ≡ true
    → name_fault least most bytes ≡ None
name-has_no_fault least most bytes low high inside =
    let fits : within least most (length bytes) ≡ true = grind (arith, nat_tests) in
    let none : position (λ x. not (in_alphabet x)) bytes ≡ None = no_position _ (length bytes) (inside_all bytes inside) in
    rw (fits, none) refl

name_parts : (least most : ℕ) (bytes : List ℕ) → within least most (length bytes) && are_bytes bytes ≡ true → is_plain bytes ≡ true
    → name_fault least most bytes ≡ None
name_parts least most bytes h plain =
    let parts = and_parts (within least most (length bytes)) (are_bytes bytes) h in
    let limits = length_in least most (length bytes) parts.0 in
    name-has_no_fault least most bytes limits.0 limits.1 plain

pub key-has_no_fault : (bytes : List ℕ) → is_key bytes ≡ true → is_plain bytes ≡ true → key_fault bytes ≡ None
key-has_no_fault bytes h plain = name_parts 1 32 bytes h plain

pub value-has_no_fault : (bytes : List ℕ) → is_value bytes ≡ true → is_plain bytes ≡ true → value_fault bytes ≡ None
value-has_no_fault bytes h plain = name_parts 0 64 bytes h plain

-- the buffer of a new key, and of a new value
pub key_in : (xs ys : List ℕ) → ys ≡ xs → is_key xs ≡ true → IsKeyIn (length xs) (ys ++ drop (length xs) (zeros 32))
key_in xs ys e h = rw e (record {
  padded = padded-by 32 xs (key-length xs h);
  key = rw (take_at xs (drop (length xs) (zeros 32)) (length xs) refl) h;
})

pub value_in : (xs ys : List ℕ) → ys ≡ xs → is_value xs ≡ true → IsValueIn (length xs) (ys ++ drop (length xs) (zeros 64))
value_in xs ys e h = rw e (record {
  padded = padded-by 64 xs (value-length xs h);
  value = rw (take_at xs (drop (length xs) (zeros 64)) (length xs) refl) h;
})
