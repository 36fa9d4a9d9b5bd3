-- A list of bytes that is cut at the first separator.
use Rattle.std.proofs.Common.{◌≡◌, ℕ, ◌+◌, ◌-◌, ◌<◌, ◌≤◌, ◌==◌, Bool, true, false, List, [], ◌∷◌, length, take, drop, refl, sym, cond, Some}
use Rattle.std.proofs.Common.{None, arith}
use Rattle.std.proofs.lemmas.List.{take_rest}
use Rattle.std.proofs.lemmas.List.Splits.{slice_split_first, slice_split_none}
use Rattle.std.proofs.lemmas.List.Sums.{fails_before_first, position_or_len_is}
use Rattle.std.proofs.lemmas.Bool.Decides.{nat_tests}
use Rattle.memchr.specs.Find.{IsFirstByte, is_byte}
use Rattle.std.specs.List.{list_any, position_or_len, onto_first}
use Rattle.xc_base.specs.Words.{split_on}
use Rattle.xc_text.specs.Lines.{is_over}

pub cut_pieces : (c : ℕ) (bytes : List ℕ) (n : ℕ) → n ≡ position_or_len (λ b. b == c) bytes → n < length bytes
    → split_on c bytes ≡ take n bytes ∷ split_on c (take (length bytes - (n + 1)) (drop (n + 1) bytes))
cut_pieces c bytes n e h =
    rw (take_rest bytes (n + 1)) (rw e (slice_split_first (λ b. b == c) bytes 0 (omega arith)))

pub cut_none : (c : ℕ) (bytes : List ℕ) → length bytes ≤ position_or_len (λ b. b == c) bytes → split_on c bytes ≡ bytes ∷ []
cut_none c bytes h = slice_split_none (λ b. b == c) bytes (λ k d l. fails_before_first (λ b. b == c) bytes k d (omega arith))

pub any_found : (p : ℕ → Bool) (xs : List ℕ) → position_or_len p xs < length xs → list_any p xs ≡ true
any_found p [] h = absurd (omega arith)
any_found p (x ∷ xs) h = grind (arith, any_found p xs)

pub none_found : (p : ℕ → Bool) (xs : List ℕ) → length xs ≤ position_or_len p xs → list_any p xs ≡ false
none_found p [] h = refl
none_found p (x ∷ xs) h = grind (arith, none_found p xs)

-- ---- what `memchr` finds

unequal : (a b : ℕ) → ¬ (a == b ≡ true) → a == b ≡ false
unequal a b h = grind (arith, nat_tests)

pub found_first : (c : ℕ) (bytes : List ℕ) (n : ℕ) → IsFirstByte (is_byte c) bytes (Some n) → n ≡ position_or_len (λ b. b == c) bytes
found_first c bytes n h =
    sym (position_or_len_is (λ b. b == c) bytes n 0 (omega (arith, h.0.high)) (λ k l. unequal _ c (h.0.before k (omega arith) l))
    (λ l. h.1))

pub found_none : (c : ℕ) (bytes : List ℕ) → IsFirstByte (is_byte c) bytes None → length bytes ≡ position_or_len (λ b. b == c) bytes
found_none c bytes h =
    sym (position_or_len_is (λ b. b == c) bytes (length bytes) 0 (omega arith) (λ k l. unequal _ c (h k (omega arith) l))
    (λ l. absurd (omega arith)))

-- ---- pieces

-- there is at least one piece
pub record IsCut (pieces : List (List ℕ)) : Type 0 where
  pub first : List ℕ
  pub others : List (List ℕ)
  pub cut : pieces ≡ first ∷ others

onto_cut : (x : ℕ) (pieces : List (List ℕ)) → IsCut (onto_first x pieces)
onto_cut x [] = record { first = x ∷ []; others = []; cut = refl }
onto_cut x (piece ∷ pieces) = record { first = x ∷ piece; others = pieces; cut = refl }

pub split_is_cut : (c : ℕ) (bytes : List ℕ) → IsCut (split_on c bytes)
split_is_cut c [] = record { first = []; others = []; cut = refl }
split_is_cut c (x ∷ xs) = by (x == c)
  where
    by : (b : Bool) → IsCut (cond b ([] ∷ split_on c xs) (onto_first x (split_on c xs)))
    by true = record { first = []; others = split_on c xs; cut = refl }
    by false = onto_cut x (split_on c xs)

pub not_over : (bytes : List ℕ) → is_over (split_on 32 bytes) ≡ false
not_over bytes = let parts = split_is_cut 32 bytes in rw parts.cut refl
