-- Filters of runs of numbers, and numbers in bits.
use Rattle.std.proofs.Common.{◌≡◌, ℕ, ◌+◌, ◌-◌, ◌*◌, ◌^◌, ◌<◌, ◌≤◌, zero, suc, Bool, true, false, cond, ◌==◌, ◌&&◌, [], ◌∷◌, length, map}
use Rattle.std.proofs.Common.{refl, sym, ap, ◌∙◌, arith, inl, inr, w64, ◌%◌, IsTrue, nat_eq}
use Rattle.std.proofs.lemmas.Bool.{cases_eq, cases_lt, cases_Bool, and_from}
use Rattle.std.proofs.lemmas.Bool.Decides.{nat_tests, Decides-eqb, same_from_decides}
use Rattle.std.proofs.lemmas.Slice.Eq.{bytes_eq-Decides}
use Rattle.std.specs.Prelude.{nat_le, bytes_eq}
use Rattle.std.proofs.lemmas.List.FromFn.{get_or-map-range_with_len, length-map-range_with_len}
use Rattle.std.proofs.lemmas.List.Sums.{length-filter}
use Rattle.std.proofs.lemmas.Nat.Bits.{bit_at_set_same, bit_at_set_other, bit_at_clear_same, bit_at_clear_other, bit_at-trailing_zeros}
use Rattle.std.proofs.lemmas.Nat.Bits.{bit_at-lt, same_from_bits_below}
use Rattle.std.proofs.lemmas.Simd.{ones-mask_l, bit_mask_l, mask_l-lt}
use Rattle.std.specs.Int.{bit_at, trailing_zeros, bit_not}
use Rattle.std.specs.Prelude.{count_ones}
use Rattle.std.specs.Int.Bits.{bit_or, bit_and}
use Rattle.std.specs.Simd.Lanes.{mask_l}
use Rattle.std.proofs.lemmas.Grind.{common_steps}
use Rattle.std.specs.List.{filter, range_with_len, list_any, list_all}
use Rattle.xc_record.specs.Subs.{has_number, numbers_in, are_subs}
use Rattle.xc_record.specs.Lists.{has, insert_number, distinct}

abbrev AgreeFrom : (p q : ℕ → Bool) (a k : ℕ) → Type 0
AgreeFrom p q a k = (i : ℕ) → a ≤ i → i < a + k → p i ≡ q i

filter-agree : (p q : ℕ → Bool) (a k : ℕ) → AgreeFrom p q a k → filter p (range_with_len a k) ≡ filter q (range_with_len a k)
filter-agree p q a zero h = refl
filter-agree p q a (suc k) h =
    let here : p a ≡ q a = h a (omega arith) (omega arith) in
    let rest = filter-agree p q (a + 1) k (λ i l m. h i (omega arith) (omega arith)) in
    rw (here, rest) refl

-- n stands before all that are above it
before_all : (p : ℕ → Bool) (n a k : ℕ) → n < a → insert_number n (filter p (range_with_len a k)) ≡ n ∷ filter p (range_with_len a k)
before_all p n a zero l = refl
before_all p n a (suc k) l = grind (arith, nat_tests, before_all p n (a + 1) k (omega arith))

-- the first that is there, and the others
first_of : (p q : ℕ → Bool) (n a k : ℕ) → a ≤ n → n < a + k → p n ≡ true → q n ≡ false → ((i : ℕ) → a ≤ i → i < n → p i ≡ false)
    → ((i : ℕ) → a ≤ i → i < a + k → (i ≡ n → ⊥) → q i ≡ p i) → filter p (range_with_len a k) ≡ n ∷ filter q (range_with_len a k)
first_of p q n a zero l m t f below same = absurd (omega arith)
first_of p q n a (suc k) l m t f below same =
    elim (cases_eq a n) [
      | inl e ↦ let here : p a ≡ true = rw e t in
          let gone : q a ≡ false = rw e f in
          let rest = filter-agree p q (a + 1) k (λ i low high. sym (same i (omega arith) (omega arith) (λ d. absurd (omega arith)))) in
          rw (here, gone, rest, e) refl
      | inr ne ↦ let here : p a ≡ false = below a (omega arith) (omega arith) in
          let gone : q a ≡ false = same a (omega arith) (omega arith) ne ∙ here in
          rw (here, gone)
          (first_of p q n (a + 1) k (omega arith) (omega arith) t f (λ i low high. below i (omega arith) high)
          (λ i low high d. same i (omega arith) (omega arith) d))
    ]

added : (p q : ℕ → Bool) (n a k : ℕ) → a ≤ n → n < a + k → q n ≡ true → ((i : ℕ) → a ≤ i → i < a + k → (i ≡ n → ⊥) → q i ≡ p i)
    → filter q (range_with_len a k) ≡ insert_number n (filter p (range_with_len a k))
added p q n a zero l m t same = absurd (omega arith)
added p q n a (suc k) l m t same =
    elim (cases_eq a n) [
      | inl e ↦ let here : q a ≡ true = rw e t in
          let rest = filter-agree q p (a + 1) k (λ i low high. same i (omega arith) (omega arith) (λ d. absurd (omega arith))) in
          rw (here, rest) (elim (cases_Bool (p a)) [
            | inl y ↦ rw y (grind (arith, nat_tests))
            | inr y ↦ rw (y, before_all p n (a + 1) k (omega arith), e) refl
          ])
      | inr ne ↦ let here : q a ≡ p a = same a (omega arith) (omega arith) ne in
          let rest = added p q n (a + 1) k (omega arith) (omega arith) t (λ i low high d. same i (omega arith) (omega arith) d) in
          rw (here, rest) (grind (arith, nat_tests))
    ]

none_below : (p : ℕ → Bool) (n a k : ℕ) → n < a → list_any (λ m. m == n) (filter p (range_with_len a k)) ≡ false
none_below p n a zero l = refl
none_below p n a (suc k) l = grind (arith, nat_tests, none_below p n (a + 1) k (omega arith))

any_there : (p : ℕ → Bool) (n a k : ℕ) → a ≤ n → n < a + k → list_any (λ m. m == n) (filter p (range_with_len a k)) ≡ p n
any_there p n a zero l m = absurd (omega arith)
any_there p n a (suc k) l m =
    elim (cases_eq a n) [
      | inl e ↦ let none = none_below p n (a + 1) k (omega arith) in grind (arith, nat_tests)
      | inr ne ↦ let rest = any_there p n (a + 1) k (omega arith) (omega arith) in grind (arith, nat_tests)
    ]

-- ---- the bits

bit_of-has : (bits n : ℕ) → has_number bits n ≡ (bit_at bits (n - 1) == 1)
bit_of-has bits n = refl

pub contains-is : (bits n : ℕ) → 1 ≤ n → n ≤ 64 → has n (numbers_in bits) ≡ has_number bits n
unfolding numbers_in
contains-is bits n low high = any_there (has_number bits) n 1 64 low (omega arith)

same_bit : (a b i : ℕ) → bit_at a i ≡ bit_at b i → (bit_at a i == 1) ≡ (bit_at b i == 1)
same_bit a b i e = ap (λ x. x == 1) e

pub insert-is : (bits n : ℕ) → 1 ≤ n → n ≤ 64 → numbers_in (bit_or bits (1 * 2 ^ (n - 1) % 2 ^ 64)) ≡ insert_number n (numbers_in bits)
unfolding numbers_in
insert-is bits n low high =
    added (has_number bits) (has_number (bit_or bits (1 * 2 ^ (n - 1) % 2 ^ 64))) n 1 64 low (omega arith)
    (ap (λ x. x == 1) (bit_at_set_same w64 bits (n - 1) (omega arith)))
    (λ i l m d. ap (λ x. x == 1) (bit_at_set_other w64 bits (n - 1) (omega arith) (i - 1) (λ e. d (omega arith))))

add-sub : (k : ℕ) → k + 1 - 1 ≡ k
add-sub k = omega arith

pub first-is : (bits : ℕ) → 0 < bits → bits < 2 ^ 64
    → numbers_in bits ≡ (trailing_zeros w64 bits + 1) ∷ numbers_in (bit_and bits (bit_not w64 (1 * 2 ^ trailing_zeros w64 bits % 2 ^ 64)))
unfolding numbers_in
first-is bits some fits =
    let place = bit_at-trailing_zeros w64 bits some fits in
    let k = trailing_zeros w64 bits in
    let within : k < 64 = place.0 in
    first_of (has_number bits) (has_number (bit_and bits (bit_not w64 (1 * 2 ^ k % 2 ^ 64)))) (k + 1) 1 64 (omega arith) (omega arith)
    (rw (add-sub k) (ap (λ x. x == 1) place.1))
    (rw (add-sub k) (ap (λ x. x == 1) (bit_at_clear_same w64 bits k within)))
    (λ i l m. ap (λ x. x == 1) (place.2 (i - 1) (omega arith)))
    (λ i l m d. ap (λ x. x == 1) (bit_at_clear_other w64 bits k within (i - 1) (omega arith) (λ e. d (omega arith))))

pub none-is : numbers_in 0 ≡ []
unfolding numbers_in
none-is = refl

one_if : (x : ℕ) → x < 2 → cond (x == 1) 1 0 ≡ x
one_if x l = grind (arith, nat_tests)

-- a number is what its bits make
mask-is : (bits : ℕ) → bits < 2 ^ 64 → mask_l (map (has_number bits) (range_with_len 1 64)) ≡ bits
mask-is bits fits =
    let ms = map (has_number bits) (range_with_len 1 64) in
    let width : length ms ≡ 64 = length-map-range_with_len (has_number bits) 1 64 in
    same_from_bits_below 64 (mask_l ms) bits (let l = mask_l-lt ms in rw width at l) fits
    (λ i l. bit_mask_l ms i
    ∙ (ap (λ b. cond b 1 0) (get_or-map-range_with_len (has_number bits) 1 64 i (i + 1) false l (omega arith))
    ∙ (rw (add-sub i) (one_if (bit_at bits i) (bit_at-lt bits i)))))

pub count-is : (bits : ℕ) → bits < 2 ^ 64 → count_ones bits ≡ length (numbers_in bits)
unfolding numbers_in
count-is bits fits =
    ap count_ones (sym (mask-is bits fits))
    ∙ (ones-mask_l (has_number bits) (range_with_len 1 64) ∙ sym (length-filter (has_number bits) (range_with_len 1 64)))

pub none_if : (bits : ℕ) → bits < 2 ^ 64 → (IsTrue (nat_eq bits 0) → numbers_in bits ≡ []) × (numbers_in bits ≡ [] → IsTrue (nat_eq bits 0))
none_if bits fits = elim (cases_eq bits 0) [
  | inl e ↦ rw e (λ _. none-is, λ _. refl)
  | inr ne ↦ let e = first-is bits (omega arith) fits in (λ t. absurd (ne (grind (arith, nat_tests))), λ n. absurd (cc))
]

pub shifted-lt : (x : ℕ) → x % 2 ^ 64 < 2 ^ 64
shifted-lt x = grind (arith, common_steps)

none_above : (p : ℕ → Bool) (n a k : ℕ) → a + k ≤ n → has n (filter p (range_with_len a k)) ≡ false
none_above p n a zero l = refl
none_above p n a (suc k) l = grind (arith, nat_tests, none_above p n (a + 1) k (omega arith))

pub none-outside : (bits n : ℕ) → (1 ≤ n → n ≤ 64 → ⊥) → has n (numbers_in bits) ≡ false
unfolding numbers_in
none-outside bits n out = elim (cases_eq n 0) [
  | inl e ↦ none_below (has_number bits) n 1 64 (omega arith)
  | inr ne ↦ none_above (has_number bits) n 1 64
      (elim (cases_lt n 65) [ inl l ↦ absurd (out (omega arith) (omega arith)) | inr l ↦ omega arith ])
]

within_range : (p : ℕ → Bool) (a k : ℕ) → 1 ≤ a → a + k ≤ 65
    → list_all (λ sub. nat_le 1 sub && nat_le sub 64) (filter p (range_with_len a k)) ≡ true
within_range p a zero l h = refl
within_range p a (suc k) l h = grind (arith, nat_tests, within_range p (a + 1) k (omega arith) (omega arith))

each_once : (p : ℕ → Bool) (a k : ℕ) → distinct (filter p (range_with_len a k)) ≡ filter p (range_with_len a k)
each_once p a zero = refl
each_once p a (suc k) = elim (cases_Bool (p a)) [
  | inl y ↦ rw (y, each_once p (a + 1) k) (before_all p a (a + 1) k (omega arith))
  | inr y ↦ rw y (each_once p (a + 1) k)
]

subs-from : (p : ℕ → Bool) (a k : ℕ) → 1 ≤ a → a + k ≤ 65 → are_subs (filter p (range_with_len a k)) ≡ true
subs-from p a k l h =
    let ns = filter p (range_with_len a k) in
    and_from _ _ (within_range p a k l h) ((bytes_eq-Decides (distinct ns) ns).1 (each_once p a k))

pub well-formed : (bits : ℕ) → are_subs (numbers_in bits) ≡ true
unfolding numbers_in
well-formed bits = subs-from (has_number bits) 1 64 (omega arith) (omega arith)

bits_alike : (x y : ℕ) → x < 2 → y < 2 → (x == 1) ≡ (y == 1) → x ≡ y
bits_alike x y l m e = grind (arith, nat_tests)

-- the numbers tell the bits
pub same-bits : (a b : ℕ) → a < 2 ^ 64 → b < 2 ^ 64 → numbers_in a ≡ numbers_in b → a ≡ b
same-bits a b l m e =
    same_from_bits_below 64 a b l m
    (λ i h.
    let left = contains-is a (i + 1) (omega arith) (omega arith) in
    let right = contains-is b (i + 1) (omega arith) (omega arith) in
    let both : has_number a (i + 1) ≡ has_number b (i + 1) = sym left ∙ (ap (has (i + 1)) e ∙ right) in
    let at : bit_at a i == 1 ≡ bit_at b i == 1 = rw (add-sub i) at both in
    bits_alike (bit_at a i) (bit_at b i) (bit_at-lt a i) (bit_at-lt b i) at)

pub same-is : (a b : ℕ) → a < 2 ^ 64 → b < 2 ^ 64 → nat_eq a b ≡ bytes_eq (numbers_in a) (numbers_in b)
same-is a b l m =
    let texts = bytes_eq-Decides (numbers_in a) (numbers_in b) in
    let numbers = Decides-eqb a b in
    same_from_decides (nat_eq a b) (bytes_eq (numbers_in a) (numbers_in b)) numbers
    (λ y. same-bits a b l m (texts.0 y), λ e. texts.1 (ap numbers_in e))
