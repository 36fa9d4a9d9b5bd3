-- Heads tell keys apart as the keys' bytes do.
use Rattle.std.proofs.Common.{◌≡◌, ◌≢◌, ℕ, zero, suc, ◌+◌, ◌-◌, ◌*◌, ◌<◌, ◌≤◌, true, List, [], ◌∷◌, ◌++◌, length, take}
use Rattle.std.proofs.Common.{drop, replicate, set, min, nat_lt, refl, sym, ap, ◌∙◌, arith, ⊎_elim, length-append, length-drop}
use Rattle.std.proofs.Common.{append_assoc, append-nil}
use Rattle.std.proofs.Math.Nat.{mul_assoc}
use Rattle.std.proofs.Math.Seq.{set-append_seam}
use Rattle.std.proofs.lemmas.Bool.Decides.{nat_tests}
use Rattle.std.proofs.lemmas.Bool.{cases_Bool, ltb-true, ltb-false}
use Rattle.std.proofs.lemmas.List.{take-append-drop, length-take-le, take_all, drop-replicate, length-replicate, replicate-append-replicate}
use Rattle.std.proofs.lemmas.Cmp.{nat_list_cmp_total, tied_itself}
use Rattle.std.specs.declared.cmp.Ordering.{Ordering}
use Rattle.std.specs.declared.cmp.Ordering.TheVariants.{Less, Equal, Greater}
use Rattle.std.specs.Ordering.{nat_cmp, ordering_then, ordering_reverse, MatchOrdering}
use Rattle.std.specs.Cmp.{ranks}
use Rattle.std.specs.Cmp.Lexicographic.{slice_cmp}
use Rattle.std.specs.Simd.Lanes.{chunk}
use Rattle.std.specs.Slice.Scan.{big_endian}
use Rattle.std.specs.Option.{option_map_or}
use Rattle.xc_base.specs.declared.limits.TheConstants.{KEY_BYTES}
use Rattle.xc_base.specs.Names.{within, are_bytes, is_key, is_value}
use Rattle.xc_base.specs.Padded.{padded}
use Rattle.xc_base.proofs.WordLaws.{and_parts}
use Rattle.xc_versions.specs.declared.stored.Slot.{Slot}
use Rattle.xc_arena.specs.Arena.{key_at}
use Rattle.xc_versions.specs.Heads.{beginning, IsSlot}
use Rattle.xc_arena.proofs.ArenaLaws.{lies-key}

-- ---- the first n bytes, zeros behind a shorter key, as a number after a

cut : ℕ → List ℕ → List ℕ
cut n k = take n (padded n k)

word : ℕ → ℕ → List ℕ → ℕ
word a n k = big_endian a (cut n k)

word-nil : (a n : ℕ) → word a (suc n) [] ≡ word (a * 256) n []
unfolding word cut
word-nil a n =
    let all : suc n - 0 ≡ suc n = omega arith in
    let rest : n ≡ n - 0 = omega arith in
    let none : a * 256 + 0 ≡ a * 256 = omega arith in
    ap (λ m. big_endian a (take (suc n) (replicate m 0))) all ∙ ap (λ m. big_endian (a * 256 + 0) (take n (replicate m 0))) rest
    ∙ ap (λ b. big_endian b (take n (replicate (n - 0) 0))) none

word-cons : (a n x : ℕ) (xs : List ℕ) → word a (suc n) (x ∷ xs) ≡ word (a * 256 + x) n xs
unfolding word cut
word-cons a n x xs =
    let rest : suc n - suc (length xs) ≡ n - length xs = omega arith in
    ap (λ m. big_endian (a * 256 + x) (take n (xs ++ replicate m 0))) rest

byte_below : (n : ℕ) → nat_lt n 256 ≡ true → n < 256
byte_below n h = grind (arith, nat_tests)

zeros-least : (n a b : ℕ) (q : List ℕ) → a ≤ b → word a n [] ≤ word b n q
unfolding word cut
zeros-least zero a b q h = h
zeros-least (suc n) a b [] h = rw (word-nil a n, word-nil b n) (zeros-least n (a * 256) (b * 256) [] (omega arith))
zeros-least (suc n) a b (y ∷ ys) h = rw (word-nil a n, word-cons b n y ys) (zeros-least n (a * 256) (b * 256 + y) ys (omega arith))

word-rises : (n a b : ℕ) (k q : List ℕ) → are_bytes k ≡ true → a < b → word a n k < word b n q
unfolding word cut
word-rises zero a b k q e h = h
word-rises (suc n) a b [] [] e h = rw (word-nil a n, word-nil b n) (word-rises n (a * 256) (b * 256) [] [] refl (omega arith))
word-rises (suc n) a b [] (y ∷ ys) e h =
    rw (word-nil a n, word-cons b n y ys) (word-rises n (a * 256) (b * 256 + y) [] ys refl (omega arith))
word-rises (suc n) a b (x ∷ xs) [] e h =
    let parts = and_parts (nat_lt x 256) (are_bytes xs) e in
    let small : x < 256 = byte_below x parts.0 in
    rw (word-cons a n x xs, word-nil b n) (word-rises n (a * 256 + x) (b * 256) xs [] parts.1 (omega arith))
word-rises (suc n) a b (x ∷ xs) (y ∷ ys) e h =
    let parts = and_parts (nat_lt x 256) (are_bytes xs) e in
    let small : x < 256 = byte_below x parts.0 in
    rw (word-cons a n x xs, word-cons b n y ys) (word-rises n (a * 256 + x) (b * 256 + y) xs ys parts.1 (omega arith))

-- ---- behind it the length, of which at most one above n is told

last : ℕ → ℕ → List ℕ → ℕ
last c n k = min (c + length k) (c + n + 1)

pub mark : ℕ → ℕ → ℕ → List ℕ → ℕ
unfolding word cut
mark a c n k = word a n k * 256 + last c n k

first-less : (x y : ℕ) (r o : Ordering) → MatchOrdering r (x < y) (x ≡ y) (y < x) → (x ≡ y → o ≡ Less) → (y < x → ⊥)
    → ordering_then r o ≡ Less
first-less x y Less o h same more = refl
first-less x y Equal o h same more = same h
first-less x y Greater o h same more = absurd (more h)

-- the lesser number is that of the lesser key
pub marks-less : (n a c : ℕ) (k q : List ℕ) → c + n < 255 → are_bytes k ≡ true → are_bytes q ≡ true → mark a c n k < mark a c n q
    → slice_cmp nat_cmp k q ≡ Less
unfolding mark last word cut
marks-less n a c [] [] f e g h = absurd (omega arith)
marks-less n a c [] (y ∷ ys) f e g h = refl
marks-less zero a c (x ∷ xs) [] f e g h = absurd (omega arith)
marks-less zero a c (x ∷ xs) (y ∷ ys) f e g h = absurd (omega arith)
marks-less (suc n) a c (x ∷ xs) [] f e g h =
    let mine = word-cons a n x xs in
    let other = word-nil a n in
    let least = zeros-least n (a * 256) (a * 256 + x) xs (omega arith) in
    absurd (omega arith)
marks-less (suc n) a c (x ∷ xs) (y ∷ ys) f e g h =
    let left = and_parts (nat_lt x 256) (are_bytes xs) e in
    let right = and_parts (nat_lt y 256) (are_bytes ys) g in
    let mine = word-cons a n x xs in
    let other = word-cons a n y ys in
    first-less x y (nat_cmp x y) (slice_cmp nat_cmp xs ys) (ranks x y)
    (λ same. marks-less n (a * 256 + x) (c + 1) xs ys (omega arith) left.1 right.1
    (let equal : word (a * 256 + y) n ys ≡ word (a * 256 + x) n ys = ap (λ z. word (a * 256 + z) n ys) (sym same) in omega arith))
    (λ more. let rise = word-rises n (a * 256 + y) (a * 256 + x) ys xs right.1 (omega arith) in omega arith)

first-same : (x y : ℕ) (xs ys : List ℕ) (r : Ordering) → MatchOrdering r (x < y) (x ≡ y) (y < x) → (x ≡ y → xs ≡ ys) → (x < y → ⊥)
    → (y < x → ⊥) → x ∷ xs ≡ y ∷ ys
first-same x y xs ys Less h same less more = absurd (less h)
first-same x y xs ys Equal h same less more =
    let e : x ≡ y = h in ap (λ z. z ∷ xs) e ∙ ap (λ zs. y ∷ zs) (same e)
first-same x y xs ys Greater h same less more = absurd (more h)

-- equal numbers are those of one key, where its length is told
pub marks-same : (n a c : ℕ) (k q : List ℕ) → c + n < 255 → are_bytes k ≡ true → are_bytes q ≡ true → mark a c n k ≡ mark a c n q
    → length k ≤ n → k ≡ q
unfolding mark last word cut
marks-same n a c [] [] f e g h l = refl
marks-same zero a c [] (y ∷ ys) f e g h l = absurd (omega arith)
marks-same zero a c (x ∷ xs) q f e g h l = absurd (omega arith)
marks-same (suc n) a c [] (y ∷ ys) f e g h l =
    let mine = word-nil a n in
    let other = word-cons a n y ys in
    let least = zeros-least n (a * 256) (a * 256 + y) ys (omega arith) in
    absurd (omega arith)
marks-same (suc n) a c (x ∷ xs) [] f e g h l =
    let mine = word-cons a n x xs in
    let other = word-nil a n in
    let least = zeros-least n (a * 256) (a * 256 + x) xs (omega arith) in
    absurd (omega arith)
marks-same (suc n) a c (x ∷ xs) (y ∷ ys) f e g h l =
    let left = and_parts (nat_lt x 256) (are_bytes xs) e in
    let right = and_parts (nat_lt y 256) (are_bytes ys) g in
    let mine = word-cons a n x xs in
    let other = word-cons a n y ys in
    first-same x y xs ys (nat_cmp x y) (ranks x y)
    (λ same. marks-same n (a * 256 + x) (c + 1) xs ys (omega arith) left.1 right.1
    (let equal : word (a * 256 + y) n ys ≡ word (a * 256 + x) n ys = ap (λ z. word (a * 256 + z) n ys) (sym same) in omega arith)
    (omega arith))
    (λ less. let rise = word-rises n (a * 256 + x) (a * 256 + y) xs ys left.1 (omega arith) in omega arith)
    (λ more. let rise = word-rises n (a * 256 + y) (a * 256 + x) ys xs right.1 (omega arith) in omega arith)

-- ---- the number as two words

spelled-append : (a : ℕ) (xs ys : List ℕ) → big_endian a (xs ++ ys) ≡ big_endian (big_endian a xs) ys
spelled-append a [] ys = refl
spelled-append a (x ∷ xs) ys = spelled-append (a * 256 + x) xs ys

weight : ℕ → ℕ
weight zero = 1
weight (suc n) = 256 * weight n

spelled-after : (a b : ℕ) (ys : List ℕ) → big_endian (a + b) ys ≡ a * weight (length ys) + big_endian b ys
unfolding weight
spelled-after a b [] = omega arith
spelled-after a b (y ∷ ys) =
    let moved : (a + b) * 256 + y ≡ a * 256 + (b * 256 + y) = omega arith in
    ap (λ n. big_endian n ys) moved ∙ spelled-after (a * 256) (b * 256 + y) ys
    ∙ ap (λ m. m + big_endian (b * 256 + y) ys) (mul_assoc a 256 (weight (length ys)))

abbrev pub front : List ℕ → ℕ
front k = big_endian 0 (chunk 0 8 (beginning k))

abbrev pub back : List ℕ → ℕ
back k = big_endian 0 (chunk 8 8 (beginning k))

cut-length : (n : ℕ) (k : List ℕ) → length (cut n k) ≡ n
unfolding cut
cut-length n k =
    let whole : length (padded n k) ≡ length k + length (replicate {A = ℕ} (n - length k) 0) =
    length-append k (replicate (n - length k) 0) in
    let zeros : length (replicate {A = ℕ} (n - length k) 0) ≡ n - length k = length-replicate (n - length k) 0 in
    length-take-le n (padded n k) (omega arith)

pub mark-words : (k : List ℕ) → mark 0 0 15 k ≡ front k * 18446744073709551616 + back k
unfolding mark last word cut weight
mark-words k =
    let zs = beginning k in
    let long : length (cut 15 k) ≡ 15 = cut-length 15 k in
    let whole : length zs ≡ length (cut 15 k) + 1 = length-append (cut 15 k) (min (length k) 16 ∷ []) in
    let rest = length-drop 8 zs in
    let tail : length (drop 8 zs) ≡ 8 = omega arith in
    let all : take 8 (drop 8 zs) ≡ drop 8 zs = take_all 8 (drop 8 zs) (omega arith) in
    let counted : 0 + length k ≡ length k = omega arith in
    ap (λ m. word 0 15 k * 256 + min m 16) counted
    ∙ sym (spelled-append 0 (cut 15 k) (min (length k) 16 ∷ []))
    ∙ ap (big_endian 0) (sym (take-append-drop 8 zs))
    ∙ spelled-append 0 (take 8 zs) (drop 8 zs)
    ∙ ap (λ n. big_endian n (drop 8 zs)) (let e : front k ≡ front k + 0 = omega arith in e)
    ∙ spelled-after (front k) 0 (drop 8 zs)
    ∙ ap (λ n. front k * weight n + big_endian 0 (drop 8 zs)) tail
    ∙ ap (λ ys. front k * weight 8 + big_endian 0 ys) (sym all)

-- what a head tells of its key
pub record IsHead (f u : ℕ) (k : List ℕ) : Type 0 where
  pub bytes : are_bytes k ≡ true
  pub front_is : f ≡ front k
  pub back_is : u ≡ back k
  pub small : u < 18446744073709551616

-- the numbers of a head make up its mark
marked : (f u : ℕ) (k : List ℕ) → IsHead f u k → mark 0 0 15 k ≡ f * 18446744073709551616 + u
marked f u k h = let is = mark-words k in let a = h.front_is in let b = h.back_is in omega arith

heads-less : (f u g v : ℕ) (k q : List ℕ) → IsHead f u k → IsHead g v q
    → f * 18446744073709551616 + u < g * 18446744073709551616 + v → slice_cmp nat_cmp k q ≡ Less
heads-less f u g v k q h i l =
    let mine = marked f u k h in
    let other = marked g v q i in
    marks-less 15 0 0 k q (omega arith) h.bytes i.bytes (omega arith)

heads-more : (f u g v : ℕ) (k q : List ℕ) → IsHead f u k → IsHead g v q
    → g * 18446744073709551616 + v < f * 18446744073709551616 + u → slice_cmp nat_cmp k q ≡ Greater
heads-more f u g v k q h i l = nat_list_cmp_total.antisymm k q ∙ ap ordering_reverse (heads-less g v f u q k i h l)

told : (f u g v : ℕ) (k q : List ℕ) → IsHead f u k → IsHead g v q → (r : Ordering)
    → MatchOrdering r (f * 18446744073709551616 + u < g * 18446744073709551616 + v) ⊥
    (g * 18446744073709551616 + v < f * 18446744073709551616 + u)
    → r ≡ slice_cmp nat_cmp k q
told f u g v k q h i Less l = sym (heads-less f u g v k q h i l)
told f u g v k q h i Equal l = absurd l
told f u g v k q h i Greater l = sym (heads-more f u g v k q h i l)

fronts-rank : (f u g v : ℕ) (r : Ordering) → f ≢ g → u < 18446744073709551616 → v < 18446744073709551616
    → MatchOrdering r (f < g) (f ≡ g) (g < f)
    → MatchOrdering r (f * 18446744073709551616 + u < g * 18446744073709551616 + v) ⊥
    (g * 18446744073709551616 + v < f * 18446744073709551616 + u)
fronts-rank f u g v Less n a b m = let l : f < g = m in omega arith
fronts-rank f u g v Equal n a b m = n m
fronts-rank f u g v Greater n a b m = let l : g < f = m in omega arith

backs-rank : (f u g v : ℕ) (r : Ordering) → f ≡ g → u ≢ v → MatchOrdering r (u < v) (u ≡ v) (v < u)
    → MatchOrdering r (f * 18446744073709551616 + u < g * 18446744073709551616 + v) ⊥
    (g * 18446744073709551616 + v < f * 18446744073709551616 + u)
backs-rank f u g v Less e n m = let l : u < v = m in omega arith
backs-rank f u g v Equal e n m = n m
backs-rank f u g v Greater e n m = let l : v < u = m in omega arith

pub fronts-tell : (f u g v : ℕ) (k q : List ℕ) → IsHead f u k → IsHead g v q → f ≢ g → nat_cmp f g ≡ slice_cmp nat_cmp k q
fronts-tell f u g v k q h i n = told f u g v k q h i (nat_cmp f g) (fronts-rank f u g v (nat_cmp f g) n h.small i.small (ranks f g))

pub backs-tell : (f u g v : ℕ) (k q : List ℕ) → IsHead f u k → IsHead g v q → f ≡ g → u ≢ v → nat_cmp u v ≡ slice_cmp nat_cmp k q
backs-tell f u g v k q h i e n = told f u g v k q h i (nat_cmp u v) (backs-rank f u g v (nat_cmp u v) e n (ranks u v))

pub heads-same : (f u g v : ℕ) (k q : List ℕ) → IsHead f u k → IsHead g v q → f ≡ g → u ≡ v → length k ≤ 15 → Equal ≡ slice_cmp nat_cmp k q
heads-same f u g v k q h i e n l =
    let mine = marked f u k h in
    let other = marked g v q i in
    let same : k ≡ q = marks-same 15 0 0 k q (omega arith) h.bytes i.bytes (omega arith) l in
    sym (ap (slice_cmp nat_cmp k) (sym same) ∙ tied_itself nat_list_cmp_total k)

-- ---- the bytes of a head, as the code puts them

fronts : (key : List ℕ) (count : ℕ) → count ≡ min (length key) 15 → take count key ++ replicate (15 - count) 0 ≡ cut 15 key
unfolding cut
fronts key count e =
    ⊎_elim {C = take count key ++ replicate (15 - count) 0 ≡ cut 15 key}
    (λ t. let l = ltb-true (length key) 15 t in
    let whole : length (padded 15 key) ≡ length key + length (replicate {A = ℕ} (15 - length key) 0) =
    length-append key (replicate (15 - length key) 0) in
    let zeros : length (replicate {A = ℕ} (15 - length key) 0) ≡ 15 - length key = length-replicate (15 - length key) 0 in
    let same : count ≡ length key = omega arith in
    ap (λ n. take n key ++ replicate (15 - n) 0) same
    ∙ ap (λ w. w ++ replicate (15 - length key) 0) (take_all (length key) key (omega arith))
    ∙ sym (take_all 15 (padded 15 key) (omega arith)))
    (λ f. let l = ltb-false (length key) 15 f in
    let none : 15 - length key ≡ 0 = omega arith in
    let same : count ≡ 15 = omega arith in
    ap (λ n. take n key ++ replicate (15 - n) 0) same ∙ append-nil (take 15 key) ∙ ap (take 15) (sym (append-nil key))
    ∙ ap (λ n. take 15 (key ++ replicate n 0)) (sym none))
    (cases_Bool (nat_lt (length key) 15))

pub beginning-made : (key first : List ℕ) (count last : ℕ) → count ≡ min (length key) 15 → last ≡ min (length key) 16
    → first ≡ take count key → set (first ++ drop count (replicate 16 0)) 15 last ≡ beginning key
unfolding cut
beginning-made key first count last e f g =
    let rest : drop count (replicate 16 0) ≡ replicate (15 - count) 0 ++ 0 ∷ [] =
    drop-replicate count 16 0 ∙ ap (λ n. replicate n 0) (let n : 16 - count ≡ 15 - count + 1 = omega arith in n)
    ∙ sym (replicate-append-replicate (15 - count) 1 0) in
    let long : length (cut 15 key) ≡ 15 = cut-length 15 key in
    ap (λ w. set (w ++ drop count (replicate 16 0)) 15 last) g
    ∙ ap (λ w. set (take count key ++ w) 15 last) rest
    ∙ ap (λ w. set w 15 last) (sym (append_assoc (take count key) (replicate (15 - count) 0) (0 ∷ [])))
    ∙ ap (λ w. set (w ++ 0 ∷ []) 15 last) (fronts key count e)
    ∙ ap (λ n. set (cut 15 key ++ 0 ∷ []) n last) (sym long)
    ∙ set-append_seam (cut 15 key) 0 [] last
    ∙ ap (λ n. cut 15 key ++ n ∷ []) f

-- ---- keys of slots

pub key-bytes : (k : List ℕ) → is_key k ≡ true → are_bytes k ≡ true
key-bytes k e = (and_parts (within 1 KEY_BYTES (length k)) (are_bytes k) e).1

pub slot-bytes : (b : List ℕ) (s : Slot) → IsSlot b s → are_bytes (key_at b s.at) ≡ true
slot-bytes b s g =
    let l = g.lies in
    ap are_bytes (lies-key b s.at l)
    ∙ key-bytes l.op.key (and_parts (is_key l.op.key) (option_map_or is_value l.op.value true) l.well).0
