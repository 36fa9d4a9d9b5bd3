-- Bytes compared eight at a time, as numbers, and keys compared with the zeros behind them.
use Rattle.std.proofs.Common.{◌≡◌, ◌≢◌, ℕ, zero, suc, ◌+◌, ◌-◌, ◌*◌, ◌<◌, ◌≤◌, Bool, true, false, ◌&&◌, List, [], ◌∷◌, ◌++◌, length, take}
use Rattle.std.proofs.Common.{drop, replicate, nat_lt, refl, sym, ap, ◌∙◌, arith, length-drop, bytes_eq}
use Rattle.std.proofs.lemmas.Bool.Decides.{nat_tests}
use Rattle.std.proofs.lemmas.Bool.{and_from}
use Rattle.std.proofs.lemmas.List.{take-append-drop, drop-drop, length-take-le, drop_all}
use Rattle.std.proofs.lemmas.Map.Text.{is_eq-slice_cmp}
use Rattle.std.specs.declared.cmp.Ordering.{Ordering}
use Rattle.std.specs.declared.cmp.Ordering.TheVariants.{Less, Equal, Greater}
use Rattle.std.specs.Ordering.{nat_cmp, ordering_then, is_eq, MatchOrdering}
use Rattle.std.specs.Cmp.{ranks, nat_cmp_is, tied_then}
use Rattle.std.specs.Cmp.Lexicographic.{slice_cmp}
use Rattle.std.specs.Simd.Lanes.{chunk}
use Rattle.std.specs.Slice.Scan.{big_endian}
use Rattle.xc_base.proofs.WordLaws.{and_parts}
use Rattle.xc_base.specs.Names.{are_bytes}
use Rattle.xc_base.specs.Padded.{IsPadded, padded-front, length-front}

below : (x y : ℕ) → x < y → nat_cmp x y ≡ Less
below x y h = sym (nat_cmp_is x y Less h)

level : (x y : ℕ) → x ≡ y → nat_cmp x y ≡ Equal
level x y h = sym (nat_cmp_is x y Equal h)

above : (x y : ℕ) → y < x → nat_cmp x y ≡ Greater
above x y h = sym (nat_cmp_is x y Greater h)

then-assoc : (a b c : Ordering) → ordering_then (ordering_then a b) c ≡ ordering_then a (ordering_then b c)
then-assoc Less b c = refl
then-assoc Equal b c = refl
then-assoc Greater b c = refl

-- ---- numbers that bytes spell

byte_below : (n : ℕ) → nat_lt n 256 ≡ true → n < 256
byte_below n h = grind (arith, nat_tests)

rises : (us vs : List ℕ) (a b : ℕ) → length us ≡ length vs → are_bytes us ≡ true → a < b → big_endian a us < big_endian b vs
rises [] [] a b e k l = l
rises [] (v ∷ vs) a b e k l = absurd (omega arith)
rises (u ∷ us) [] a b e k l = absurd (omega arith)
rises (u ∷ us) (v ∷ vs) a b e k l =
    let parts = and_parts (nat_lt u 256) (are_bytes us) k in
    let small : u < 256 = byte_below u parts.0 in
    rises us vs (a * 256 + u) (b * 256 + v) (omega arith) parts.1 (omega arith)

-- the first bytes decide, or else the rest
first_then : (u v a : ℕ) (us vs : List ℕ) → length us ≡ length vs → are_bytes us ≡ true → are_bytes vs ≡ true → u < 256 → v < 256
    → nat_cmp (big_endian (a * 256 + v) us) (big_endian (a * 256 + v) vs) ≡ slice_cmp nat_cmp us vs
    → (r : Ordering) → nat_cmp u v ≡ r → MatchOrdering r (u < v) (u ≡ v) (v < u)
    → nat_cmp (big_endian (a * 256 + u) us) (big_endian (a * 256 + v) vs) ≡ ordering_then r (slice_cmp nat_cmp us vs)
first_then u v a us vs e g h f k rest Less q l =
    let under : u < v = l in below _ _ (rises us vs (a * 256 + u) (a * 256 + v) e g (omega arith))
first_then u v a us vs e g h f k rest Equal q l =
    let same : u ≡ v = l in ap (λ n. nat_cmp (big_endian (a * 256 + n) us) (big_endian (a * 256 + v) vs)) same ∙ rest
first_then u v a us vs e g h f k rest Greater q l =
    let over : v < u = l in above _ _ (rises vs us (a * 256 + v) (a * 256 + u) (sym e) h (omega arith))

spells : (us vs : List ℕ) (a : ℕ) → length us ≡ length vs → are_bytes us ≡ true → are_bytes vs ≡ true
    → nat_cmp (big_endian a us) (big_endian a vs) ≡ slice_cmp nat_cmp us vs
spells [] [] a e g h = level a a refl
spells [] (v ∷ vs) a e g h = absurd (omega arith)
spells (u ∷ us) [] a e g h = absurd (omega arith)
spells (u ∷ us) (v ∷ vs) a e g h =
    let left = and_parts (nat_lt u 256) (are_bytes us) g in
    let right = and_parts (nat_lt v 256) (are_bytes vs) h in
    let small : u < 256 = byte_below u left.0 in
    let few : v < 256 = byte_below v right.0 in
    let same : length us ≡ length vs = omega arith in
    let rest = spells us vs (a * 256 + v) same left.1 right.1 in
    first_then u v a us vs same left.1 right.1 small few rest (nat_cmp u v) refl (ranks u v)

-- ---- lists in parts

cmp-append : (us vs xs ys : List ℕ) → length us ≡ length vs
    → slice_cmp nat_cmp (us ++ xs) (vs ++ ys) ≡ ordering_then (slice_cmp nat_cmp us vs) (slice_cmp nat_cmp xs ys)
cmp-append [] [] xs ys e = refl
cmp-append [] (v ∷ vs) xs ys e = absurd (omega arith)
cmp-append (u ∷ us) [] xs ys e = absurd (omega arith)
cmp-append (u ∷ us) (v ∷ vs) xs ys e =
    ap (ordering_then (nat_cmp u v)) (cmp-append us vs xs ys (omega arith)) ∙ sym (then-assoc (nat_cmp u v) _ _)

take-bytes : (n : ℕ) (xs : List ℕ) → are_bytes xs ≡ true → are_bytes (take n xs) ≡ true
take-bytes zero xs h = refl
take-bytes (suc n) [] h = refl
take-bytes (suc n) (x ∷ xs) h = let parts = and_parts (nat_lt x 256) (are_bytes xs) h in and_from _ _ parts.0 (take-bytes n xs parts.1)

drop-bytes : (n : ℕ) (xs : List ℕ) → are_bytes xs ≡ true → are_bytes (drop n xs) ≡ true
drop-bytes zero xs h = h
drop-bytes (suc n) [] h = refl
drop-bytes (suc n) (x ∷ xs) h = let parts = and_parts (nat_lt x 256) (are_bytes xs) h in drop-bytes n xs parts.1

abbrev pub word : List ℕ → ℕ → ℕ
word xs i = big_endian 0 (chunk i 8 xs)

cut : (zs : List ℕ) (i : ℕ) → drop i zs ≡ chunk i 8 zs ++ drop (i + 8) zs
cut zs i = sym (take-append-drop 8 (drop i zs)) ∙ ap (λ t. chunk i 8 zs ++ t) (drop-drop 8 i zs)

chunk-length : (zs : List ℕ) (i : ℕ) → i + 8 ≤ length zs → length (chunk i 8 zs) ≡ 8
chunk-length zs i f = length-take-le 8 (drop i zs) (omega (arith, length-drop i zs))

-- the words at i decide, or else the rest
word_then : (xs ys : List ℕ) (i : ℕ) → i + 8 ≤ length xs → i + 8 ≤ length ys → are_bytes xs ≡ true → are_bytes ys ≡ true
    → slice_cmp nat_cmp (drop i xs) (drop i ys)
    ≡ ordering_then (nat_cmp (word xs i) (word ys i)) (slice_cmp nat_cmp (drop (i + 8) xs) (drop (i + 8) ys))
word_then xs ys i f e g h =
    ap (λ zs. slice_cmp nat_cmp zs (drop i ys)) (cut xs i)
    ∙ ap (slice_cmp nat_cmp (chunk i 8 xs ++ drop (i + 8) xs)) (cut ys i)
    ∙ cmp-append (chunk i 8 xs) (chunk i 8 ys) _ _ (chunk-length xs i f ∙ sym (chunk-length ys i e))
    ∙ ap (λ o. ordering_then o (slice_cmp nat_cmp (drop (i + 8) xs) (drop (i + 8) ys)))
    (sym (spells (chunk i 8 xs) (chunk i 8 ys) 0 (chunk-length xs i f ∙ sym (chunk-length ys i e))
    (take-bytes 8 (drop i xs) (drop-bytes i xs g)) (take-bytes 8 (drop i ys) (drop-bytes i ys h))))

decided : (x y : ℕ) (o : Ordering) → x ≢ y → (r : Ordering) → MatchOrdering r (x < y) (x ≡ y) (y < x) → ordering_then r o ≡ r
decided x y o n Less h = refl
decided x y o n Equal h = absurd (n h)
decided x y o n Greater h = refl

-- two lists of four words, of which these are read
pub record AreWords (xs ys : List ℕ) (i x y : ℕ) : Type 0 where
  pub left : x ≡ word xs i
  pub right : y ≡ word ys i

pub record FourWords (xs ys : List ℕ) : Type 0 where
  pub left_length : length xs ≡ 32
  pub right_length : length ys ≡ 32
  pub left_bytes : are_bytes xs ≡ true
  pub right_bytes : are_bytes ys ≡ true

at : (xs ys : List ℕ) (i x y : ℕ) → FourWords xs ys → i + 8 ≤ 32 → AreWords xs ys i x y
    → slice_cmp nat_cmp (drop i xs) (drop i ys) ≡ ordering_then (nat_cmp x y) (slice_cmp nat_cmp (drop (i + 8) xs) (drop (i + 8) ys))
at xs ys i x y h f w =
    let a : length xs ≡ 32 = h.left_length in
    let b : length ys ≡ 32 = h.right_length in
    word_then xs ys i (omega arith) (omega arith) h.left_bytes h.right_bytes
    ∙ ap (λ n. ordering_then (nat_cmp n (word ys i)) (slice_cmp nat_cmp (drop (i + 8) xs) (drop (i + 8) ys))) (sym w.left)
    ∙ ap (λ n. ordering_then (nat_cmp x n) (slice_cmp nat_cmp (drop (i + 8) xs) (drop (i + 8) ys))) (sym w.right)

-- where they differ they decide
pub unequal_words : (xs ys : List ℕ) (i x y : ℕ) → FourWords xs ys → i + 8 ≤ 32 → AreWords xs ys i x y → x ≢ y
    → slice_cmp nat_cmp (drop i xs) (drop i ys) ≡ nat_cmp x y
unequal_words xs ys i x y h f w n = at xs ys i x y h f w ∙ decided x y _ n (nat_cmp x y) (ranks x y)

pub equal_words : (xs ys : List ℕ) (i x y : ℕ) → FourWords xs ys → i + 8 ≤ 32 → AreWords xs ys i x y → x ≡ y
    → slice_cmp nat_cmp (drop i xs) (drop i ys) ≡ slice_cmp nat_cmp (drop (i + 8) xs) (drop (i + 8) ys)
equal_words xs ys i x y h f w n =
    at xs ys i x y h f w ∙ ap (λ o. ordering_then o (slice_cmp nat_cmp (drop (i + 8) xs) (drop (i + 8) ys))) (level x y n)

then-Equal : (o : Ordering) → ordering_then o Equal ≡ o
then-Equal Less = refl
then-Equal Equal = refl
then-Equal Greater = refl

pub last_words : (xs ys : List ℕ) (x y : ℕ) → FourWords xs ys → AreWords xs ys 24 x y
    → slice_cmp nat_cmp (drop 24 xs) (drop 24 ys) ≡ nat_cmp x y
last_words xs ys x y h w =
    let a : length xs ≡ 32 = h.left_length in
    let b : length ys ≡ 32 = h.right_length in
    at xs ys 24 x y h (omega arith) w
    ∙ ap (λ zs. ordering_then (nat_cmp x y) (slice_cmp nat_cmp zs (drop 32 ys))) (drop_all 32 xs (omega arith))
    ∙ ap (λ zs. ordering_then (nat_cmp x y) (slice_cmp nat_cmp [] zs)) (drop_all 32 ys (omega arith))
    ∙ then-Equal (nat_cmp x y)

-- ---- keys with the zeros behind them

same-zeros : (n : ℕ) → slice_cmp nat_cmp (replicate n 0) (replicate n 0) ≡ Equal
same-zeros zero = refl
same-zeros (suc n) = same-zeros n

level_zeros : (n m : ℕ) → n ≡ m → slice_cmp nat_cmp (replicate n 0) (replicate m 0) ≡ Equal
level_zeros n m e = ap (λ k. slice_cmp nat_cmp (replicate k 0) (replicate m 0)) e ∙ same-zeros m

zeros_least : (ys : List ℕ) (n m : ℕ) → n ≡ length ys + m
    → ordering_then (slice_cmp nat_cmp (replicate n 0) (ys ++ replicate m 0)) Less ≡ Less
zeros_least [] n m e = ap (λ o. ordering_then o Less) (level_zeros n m (omega arith))
zeros_least (y ∷ ys) zero m e = absurd (omega arith)
zeros_least (zero ∷ ys) (suc n) m e = zeros_least ys n m (omega arith)
zeros_least (suc y ∷ ys) (suc n) m e = rw (below 0 (suc y) (omega arith)) refl

zeros_last : (ys : List ℕ) (n m : ℕ) → n ≡ length ys + m
    → ordering_then (slice_cmp nat_cmp (ys ++ replicate m 0) (replicate n 0)) Greater ≡ Greater
zeros_last [] n m e = ap (λ o. ordering_then o Greater) (level_zeros m n (omega arith))
zeros_last (y ∷ ys) zero m e = absurd (omega arith)
zeros_last (zero ∷ ys) (suc n) m e = zeros_last ys n m (omega arith)
zeros_last (suc y ∷ ys) (suc n) m e = rw (above (suc y) 0 (omega arith)) refl

suc-cmp : (n m : ℕ) (r : Ordering) → MatchOrdering r (n < m) (n ≡ m) (m < n) → nat_cmp (suc n) (suc m) ≡ r
suc-cmp n m Less h = let l : n < m = h in below (suc n) (suc m) (omega arith)
suc-cmp n m Equal h = let l : n ≡ m = h in level (suc n) (suc m) (omega arith)
suc-cmp n m Greater h = let l : m < n = h in above (suc n) (suc m) (omega arith)

padded-cmp : (xs ys : List ℕ) (n m : ℕ) → length xs + n ≡ length ys + m
    → slice_cmp nat_cmp xs ys
    ≡ ordering_then (slice_cmp nat_cmp (xs ++ replicate n 0) (ys ++ replicate m 0)) (nat_cmp (length xs) (length ys))
padded-cmp [] [] n m e = let same : n ≡ m = omega arith in sym (ap (λ o. ordering_then o Equal) (level_zeros n m same))
padded-cmp [] (y ∷ ys) n m e =
    rw (below 0 (length (y ∷ ys)) (omega arith)) (sym (zeros_least (y ∷ ys) n m (omega arith)))
padded-cmp (x ∷ xs) [] n m e =
    rw (above (length (x ∷ xs)) 0 (omega arith)) (sym (zeros_last (x ∷ xs) m n (omega arith)))
padded-cmp (x ∷ xs) (y ∷ ys) n m e =
    ap (ordering_then (nat_cmp x y)) (padded-cmp xs ys n m (omega arith))
    ∙ sym (then-assoc (nat_cmp x y) _ _)
    ∙ ap (ordering_then (slice_cmp nat_cmp (x ∷ xs ++ replicate n 0) (y ∷ ys ++ replicate m 0)))
    (sym (suc-cmp (length xs) (length ys) _ (ranks (length xs) (length ys))))

-- the names k and q in buffers, and their lengths
pub record InBuffers (k q xs ys : List ℕ) (n m : ℕ) : Type 0 where
  pub left : IsPadded 32 n xs
  pub right : IsPadded 32 m ys
  pub left_is : take n xs ≡ k
  pub right_is : take m ys ≡ q

buffers-cmp : (n m : ℕ) (xs ys : List ℕ) → IsPadded 32 n xs → IsPadded 32 m ys
    → slice_cmp nat_cmp (take n xs) (take m ys) ≡ ordering_then (slice_cmp nat_cmp xs ys) (nat_cmp n m)
buffers-cmp n m xs ys p q =
    let a = length-front 32 n xs p in
    let b = length-front 32 m ys q in
    let f : n ≤ 32 = p.fits in
    let g : m ≤ 32 = q.fits in
    padded-cmp (take n xs) (take m ys) (32 - length (take n xs)) (32 - length (take m ys)) (omega arith)
    ∙ rw (padded-front 32 n xs p, padded-front 32 m ys q, a, b) refl

names-cmp : (k q xs ys : List ℕ) (n m : ℕ) → InBuffers k q xs ys n m
    → slice_cmp nat_cmp k q ≡ ordering_then (slice_cmp nat_cmp xs ys) (nat_cmp n m)
names-cmp k q xs ys n m h =
    ap (λ t. slice_cmp nat_cmp t q) (sym h.left_is) ∙ ap (slice_cmp nat_cmp (take n xs)) (sym h.right_is)
    ∙ buffers-cmp n m xs ys h.left h.right

pub level-cmp : (k q xs ys : List ℕ) (n m : ℕ) (o : Ordering) → InBuffers k q xs ys n m → Equal ≡ slice_cmp nat_cmp xs ys → o ≡ nat_cmp n m
    → o ≡ slice_cmp nat_cmp k q
level-cmp k q xs ys n m o h e l = l ∙ ap (λ r. ordering_then r (nat_cmp n m)) e ∙ sym (names-cmp k q xs ys n m h)

apart_then : (r o : Ordering) → (r ≡ Equal → ⊥) → r ≡ ordering_then r o
apart_then Less o h = refl
apart_then Equal o h = absurd (h refl)
apart_then Greater o h = refl

pub apart-cmp : (k q xs ys : List ℕ) (n m : ℕ) (o : Ordering) → InBuffers k q xs ys n m → o ≡ slice_cmp nat_cmp xs ys → (o ≡ Equal → ⊥)
    → o ≡ slice_cmp nat_cmp k q
apart-cmp k q xs ys n m o h e f =
    apart_then o (nat_cmp n m) f ∙ ap (λ r. ordering_then r (nat_cmp n m)) e ∙ sym (names-cmp k q xs ys n m h)

names-eq : (k q xs ys : List ℕ) (n m : ℕ) → InBuffers k q xs ys n m → bytes_eq k q ≡ (bytes_eq xs ys && is_eq (nat_cmp n m))
names-eq k q xs ys n m h =
    sym (is_eq-slice_cmp k q) ∙ ap is_eq (names-cmp k q xs ys n m h) ∙ sym (tied_then (slice_cmp nat_cmp xs ys) (nat_cmp n m))
    ∙ ap (λ b. b && is_eq (nat_cmp n m)) (is_eq-slice_cmp xs ys)

and_true : (b : Bool) → (b && true) ≡ b
and_true true = refl
and_true false = refl

and_false : (b : Bool) → (b && false) ≡ false
and_false true = refl
and_false false = refl

pub level-eq : (k q xs ys : List ℕ) (n m : ℕ) → InBuffers k q xs ys n m → n ≡ m → bytes_eq xs ys ≡ bytes_eq k q
level-eq k q xs ys n m h e =
    sym (names-eq k q xs ys n m h ∙ ap (λ o. bytes_eq xs ys && is_eq o) (level n m e) ∙ and_true (bytes_eq xs ys))

differ : (n m : ℕ) → n ≢ m → (r : Ordering) → MatchOrdering r (n < m) (n ≡ m) (m < n) → is_eq r ≡ false
differ n m f Less h = refl
differ n m f Equal h = absurd (f h)
differ n m f Greater h = refl

pub apart-eq : (k q xs ys : List ℕ) (n m : ℕ) → InBuffers k q xs ys n m → n ≢ m → bytes_eq k q ≡ false
apart-eq k q xs ys n m h f =
    names-eq k q xs ys n m h ∙ ap (λ b. bytes_eq xs ys && b) (differ n m f (nat_cmp n m) (ranks n m)) ∙ and_false (bytes_eq xs ys)
