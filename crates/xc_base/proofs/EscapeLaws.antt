-- Words are read back as the bytes that they are of, and no other word is read.
use Rattle.std.proofs.Common.{◌≡◌, ℕ, zero, suc, ◌+◌, ◌-◌, ◌*◌, ◌/◌, ◌%◌, ◌<◌, ◌≤◌, Bool, true, false, not, nat_lt, List, [], ◌∷◌, ◌++◌}
use Rattle.std.proofs.Common.{length, drop, take, set, get_or, ◌==◌, ◌&&◌, if◌then◌else◌, Option, Some, None, refl, sym, ap, ◌∙◌, arith}
use Rattle.std.proofs.Common.{add-one, zero-add, append-nil, append_assoc}
use Rattle.std.specs.Option.{option_map}
use Rattle.std.proofs.Math.Seq.{drop-cons}
use Rattle.std.proofs.lemmas.List.{take_more_set, length-set, take_all, length-drop, drop_all, length-take-le, length-append}
use Rattle.std.proofs.lemmas.Bool.{and_parts, eqb-true, eq-eqb, not-true, both_ways}
use Rattle.std.proofs.lemmas.Bool.Decides.{nat_tests}
use Rattle.xc_base.specs.Names.{are_bytes, in_alphabet}
use Rattle.xc_base.specs.Escapes.{digit, is_digit, digit_value, escaped_byte, escaped, escape_value, begins_escape, begins_byte}
use Rattle.xc_base.specs.Escapes.{wrong_place, unescaped_after, unescaped, IsReadBack, EscapedIsRead, ReadIsEscaped}

-- ---- a place further on

abbrev pub further : ℕ → Option ℕ → Option ℕ
further n None = None
further n (Some place) = Some (n + place)

pub further-map : (n : ℕ) (o : Option ℕ) → further n (option_map (λ place. place + 1) o) ≡ further (n + 1) o
further-map n None = refl
further-map n (Some place) = ap Some (omega arith)

pub further-none : (o : Option ℕ) → further 0 o ≡ o
further-none None = refl
further-none (Some place) = ap Some (zero-add place)

cut : (word : List ℕ) (at : ℕ) → at < length word → drop at word ≡ get_or word at 0 ∷ drop (at + 1) word
cut word at h = rw add-one (drop-cons word at 0 h)

wrong-next : (b : ℕ) (rest : List ℕ) (n : ℕ) → begins_byte (b ∷ rest) ≡ true
    → further n (wrong_place (b ∷ rest)) ≡ further (n + 1) (wrong_place rest)
wrong-next b rest n h = rw h (further-map n (wrong_place rest))

pub wrong-on : (word : List ℕ) (at : ℕ) → at < length word → begins_byte (drop at word) ≡ true
    → further at (wrong_place (drop at word)) ≡ further (at + 1) (wrong_place (drop (at + 1) word))
wrong-on word at l h = rw (cut word at l) (wrong-next (get_or word at 0) (drop (at + 1) word) at (rw (cut word at l) at h))

pub wrong-here : (word : List ℕ) (at : ℕ) → at < length word → begins_byte (drop at word) ≡ false
    → further at (wrong_place (drop at word)) ≡ Some at
wrong-here word at l h =
    let no : begins_byte (get_or word at 0 ∷ drop (at + 1) word) ≡ false =
    rw (cut word at l) at h in rw (cut word at l, no) (ap Some (omega arith))

-- ---- the bytes from here on

-- inside an escape
pub inside : (word : List ℕ) (at digits : ℕ) → at < length word → 0 < digits
    → unescaped_after digits (drop at word) ≡ unescaped_after (digits - 1) (drop (at + 1) word)
inside word at zero l h = absurd (omega arith)
inside word at (suc digits) l h = let one : suc digits - 1 ≡ digits = omega arith in rw (cut word at l, one) refl

-- at a byte's word
pub at_byte : (word : List ℕ) (at : ℕ) → at < length word → get_or word at 0 == 37 ≡ false
    → unescaped_after 0 (drop at word) ≡ get_or word at 0 ∷ unescaped_after 0 (drop (at + 1) word)
at_byte word at l h = rw (cut word at l, h) refl

pub at_escape : (word : List ℕ) (at : ℕ) → at < length word → get_or word at 0 == 37 ≡ true
    → unescaped_after 0 (drop at word) ≡ escape_value (drop at word) ∷ unescaped_after 2 (drop (at + 1) word)
at_escape word at l h = rw (cut word at l, h) refl

-- ---- the steps of the loops

-- the rest of a slice
pub rest_is : (word : List ℕ) (at : ℕ) → take (length word - at) (drop at word) ≡ drop at word
rest_is word at = take_all (length word - at) (drop at word) (omega (arith, length-drop at word))

pub record Counts (word : List ℕ) (at digits len : ℕ) : Type 0 where
  pub right : further at (wrong_place (drop at word)) ≡ wrong_place word
  pub count : len + length (unescaped_after digits (drop at word)) ≡ length (unescaped word)
  pub few : len ≤ at

pub count_inside : (word : List ℕ) (at digits len : ℕ) → at < length word → begins_byte (drop at word) ≡ true → 0 < digits
    → Counts word at digits len → Counts word (at + 1) (digits - 1) len
count_inside word at digits len l b d h =
    let few : len ≤ at = h.few in
    record {
      right = sym (wrong-on word at l b) ∙ h.right;
      count = ap (λ xs. len + length xs) (sym (inside word at digits l d))
          ∙ h.count;
      few = omega arith;
    }

count_more : (word : List ℕ) (at digits len b : ℕ) → at < length word → begins_byte (drop at word) ≡ true
    → unescaped_after 0 (drop at word) ≡ b ∷ unescaped_after digits (drop (at + 1) word) → Counts word at 0 len
    → Counts word (at + 1) digits (len + 1)
count_more word at digits len b l right e h =
    let few : len ≤ at = h.few in
    let here : length (unescaped_after 0 (drop at word)) ≡ 1 + length (unescaped_after digits (drop (at + 1) word)) =
    ap length e ∙ omega arith in
    let count : len + length (unescaped_after 0 (drop at word)) ≡ length (unescaped word) = h.count in
    record { right = sym (wrong-on word at l right) ∙ h.right; count = omega arith; few = omega arith }

pub count_byte : (word : List ℕ) (at len : ℕ) → at < length word → begins_byte (drop at word) ≡ true → get_or word at 0 == 37 ≡ false
    → Counts word at 0 len → Counts word (at + 1) 0 (len + 1)
count_byte word at len l right e h = count_more word at 0 len _ l right (at_byte word at l e) h

pub count_escape : (word : List ℕ) (at len : ℕ) → at < length word → begins_byte (drop at word) ≡ true → get_or word at 0 == 37 ≡ true
    → Counts word at 0 len → Counts word (at + 1) 2 (len + 1)
count_escape word at len l right e h = count_more word at 2 len _ l right (at_escape word at l e) h

pub count_none : (word : List ℕ) → Counts word 0 0 0
count_none word = record { right = further-none (wrong_place word); count = zero-add _; few = omega arith }

pub count_wrong : (word : List ℕ) (at digits len : ℕ) → at < length word → begins_byte (drop at word) ≡ false → Counts word at digits len
    → wrong_place word ≡ Some at
count_wrong word at digits len l b h = sym h.right ∙ wrong-here word at l b

pub count_all : (word : List ℕ) (at digits len : ℕ) → length word ≤ at → Counts word at digits len
    → (wrong_place word ≡ None) × (len ≡ length (unescaped word))
count_all word at digits len l h =
    let none : drop at word ≡ [] = drop_all at word l in
    let count : len + length (unescaped_after digits (drop at word)) ≡ length (unescaped word) = h.count in
    let some : length (unescaped_after digits (drop at word)) ≡ 0 = rw none refl in
    (sym h.right ∙ rw none refl, omega arith)

-- ---- filling a buffer

-- the bytes so far stand in front
pub record Fills (word out : List ℕ) (at digits len : ℕ) : Type 0 where
  pub right : wrong_place (drop at word) ≡ None
  pub front : take len out ++ unescaped_after digits (drop at word) ≡ unescaped word
  pub room : length (unescaped word) ≤ length out
  pub fits : len ≤ length out

right-parts : (b : ℕ) (rest : List ℕ) → wrong_place (b ∷ rest) ≡ None → (begins_byte (b ∷ rest) ≡ true) × (wrong_place rest ≡ None)
right-parts b rest h = go (begins_byte (b ∷ rest)) (wrong_place rest) refl refl h
  where
    go : (t : Bool) (o : Option ℕ) → begins_byte (b ∷ rest) ≡ t → wrong_place rest ≡ o
        → (if t then option_map (λ place. place + 1) o else Some 0) ≡ None → (begins_byte (b ∷ rest) ≡ true) × (wrong_place rest ≡ None)
    go true None e f h = (e, f)
    go true (Some p) e f h = cc
    go false o e f h = cc

pub right-on : (word : List ℕ) (at : ℕ) → at < length word → wrong_place (drop at word) ≡ None
    → (begins_byte (drop at word) ≡ true) × (wrong_place (drop (at + 1) word) ≡ None)
right-on word at l h = rw (cut word at l) (right-parts (get_or word at 0) (drop (at + 1) word) (rw (cut word at l) at h))

-- an escape begins exactly where the byte is the one that begins escapes
letter : (b : ℕ) (rest : List ℕ) → begins_byte (b ∷ rest) ≡ true → begins_escape (b ∷ rest) ≡ (b == 37)
letter b rest h = grind (arith, nat_tests)

pub escape_here : (word : List ℕ) (at : ℕ) → at < length word → wrong_place (drop at word) ≡ None
    → begins_escape (drop at word) ≡ (get_or word at 0 == 37)
escape_here word at l h =
    let right = (right-on word at l h).0 in
    rw (cut word at l) (letter (get_or word at 0) (drop (at + 1) word) (rw (cut word at l) at right))

pub fills_none : (word out : List ℕ) → wrong_place word ≡ None → length (unescaped word) ≤ length out → Fills word out 0 0 0
fills_none word out h room = record { right = h; front = refl; room = room; fits = omega arith }

pub fill_inside : (word out : List ℕ) (at digits len : ℕ) → at < length word → 0 < digits → Fills word out at digits len
    → Fills word out (at + 1) (digits - 1) len
fill_inside word out at digits len l d h =
    record {
      right = (right-on word at l h.right).1;
      front = ap (λ xs. take len out ++ xs) (sym (inside word at digits l d))
          ∙ h.front;
      room = h.room;
      fits = h.fits;
    }

some_byte : (b : ℕ) (rest : List ℕ) → 0 < length (unescaped_after 0 (b ∷ rest))
some_byte b rest =
    elim (b == 37) as (λ t. 0 < length (if t then (escape_value (b ∷ rest) ∷ unescaped_after 2 rest) else (b ∷ unescaped_after 0 rest)))
    [ true ↦ omega arith | false ↦ omega arith ]

pub room_left : (word out : List ℕ) (at len : ℕ) → at < length word → Fills word out at 0 len → len < length out
room_left word out at len l h =
    let some : 0 < length (unescaped_after 0 (drop at word)) = rw (cut word at l) (some_byte (get_or word at 0) (drop (at + 1) word)) in
    let all : length (take len out ++ unescaped_after 0 (drop at word)) ≡ length (unescaped word) = ap length h.front in
    let parts = length-append (take len out) (unescaped_after 0 (drop at word)) in
    let room : length (unescaped word) ≤ length out = h.room in
    let fits : len ≤ length out = h.fits in
    let front = length-take-le len out fits in
    omega arith

fill_more : (word out : List ℕ) (at digits len b : ℕ) → at < length word → len < length out
    → unescaped_after 0 (drop at word) ≡ b ∷ unescaped_after digits (drop (at + 1) word) → Fills word out at 0 len
    → Fills word (set out len b) (at + 1) digits (len + 1)
fill_more word out at digits len b l room e h =
    let width : length (set out len b) ≡ length out = length-set out len b in
    record {
      right = (right-on word at l h.right).1;
      front = ap (λ xs. xs ++ unescaped_after digits (drop (at + 1) word)) (take_more_set out len b room)
          ∙ append_assoc (take len out) (b ∷ []) _ ∙ ap (λ xs. take len out ++ xs) (sym e) ∙ h.front;
      room = rw width h.room;
      fits = omega arith;
    }

pub fill_byte : (word out : List ℕ) (at len : ℕ) → at < length word → len < length out → begins_escape (drop at word) ≡ false
    → Fills word out at 0 len → Fills word (set out len (get_or word at 0)) (at + 1) 0 (len + 1)
fill_byte word out at len l room e h = fill_more word out at 0 len _ l room (at_byte word at l (sym (escape_here word at l h.right) ∙ e)) h

pub fill_escape : (word out : List ℕ) (at len : ℕ) → at < length word → len < length out → begins_escape (drop at word) ≡ true
    → Fills word out at 0 len → Fills word (set out len (escape_value (drop at word))) (at + 1) 2 (len + 1)
fill_escape word out at len l room e h =
    fill_more word out at 2 len _ l room (at_escape word at l (sym (escape_here word at l h.right) ∙ e)) h

pub fill_all : (word out : List ℕ) (at digits len : ℕ) → length word ≤ at → Fills word out at digits len
    → take (length (unescaped word)) out ≡ unescaped word
fill_all word out at digits len l h =
    let none : drop at word ≡ [] = drop_all at word l in
    let fits : len ≤ length out = h.fits in
    let front : take len out ≡ unescaped word =
    sym (append-nil (take len out)) ∙ ap (λ xs. take len out ++ xs) (sym (rw none refl)) ∙ h.front in
    let count : length (unescaped word) ≡ len = ap length (sym front) ∙ length-take-le len out fits in
    rw count front

-- ---- the laws

-- digits are read back
digit-back : (n : ℕ) → n < 16 → (is_digit (digit n) ≡ true) × (digit_value (digit n) ≡ n)
digit-back n h = (grind (arith, nat_tests), grind (arith, nat_tests))

record EscapeOf (b : ℕ) (rest : List ℕ) : Type 0 where
  begins : begins_escape (37 ∷ digit (b / 16) ∷ digit (b % 16) ∷ rest) ≡ true
  value : escape_value (37 ∷ digit (b / 16) ∷ digit (b % 16) ∷ rest) ≡ b

escape_of : (b : ℕ) (rest : List ℕ) → b < 256 → in_alphabet b ≡ false → EscapeOf b rest
escape_of b rest l h =
    let high = digit-back (b / 16) (omega arith) in
    let low = digit-back (b % 16) (omega arith) in
    let whole : 16 * (b / 16) + b % 16 ≡ b = omega arith in
    let value : escape_value (37 ∷ digit (b / 16) ∷ digit (b % 16) ∷ rest) ≡ b = rw (high.1, low.1) whole in
    record { begins = rw (high.0, low.0, value, h) refl; value = value }

-- a digit is a byte of the alphabet
digit-plain : (d : ℕ) (rest : List ℕ) → is_digit d ≡ true → begins_byte (d ∷ rest) ≡ true
digit-plain d rest h = grind (arith, nat_tests)

plain-begins : (b : ℕ) (rest : List ℕ) → in_alphabet b ≡ true → begins_byte (b ∷ rest) ≡ true
plain-begins b rest h = rw h refl

plain-no_escape : (b : ℕ) → in_alphabet b ≡ true → b == 37 ≡ false
plain-no_escape b h = grind (arith, nat_tests)

-- the word of one byte in front of a word
record Front (b : ℕ) (rest : List ℕ) : Type 0 where
  right : wrong_place (escaped_byte b ++ rest) ≡ further (length (escaped_byte b)) (wrong_place rest)
  bytes : unescaped (escaped_byte b ++ rest) ≡ b ∷ unescaped rest

front-plain : (b : ℕ) (rest : List ℕ) → in_alphabet b ≡ true → Front b rest
front-plain b rest h =
    record { right = rw (h, plain-begins b rest h) (plus-one (wrong_place rest)); bytes = rw (h, plain-no_escape b h) refl }
  where
    plus-one : (o : Option ℕ) → option_map (λ place. place + 1) o ≡ further 1 o
    plus-one None = refl
    plus-one (Some p) = ap Some (omega arith)

front-escape : (b : ℕ) (rest : List ℕ) → b < 256 → in_alphabet b ≡ false → Front b rest
front-escape b rest l h =
    let e : EscapeOf b rest = escape_of b rest l h in
    let high = digit-back (b / 16) (omega arith) in
    let low = digit-back (b % 16) (omega arith) in
    let first : begins_byte (37 ∷ digit (b / 16) ∷ digit (b % 16) ∷ rest) ≡ true = rw e.begins refl in
    record {
      right = rw (h, first, digit-plain (digit (b / 16)) (digit (b % 16) ∷ rest) high.0, digit-plain (digit (b % 16)) rest low.0)
          (plus-three (wrong_place rest));
      bytes = rw h (ap (λ v. v ∷ unescaped rest) e.value);
    }
  where
    plus-three : (o : Option ℕ)
        → option_map (λ place. place + 1) (option_map (λ place. place + 1) (option_map (λ place. place + 1) o)) ≡ further 3 o
    plus-three None = refl
    plus-three (Some p) = ap Some (omega arith)

front : (b : ℕ) (rest : List ℕ) → b < 256 → Front b rest
front b rest l = go (in_alphabet b) refl
  where
    go : (t : Bool) → in_alphabet b ≡ t → Front b rest
    go true h = front-plain b rest h
    go false h = front-escape b rest l h

pub escaped-back : (bytes : List ℕ) → are_bytes bytes ≡ true → IsReadBack bytes
escaped-back [] h = record { right = refl; same = refl }
escaped-back (b ∷ bytes) h =
    let parts = and_parts (nat_lt b 256) (are_bytes bytes) h in
    let back : IsReadBack bytes = escaped-back bytes parts.1 in
    let f : Front b (escaped bytes) = front b (escaped bytes) (grind (arith, nat_tests)) in
    record { right = f.right ∙ rw back.right refl; same = f.bytes ∙ ap (λ xs. b ∷ xs) back.same }

pub escaped_is_read : EscapedIsRead
escaped_is_read = escaped-back

-- an escape is that of its value
spelled-digit : (d : ℕ) → is_digit d ≡ true → (digit (digit_value d) ≡ d) × (digit_value d < 16)
spelled-digit d h = (grind (arith, nat_tests), grind (arith, nat_tests))

record IsEscape (b d e : ℕ) (rest : List ℕ) : Type 0 where
  first : b ≡ 37
  high : is_digit d ≡ true
  low : is_digit e ≡ true
  other : in_alphabet (escape_value (b ∷ d ∷ e ∷ rest)) ≡ false

escape-parts : (b d e : ℕ) (rest : List ℕ) → begins_escape (b ∷ d ∷ e ∷ rest) ≡ true → IsEscape b d e rest
escape-parts b d e rest h =
    let one = and_parts (b == 37) (is_digit d && (is_digit e && not (in_alphabet (escape_value (b ∷ d ∷ e ∷ rest))))) h in
    let two = and_parts (is_digit d) (is_digit e && not (in_alphabet (escape_value (b ∷ d ∷ e ∷ rest)))) one.1 in
    let three = and_parts (is_digit e) (not (in_alphabet (escape_value (b ∷ d ∷ e ∷ rest)))) two.1 in
    record { first = eqb-true b 37 one.0; high = two.0; low = three.0; other = not-true _ three.1 }

escape-word : (b d e : ℕ) (rest : List ℕ) → IsEscape b d e rest → escaped_byte (escape_value (b ∷ d ∷ e ∷ rest)) ≡ b ∷ d ∷ e ∷ []
escape-word b d e rest h =
    let high = spelled-digit d h.high in
    let low = spelled-digit e h.low in
    let first : (16 * digit_value d + digit_value e) / 16 ≡ digit_value d = omega (arith, low.1) in
    let second : (16 * digit_value d + digit_value e) % 16 ≡ digit_value e = omega (arith, low.1) in
    rw (h.other, first, second, high.0, low.0, h.first) refl

no_escape-none : (b : ℕ) → begins_escape (b ∷ []) ≡ false
no_escape-none b = grind (arith, nat_tests)

no_escape-one : (b d : ℕ) → begins_escape (b ∷ d ∷ []) ≡ false
no_escape-one b d = grind (arith, nat_tests)

-- a byte outside the alphabet that begins a byte's word begins an escape
begins : (b : ℕ) (word : List ℕ) → in_alphabet b ≡ false → begins_byte (b ∷ word) ≡ true → begins_escape (b ∷ word) ≡ true
begins b word h r = grind (arith, nat_tests)

abbrev ReadUpTo : ℕ → Type 0
ReadUpTo n = (rest : List ℕ) → length rest ≤ n → wrong_place rest ≡ None → escaped (unescaped rest) ≡ rest

read-up : (n : ℕ) (word : List ℕ) → length word ≤ n → wrong_place word ≡ None → escaped (unescaped word) ≡ word
read-up n [] l h = refl
read-up zero (b ∷ word) l h = absurd (omega arith)
read-up (suc n) (b ∷ word) l h = go (λ rest. read-up n rest) (in_alphabet b) refl (right-parts b word h)
  where
    esc : ReadUpTo n → (word : List ℕ) → length word ≤ n → wrong_place word ≡ None → begins_escape (b ∷ word) ≡ true
        → escaped (unescaped (b ∷ word)) ≡ b ∷ word
    esc later [] l h e = absurd (both_ways _ (no_escape-none b) e)
    esc later (d ∷ []) l h e = absurd (both_ways _ (no_escape-one b d) e)
    esc later (d ∷ f ∷ rest) l h e =
        let is : IsEscape b d f rest = escape-parts b d f rest e in
        let first : b == 37 ≡ true = eq-eqb b 37 is.first in
        let right : wrong_place rest ≡ None = (right-parts f rest (right-parts d (f ∷ rest) h).1).1 in
        rw (first, escape-word b d f rest is, later rest (omega arith) right) refl

    go : ReadUpTo n → (t : Bool) → in_alphabet b ≡ t → (begins_byte (b ∷ word) ≡ true) × (wrong_place word ≡ None)
        → escaped (unescaped (b ∷ word)) ≡ b ∷ word
    go later true is p = rw (plain-no_escape b is, is, later word (omega arith) p.1) refl
    go later false is p = esc later word (omega arith) p.1 (begins b word is p.0)

pub read_is_escaped : ReadIsEscaped
read_is_escaped word h = read-up (length word) word (omega arith) h
