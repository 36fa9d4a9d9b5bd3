-- What is printed is cut into the same words.
use Rattle.std.proofs.Common.{◌≡◌, ℕ, ◌+◌, ◌^◌, ◌<◌, ◌≤◌, ◌==◌, ◌/◌, ◌%◌, Bool, true, false, ◌&&◌, ◌||◌, not, if◌then◌else◌, option_map}
use Rattle.std.proofs.Common.{nat_le, nat_lt, nat_eq, List, [], ◌∷◌, ◌++◌, length, take, drop, map, Option, Some, None, refl, sym, ap}
use Rattle.std.proofs.Common.{subst, ◌∙◌, append_assoc, decimal, arith}
use Rattle.std.proofs.lemmas.Bool.{and_parts, eq-eqb, ltb-true}
use Rattle.std.proofs.lemmas.Bool.Decides.{nat_tests}
use Rattle.std.proofs.lemmas.List.{take_at, drop_at, length_push, append-nil}
use Rattle.std.proofs.lemmas.List.Folds.{list_all-append}
use Rattle.std.specs.Char.{is_ascii_digit}
use Rattle.std.specs.Str.{all_ascii_digits, bytes_eq}
use Rattle.std.specs.List.{list_all, list_any, before_first, after_first, position_or_len}
use Rattle.std.specs.Option.{option_map_or}
use Rattle.std.proofs.Math.Nat.{min-eq_left}
use Rattle.xc_base.specs.Names.{within, are_bytes, is_plain, is_key, is_value, in_alphabet}
use Rattle.xc_base.specs.Escapes.{digit, escaped_byte, escaped, IsReadBack}
use Rattle.xc_base.proofs.EscapeLaws.{escaped-back}
use Rattle.xc_base.proofs.NameLemmas.{plain-bytes}
use Rattle.xc_base.specs.Words.{split_on, number_of, is_number, no_leading_zero}
use Rattle.xc_base.proofs.WordLaws.{number_of-decimal}
use Rattle.xc_record.specs.declared.record.Op.{Op}
use Rattle.xc_text.specs.Lines.{number, name_of, op_written, op_meant, op_of, all_ops, ops_of, op_is_named}
use Rattle.xc_text.specs.Printed.{spaced, line_text, name_word, spelled, op_by, op_word, op_spelled}
use Rattle.xc_text.specs.declared.line.Version.{Version}
use Rattle.xc_text.specs.declared.line.Version.TheVariants.{One, Two}

-- no byte is the separator
abbrev pub lacks : ℕ → List ℕ → Bool
lacks c bytes = list_all (λ b. not (b == c)) bytes

-- each byte is above a space
abbrev pub plain : List ℕ → Bool
plain bytes = list_all (λ b. nat_lt 32 b) bytes

differs : (b c : ℕ) → not (b == c) ≡ true → (b == c) ≡ false
differs b c h = grind (arith, nat_tests)

above : (b c : ℕ) → c ≤ 32 → nat_lt 32 b ≡ true → not (b == c) ≡ true
above b c l h = grind (arith, nat_tests)

pub plain_lacks : (c : ℕ) (w : List ℕ) → c ≤ 32 → plain w ≡ true → lacks c w ≡ true
plain_lacks c [] l h = refl
plain_lacks c (b ∷ w) l h = let p = and_parts (nat_lt 32 b) (plain w) h in rw (above b c l p.0) (plain_lacks c w l p.1)

pub split_at : (c : ℕ) (w rest : List ℕ) → lacks c w ≡ true → split_on c (w ++ c ∷ rest) ≡ w ∷ split_on c rest
split_at c [] rest h = rw (eq-eqb c c refl) refl
split_at c (b ∷ w) rest h = let p = and_parts (not (b == c)) (lacks c w) h in rw (differs b c p.0, split_at c w rest p.1) refl

pub split_none : (c : ℕ) (w : List ℕ) → lacks c w ≡ true → split_on c w ≡ w ∷ []
split_none c [] h = refl
split_none c (b ∷ w) h = let p = and_parts (not (b == c)) (lacks c w) h in rw (differs b c p.0, split_none c w p.1) refl

pub split_words : (first : List ℕ) (words : List (List ℕ)) → plain first ≡ true → list_all plain words ≡ true
    → split_on 32 (first ++ spaced words) ≡ first ∷ words
split_words first [] h k = rw (append-nil first) (split_none 32 first (plain_lacks 32 first (omega arith) h))
split_words first (w ∷ ws) h k =
    let p = and_parts (plain w) (list_all plain ws) k in
    split_at 32 first (w ++ spaced ws) (plain_lacks 32 first (omega arith) h) ∙ ap (λ rest. first ∷ rest) (split_words w ws p.0 p.1)

spaced_lacks : (words : List (List ℕ)) → list_all plain words ≡ true → lacks 10 (spaced words) ≡ true
spaced_lacks [] h = refl
spaced_lacks (w ∷ ws) h =
    let p = and_parts (plain w) (list_all plain ws) h in
    list_all-append (λ b. not (b == 10)) w (spaced ws) ∙ rw (plain_lacks 10 w (omega arith) p.0) (spaced_lacks ws p.1)

pub line_body : (first : List ℕ) (words : List (List ℕ)) (rest : List ℕ)
    → line_text first words ++ rest ≡ (first ++ spaced words) ++ 10 ∷ rest
line_body first words rest =
    ap (λ l. l ++ rest) (sym (append_assoc first (spaced words) (10 ∷ []))) ∙ append_assoc (first ++ spaced words) (10 ∷ []) rest

pub split_line : (first : List ℕ) (words : List (List ℕ)) (rest : List ℕ) → plain first ≡ true → list_all plain words ≡ true
    → split_on 10 (line_text first words ++ rest) ≡ (first ++ spaced words) ∷ split_on 10 rest
split_line first words rest h k =
    let body : lacks 10 (first ++ spaced words) ≡ true =
    list_all-append (λ b. not (b == 10)) first (spaced words) ∙ rw (plain_lacks 10 first (omega arith) h) (spaced_lacks words k) in
    ap (split_on 10) (line_body first words rest) ∙ split_at 10 (first ++ spaced words) rest body

-- ---- numbers

number_cases : (w : List ℕ) (n : ℕ) (b : Bool) → is_number w ≡ b → number_of w ≡ Some n → is_number w ≡ true
number_cases w n true is h = is
number_cases w n false is h = let none : number_of w ≡ None = rw is refl in cc

pub decimal_digits : (n : ℕ) → n < 2 ^ 64 → all_ascii_digits (decimal n) ≡ true
decimal_digits n h =
    let is = number_cases (decimal n) n (is_number (decimal n)) refl (number_of-decimal n h) in
    let p = and_parts (nat_lt 0 (length (decimal n))) (all_ascii_digits (decimal n) && no_leading_zero (decimal n)) is in
    (and_parts (all_ascii_digits (decimal n)) (no_leading_zero (decimal n)) p.1).0

digit_above : (b : ℕ) → is_ascii_digit b ≡ true → nat_lt 32 b ≡ true
digit_above b h = grind (arith, nat_tests)

digits_plain : (w : List ℕ) → all_ascii_digits w ≡ true → plain w ≡ true
digits_plain [] h = refl
digits_plain (b ∷ w) h = let p = and_parts (is_ascii_digit b) (all_ascii_digits w) h in rw (digit_above b p.0) (digits_plain w p.1)

pub decimal_plain : (n : ℕ) → n < 2 ^ 64 → plain (decimal n) ≡ true
decimal_plain n h = digits_plain (decimal n) (decimal_digits n h)

pub number_is : (n : ℕ) → n < 2 ^ 64 → number (decimal n) ≡ Some n
unfolding number
number_is n h = rw (number_of-decimal n h) (ap Some (min-eq_left (omega arith)))

digit_differs : (d c : ℕ) → is_ascii_digit d ≡ true → is_ascii_digit c ≡ false → nat_eq d c ≡ false
digit_differs d c h k = grind (arith, nat_tests)

-- digits are no word that begins otherwise
pub digits_differ : (w : List ℕ) (c : ℕ) (cs : List ℕ) → all_ascii_digits w ≡ true → is_ascii_digit c ≡ false → bytes_eq w (c ∷ cs) ≡ false
digits_differ [] c cs h k = refl
digits_differ (d ∷ ds) c cs h k = let p = and_parts (is_ascii_digit d) (all_ascii_digits ds) h in rw (digit_differs d c p.0 k) refl

-- ---- operations

-- a byte of the word of a key or of a value
abbrev pub is_letter : ℕ → Bool
is_letter b = in_alphabet b || b == 37

letter_above : (b : ℕ) → is_letter b ≡ true → nat_lt 32 b ≡ true
letter_above b h = grind (arith, nat_tests)

letter_differs : (b : ℕ) → is_letter b ≡ true → not (b == 61) ≡ true
letter_differs b h = grind (arith, nat_tests)

letters_plain : (w : List ℕ) → list_all is_letter w ≡ true → plain w ≡ true
letters_plain [] h = refl
letters_plain (b ∷ w) h = let p = and_parts (is_letter b) (list_all is_letter w) h in rw (letter_above b p.0) (letters_plain w p.1)

letters_lack : (w : List ℕ) → list_all is_letter w ≡ true → lacks 61 w ≡ true
letters_lack [] h = refl
letters_lack (b ∷ w) h = let p = and_parts (is_letter b) (list_all is_letter w) h in rw (letter_differs b p.0) (letters_lack w p.1)

pub plain_letters : (w : List ℕ) → is_plain w ≡ true → list_all is_letter w ≡ true
plain_letters [] h = refl
plain_letters (b ∷ w) h = let p = and_parts (in_alphabet b) (is_plain w) h in rw p.0 (plain_letters w p.1)

digit_letter : (n : ℕ) → n < 16 → is_letter (digit n) ≡ true
digit_letter n h = grind (arith, nat_tests)

byte_letters : (b : ℕ) → b < 256 → list_all is_letter (escaped_byte b) ≡ true
byte_letters b l = by (in_alphabet b) refl
  where
    by : (t : Bool) → in_alphabet b ≡ t → list_all is_letter (if t then b ∷ [] else (37 ∷ digit (b / 16) ∷ digit (b % 16) ∷ [])) ≡ true
    by true e = rw e refl
    by false e = rw (digit_letter (b / 16) (omega arith), digit_letter (b % 16) (omega arith)) refl

escaped_letters : (n : List ℕ) → are_bytes n ≡ true → list_all is_letter (escaped n) ≡ true
escaped_letters [] h = refl
escaped_letters (b ∷ n) h =
    let p = and_parts (nat_lt b 256) (are_bytes n) h in
    list_all-append is_letter (escaped_byte b) (escaped n) ∙ rw (byte_letters b (ltb-true b 256 p.0)) (escaped_letters n p.1)

-- the word of bytes that it can say
word_letters : (v : Version) (n : List ℕ) → are_bytes n ≡ true → spelled v n ≡ true → list_all is_letter (name_word v n) ≡ true
word_letters One n b s = plain_letters n s
word_letters Two n b s = escaped_letters n b

word_read : (v : Version) (n : List ℕ) → are_bytes n ≡ true → spelled v n ≡ true → name_of v (name_word v n) ≡ n
word_read One n b s = rw s refl
word_read Two n b s = let back : IsReadBack n = escaped-back n b in rw back.right back.same

key_bytes : (k : List ℕ) → is_key k ≡ true → are_bytes k ≡ true
key_bytes k h = (and_parts (within 1 32 (length k)) (are_bytes k) h).1

value_bytes : (v : List ℕ) → is_value v ≡ true → are_bytes v ≡ true
value_bytes v h = (and_parts (within 0 64 (length v)) (are_bytes v) h).1

pub op_plain_by : (key : List ℕ) (value : Option (List ℕ)) → list_all is_letter key ≡ true
    → option_map_or (λ w. list_all is_letter w) value true ≡ true → plain (op_by key value) ≡ true
op_plain_by key None k v = letters_plain key k
op_plain_by key (Some value) k v = list_all-append (λ b. nat_lt 32 b) key (61 ∷ value) ∙ rw (letters_plain key k) (letters_plain value v)

any_at : (w rest : List ℕ) → list_any (λ b. b == 61) (w ++ 61 ∷ rest) ≡ true
any_at [] rest = refl
any_at (b ∷ w) rest =
    let more = any_at w rest in elim (b == 61) as (λ t. (t || list_any (λ c. c == 61) (w ++ 61 ∷ rest)) ≡ true)
    [ true ↦ refl | false ↦ more ]

place_at : (w rest : List ℕ) → lacks 61 w ≡ true → position_or_len (λ b. b == 61) (w ++ 61 ∷ rest) ≡ length w
place_at [] rest h = refl
place_at (b ∷ w) rest h =
    let p = and_parts (not (b == 61)) (lacks 61 w) h in let d = differs b 61 p.0 in let more = place_at w rest p.1 in rw d
    (grind (arith, more))

before_at : (w rest : List ℕ) → lacks 61 w ≡ true → before_first (λ b. b == 61) (w ++ 61 ∷ rest) ≡ w
before_at w rest h = ap (λ n. take n (w ++ 61 ∷ rest)) (place_at w rest h) ∙ take_at w (61 ∷ rest) (length w) refl

after_at : (w rest : List ℕ) → lacks 61 w ≡ true → after_first (λ b. b == 61) (w ++ 61 ∷ rest) ≡ rest
after_at w rest h =
    ap (λ n. drop (n + 1) (w ++ 61 ∷ rest)) (place_at w rest h) ∙ ap (drop (length w + 1)) (sym (append_assoc w (61 ∷ []) rest))
    ∙ drop_at (w ++ 61 ∷ []) rest (length w + 1) (length_push w 61)

pub op_is_by : (key : List ℕ) (value : Option (List ℕ)) → list_all is_letter key ≡ true
    → op_written (op_by key value) ≡ Some (record { key = key; value = value })
op_is_by key None k = refl
op_is_by key (Some value) k = let l = letters_lack key k in rw (any_at key value, before_at key value l, after_at key value l) refl

-- what a named operation that can be said has for words
record IsSaid (v : Version) (op : Op) : Type 0 where
  key : list_all is_letter (name_word v op.key) ≡ true
  value : option_map_or (λ w. list_all is_letter w) (option_map (name_word v) op.value) true ≡ true
  back : op_meant v (record { key = name_word v op.key; value = option_map (name_word v) op.value }) ≡ op

value_said : (v : Version) (value : Option (List ℕ)) → option_map_or is_value value true ≡ true
    → option_map_or (spelled v) value true ≡ true
    → (option_map_or (λ w. list_all is_letter w) (option_map (name_word v) value) true ≡ true) ×
    (option_map (name_of v) (option_map (name_word v) value) ≡ value)
value_said v None h s = (refl, refl)
value_said v (Some n) h s = (word_letters v n (value_bytes n h) s, ap Some (word_read v n (value_bytes n h) s))

abbrev pub op_with : List ℕ → Option (List ℕ) → Op
op_with key value = record { key = key; value = value }

op_same : (key other : List ℕ) (value more : Option (List ℕ)) → key ≡ other → value ≡ more → op_with key value ≡ op_with other more
op_same key other value more a b = cc

said : (v : Version) (op : Op) → op_is_named op ≡ true → op_spelled v op ≡ true → IsSaid v op
said v op h s =
    let p = and_parts (is_key op.key) (option_map_or is_value op.value true) h in
    let q = and_parts (spelled v op.key) (option_map_or (spelled v) op.value true) s in
    let value = value_said v op.value p.1 q.1 in
    record {
      key = word_letters v op.key (key_bytes op.key p.0) q.0;
      value = value.0;
      back = op_same _ op.key _ op.value (word_read v op.key (key_bytes op.key p.0) q.0) value.1;
    }

-- plain names are their own words
plain-escaped : (n : List ℕ) → is_plain n ≡ true → escaped n ≡ n
plain-escaped [] h = refl
plain-escaped (b ∷ n) h = let p = and_parts (in_alphabet b) (is_plain n) h in rw (p.0, plain-escaped n p.1) refl

name_own : (v : Version) (n : List ℕ) → is_plain n ≡ true → name_of v n ≡ n
name_own One n h = rw h refl
name_own Two n h = subst (λ w. name_of Two w ≡ n) (plain-escaped n h) (word_read Two n (plain-bytes n h) refl)

value_own : (v : Version) (value : Option (List ℕ)) → option_map_or (spelled One) value true ≡ true → option_map (name_of v) value ≡ value
value_own v None h = refl
value_own v (Some n) h = ap Some (name_own v n h)

pub plain_meant : (v : Version) (o : Op) → op_spelled One o ≡ true → op_meant v o ≡ o
plain_meant v o h =
    let p = and_parts (spelled One o.key) (option_map_or (spelled One) o.value true) h in
    op_same (name_of v o.key) o.key (option_map (name_of v) o.value) o.value (name_own v o.key p.0) (value_own v o.value p.1)

pub op_plain : (v : Version) (op : Op) → op_is_named op ≡ true → op_spelled v op ≡ true → plain (op_word v op) ≡ true
op_plain v op h s =
    let is : IsSaid v op = said v op h s in op_plain_by (name_word v op.key) (option_map (name_word v) op.value) is.key is.value

pub op_is : (v : Version) (op : Op) → op_is_named op ≡ true → op_spelled v op ≡ true → op_of v (op_word v op) ≡ Some op
op_is v op h s =
    let is : IsSaid v op = said v op h s in
    ap (option_map (op_meant v)) (op_is_by (name_word v op.key) (option_map (name_word v) op.value) is.key) ∙ ap Some is.back

pub ops_plain : (v : Version) (ops : List Op) → list_all op_is_named ops ≡ true → list_all (op_spelled v) ops ≡ true
    → list_all plain (map (op_word v) ops) ≡ true
ops_plain v [] h s = refl
ops_plain v (op ∷ ops) h s =
    let p = and_parts (op_is_named op) (list_all op_is_named ops) h in
    let q = and_parts (op_spelled v op) (list_all (op_spelled v) ops) s in
    rw (op_plain v op p.0 q.0) (ops_plain v ops p.1 q.1)

all_ops_are : (v : Version) (ops : List Op) → list_all op_is_named ops ≡ true → list_all (op_spelled v) ops ≡ true
    → all_ops v (map (op_word v) ops) ≡ Some ops
all_ops_are v [] h s = refl
all_ops_are v (op ∷ ops) h s =
    let p = and_parts (op_is_named op) (list_all op_is_named ops) h in
    let q = and_parts (op_spelled v op) (list_all (op_spelled v) ops) s in
    rw (op_is v op p.0 q.0, all_ops_are v ops p.1 q.1) refl

pub ops_are : (v : Version) (ops : List Op) → list_all op_is_named ops ≡ true → list_all (op_spelled v) ops ≡ true
    → nat_le 1 (length ops) ≡ true → ops_of v (map (op_word v) ops) ≡ Some ops
ops_are v [] h s some = cc
ops_are v (op ∷ ops) h s some = all_ops_are v (op ∷ ops) h s
