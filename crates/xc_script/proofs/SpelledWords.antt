-- The words of a script are read as its lines.
use Rattle.std.proofs.Common.{◌≡◌, ◌≢◌, ℕ, ◌^◌, ◌<◌, ◌≤◌, ◌/◌, ◌%◌, ◌==◌, Bool, true, false, ◌&&◌, not, nat_le, nat_lt, List, [], ◌∷◌, ◌++◌}
use Rattle.std.proofs.Common.{length, map, get_or, Some, None, refl, ap, ◌∙◌, append_assoc, decimal, arith}
use Rattle.std.specs.Prelude.{All, flat_map, if◌then◌else◌, is_none}
use Rattle.std.specs.List.{list_all, join_with_byte}
use Rattle.std.specs.Char.{is_ascii_digit}
use Rattle.std.specs.Str.{all_ascii_digits}
use Rattle.std.proofs.lemmas.Bool.{false≢true, and_parts, and_from}
use Rattle.std.proofs.lemmas.Bool.Decides.{nat_tests}
use Rattle.std.proofs.lemmas.List.Folds.{list_all-append}
use Rattle.std.proofs.lemmas.List.Sums.{AllPass-from_list_all}
use Rattle.xc_base.specs.Names.{within, are_bytes, in_alphabet, is_key, is_plain}
use Rattle.xc_base.specs.Escapes.{digit, escaped, escaped_byte}
use Rattle.xc_base.specs.Words.{split_on, number_of, is_number, no_leading_zero}
use Rattle.xc_base.proofs.EscapeLaws.{escaped-back}
use Rattle.xc_base.proofs.NameLemmas.{key-has_no_fault}
use Rattle.xc_base.proofs.WordLaws.{number_of-decimal, split_on-join}
use Rattle.xc_record.specs.declared.session.Command.{Command}
use Rattle.xc_record.specs.declared.session.Command.TheVariants as command
use Rattle.xc_script.specs.declared.reading.Version.{Version}
use Rattle.xc_script.specs.declared.reading.Version.TheVariants.{One, Two}
use Rattle.xc_script.specs.Words.{Ask, is_word, key_fits, key_of, meant, command_numbers_fit, command_key_fits, command_of, line_of}
use Rattle.xc_script.specs.ScriptText.{is_unknown, is_too_many}
use Rattle.xc_script.specs.Allowed.{IsAllowed}
use Rattle.xc_script.specs.Spelled.{key_word, is_nameable, command_words, command_is_nameable, words_line}

-- ---- words in a line and lines in a text

-- each byte is above a space
abbrev pub above : List ℕ → Bool
above word = list_all (λ b. nat_lt 32 b) word

-- no byte is the separator
abbrev lacks : ℕ → List ℕ → Bool
lacks c bytes = list_all (λ b. not (b == c)) bytes

differs : (b c : ℕ) → c ≤ 32 → nat_lt 32 b ≡ true → not (b == c) ≡ true
differs b c l h = grind (arith, nat_tests)

above_lacks : (c : ℕ) (word : List ℕ) → c ≤ 32 → above word ≡ true → lacks c word ≡ true
above_lacks c [] l h = refl
above_lacks c (b ∷ word) l h = let p = and_parts (nat_lt 32 b) (above word) h in and_from _ _ (differs b c l p.0) (above_lacks c word l p.1)

unlike : (b c : ℕ) → not (b == c) ≡ true → b ≢ c
unlike b c h e = grind (arith, nat_tests)

lacks_all : (c : ℕ) (bytes : List ℕ) → lacks c bytes ≡ true → All (λ byte. byte ≢ c) bytes
lacks_all c bytes h = λ k d l. unlike (get_or bytes k d) c (AllPass-from_list_all (λ b. not (b == c)) bytes h k d l)

words_lack : (words : List (List ℕ)) → list_all above words ≡ true → All (λ word. All (λ byte. byte ≢ 32) word) words
words_lack words h = λ k d l. lacks_all 32 (get_or words k d) (above_lacks 32 (get_or words k d) (omega arith)
    (AllPass-from_list_all above words h k d l))

pub words_back : (word : List ℕ) (words : List (List ℕ)) → list_all above (word ∷ words) ≡ true
    → split_on 32 (join_with_byte 32 (word ∷ words)) ≡ word ∷ words
words_back word words h = split_on-join 32 word words (words_lack (word ∷ words) h)

joined_lacks : (words : List (List ℕ)) → list_all above words ≡ true → lacks 10 (join_with_byte 32 words) ≡ true
joined_lacks [] h = refl
joined_lacks (word ∷ []) h = above_lacks 10 word (omega arith) (and_parts (above word) true h).0
joined_lacks (word ∷ (next ∷ words)) h =
    let p = and_parts (above word) (list_all above (next ∷ words)) h in
    list_all-append (λ b. not (b == 10)) word (32 ∷ join_with_byte 32 (next ∷ words))
    ∙ and_from _ _ (above_lacks 10 word (omega arith) p.0) (joined_lacks (next ∷ words) p.1)

abbrev pub bodies : List (List (List ℕ)) → List (List ℕ)
bodies lines = map (join_with_byte 32) lines

text_joined : (lines : List (List (List ℕ))) → flat_map words_line lines ≡ join_with_byte 10 (bodies lines ++ [] ∷ [])
text_joined [] = refl
text_joined (line ∷ []) = append_assoc (join_with_byte 32 line) (10 ∷ []) []
text_joined (line ∷ (next ∷ lines)) =
    append_assoc (join_with_byte 32 line) (10 ∷ []) (flat_map words_line (next ∷ lines))
    ∙ ap (λ rest. join_with_byte 32 line ++ 10 ∷ rest) (text_joined (next ∷ lines))

lines_lack : (lines : List (List (List ℕ))) → list_all (list_all above) lines ≡ true → list_all (lacks 10) (bodies lines ++ [] ∷ []) ≡ true
lines_lack [] h = refl
lines_lack (line ∷ lines) h = let p = and_parts (list_all above line) (list_all (list_all above) lines) h in and_from _ _
    (joined_lacks line p.0) (lines_lack lines p.1)

pieces_lack : (pieces : List (List ℕ)) → list_all (lacks 10) pieces ≡ true → All (λ piece. All (λ byte. byte ≢ 10) piece) pieces
pieces_lack pieces h = λ k d l. lacks_all 10 (get_or pieces k d) (AllPass-from_list_all (lacks 10) pieces h k d l)

pub lines_back : (line : List (List ℕ)) (lines : List (List (List ℕ))) → list_all (list_all above) (line ∷ lines) ≡ true
    → split_on 10 (flat_map words_line (line ∷ lines)) ≡ bodies (line ∷ lines) ++ [] ∷ []
lines_back line lines h =
    ap (split_on 10) (text_joined (line ∷ lines))
    ∙ split_on-join 10 (join_with_byte 32 line) (bodies lines ++ [] ∷ []) (pieces_lack (bodies (line ∷ lines) ++ [] ∷ []) (lines_lack
    (line ∷ lines) h))

-- ---- numbers

spelled_number : (word : List ℕ) (n : ℕ) → number_of word ≡ Some n → is_number word ≡ true
spelled_number word n h = by (is_number word) refl
  where
    by : (b : Bool) → is_number word ≡ b → is_number word ≡ true
    by true e = e
    by false e = let none : number_of word ≡ None = rw e refl in cc

digit_above : (b : ℕ) → is_ascii_digit b ≡ true → nat_lt 32 b ≡ true
digit_above b h = grind (arith, nat_tests)

digits_above : (word : List ℕ) → all_ascii_digits word ≡ true → above word ≡ true
digits_above [] h = refl
digits_above (b ∷ word) h = let p = and_parts (is_ascii_digit b) (all_ascii_digits word) h in and_from _ _ (digit_above b p.0)
    (digits_above word p.1)

some_word : (word : List ℕ) → nat_lt 0 (length word) ≡ true → is_word word ≡ true
some_word [] h = absurd (false≢true h)
some_word (b ∷ word) h = refl

pub record IsDecimal (n : ℕ) : Type 0 where
  pub number : number_of (decimal n) ≡ Some n
  pub word : is_word (decimal n) ≡ true
  pub above : above (decimal n) ≡ true

pub decimal_is : (n : ℕ) → n < 2 ^ 64 → IsDecimal n
decimal_is n h =
    let number = number_of-decimal n h in
    let is = and_parts (nat_lt 0 (length (decimal n))) (all_ascii_digits (decimal n) && no_leading_zero (decimal n)) (spelled_number
    (decimal n) n number) in
    record {
      number = number;
      word = some_word (decimal n) is.0;
      above = digits_above (decimal n) (and_parts (all_ascii_digits (decimal n)) (no_leading_zero (decimal n)) is.1).0;
    }

-- ---- keys

letter_above : (b : ℕ) → in_alphabet b ≡ true → nat_lt 32 b ≡ true
letter_above b h = grind (arith, nat_tests)

plain_above : (key : List ℕ) → is_plain key ≡ true → above key ≡ true
plain_above [] h = refl
plain_above (b ∷ key) h = let p = and_parts (in_alphabet b) (is_plain key) h in and_from _ _ (letter_above b p.0) (plain_above key p.1)

escape_above : (n : ℕ) → nat_lt 32 (digit n) ≡ true
escape_above n = grind (arith, nat_tests)

byte_above : (b : ℕ) → above (escaped_byte b) ≡ true
byte_above b = by (in_alphabet b) refl
  where
    by : (t : Bool) → in_alphabet b ≡ t → above (if t then b ∷ [] else (37 ∷ digit (b / 16) ∷ digit (b % 16) ∷ [])) ≡ true
    by true e = and_from _ _ (letter_above b e) refl
    by false e = rw (escape_above (b / 16), escape_above (b % 16)) refl

escaped_above : (key : List ℕ) → above (escaped key) ≡ true
escaped_above [] = refl
escaped_above (b ∷ key) = list_all-append (λ b. nat_lt 32 b) (escaped_byte b) (escaped key)
    ∙ and_from _ _ (byte_above b) (escaped_above key)

escaped_word : (key : List ℕ) → is_word key ≡ true → is_word (escaped key) ≡ true
escaped_word [] h = absurd (false≢true h)
escaped_word (b ∷ key) h = by (in_alphabet b)
  where
    by : (t : Bool) → is_word ((if t then b ∷ [] else (37 ∷ digit (b / 16) ∷ digit (b % 16) ∷ [])) ++ escaped key) ≡ true
    by true = refl
    by false = refl

key_word_is : (key : List ℕ) → is_key key ≡ true → is_word key ≡ true
key_word_is [] h = absurd (false≢true h)
key_word_is (b ∷ key) h = refl

-- the word of a key that a script of the version can name
pub record IsNamed (v : Version) (key : List ℕ) : Type 0 where
  pub word : is_word (key_word v key) ≡ true
  pub above : above (key_word v key) ≡ true
  pub fits : key_fits v (key_word v key) ≡ true
  pub same : key_of v (key_word v key) ≡ key

pub key_is : (v : Version) (key : List ℕ) → is_key key ≡ true → is_nameable v key ≡ true → IsNamed v key
key_is One key h plain = record {
  word = key_word_is key h;
  above = plain_above key plain;
  fits = ap is_none (key-has_no_fault key h plain);
  same = refl;
}
key_is Two key h plain =
    let parts = and_parts (within 1 32 (length key)) (are_bytes key) h in
    let back = escaped-back key parts.1 in
    record {
      word = escaped_word key (key_word_is key h);
      above = escaped_above key;
      fits = rw (back.right, back.same, parts.0) refl;
      same = back.same;
    }

-- ---- commands

-- a command with its key's word in the key's place
abbrev pub written : Version → Command → Command
written v (command.Read key) = command.Read (key_word v key)
written v (command.ReadAt u key) = command.ReadAt u (key_word v key)
written v c = c

pub record IsSaid (v : Version) (sources targets : ℕ) (c : Command) : Type 0 where
  pub above : list_all above (command_words v c) ≡ true
  pub line : line_of (command_words v c) ≡ Some (Ask (written v c))
  pub numbers : command_numbers_fit (written v c) ≡ true
  pub known : is_unknown sources targets (Ask (written v c)) ≡ false

pub is_lt : (a b : ℕ) → a < b → nat_lt a b ≡ true
is_lt a b h = grind (arith, nat_tests)

is_le : (a b : ℕ) → a ≤ b → nat_le a b ≡ true
is_le a b h = grind (arith, nat_tests)

not_le : (a b : ℕ) → a < b → nat_le b a ≡ false
not_le a b h = grind (arith, nat_tests)

pub small : (n bound : ℕ) → n < bound → bound ≤ 2 ^ 62 → n < 2 ^ 64
small n bound h k = omega arith

pub command_said : (v : Version) (sources targets : ℕ) (c : Command) → targets ≤ 16 → IsAllowed sources targets c
    → command_is_nameable v c ≡ true → IsSaid v sources targets c
unfolding line_of command_of
command_said v sources targets (command.Poll id n) few is name =
    let a = decimal_is id (small id 64 is.source.small (omega arith)) in
    let b = decimal_is n (let most = is.most in omega (arith, most)) in
    record {
      above = rw (a.above, b.above) refl;
      line = rw (a.word, b.word, a.number, b.number) refl;
      numbers = rw (is_lt id 64 is.source.small, is_le 1 n is.least, is_le n (2 ^ 20) is.most) refl;
      known = not_le id sources is.source.known;
    }
command_said v sources targets (command.Stop id n last) few is name =
    let a = decimal_is id (small id 64 is.poll.source.small (omega arith)) in
    let b = decimal_is n (let most = is.poll.most in omega (arith, most)) in
    let known = is.known in
    let c = decimal_is last (omega (arith, known)) in
    let low : last < 16 = omega (arith, known) in
    record {
      above = rw (a.above, b.above, c.above) refl;
      line = rw (a.word, b.word, c.word, a.number, b.number, c.number) refl;
      numbers = rw (is_lt id 64 is.poll.source.small, is_le 1 n is.poll.least, is_le n (2 ^ 20) is.poll.most, is_lt last 16 low) refl;
      known = rw (not_le id sources is.poll.source.known, not_le last targets is.known) refl;
    }
command_said v sources targets (command.Ack id) few is name =
    let a = decimal_is id (small id 64 is.small (omega arith)) in
    let known = not_le id sources is.known in
    record { above = rw a.above refl; line = rw (a.word, a.number) refl; numbers = is_lt id 64 is.small; known = known }
command_said v sources targets (command.Restart id) few is name =
    let a = decimal_is id (small id 64 is.small (omega arith)) in
    let known = not_le id sources is.known in
    record { above = rw a.above refl; line = rw (a.word, a.number) refl; numbers = is_lt id 64 is.small; known = known }
command_said v sources targets (command.Read key) few is name =
    let k = key_is v key is name in
    record {
      above = rw k.above refl;
      line = rw k.word refl;
      numbers = refl;
      known = refl;
    }
command_said v sources targets (command.ReadAt u key) few is name =
    let a = decimal_is u (small u (2 ^ 62) is.time (omega arith)) in
    let k = key_is v key is.named name in
    record {
      above = rw (a.above, k.above) refl;
      line = rw (a.word, k.word, a.number) refl;
      numbers = is_lt u (2 ^ 62) is.time;
      known = refl;
    }
command_said v sources targets (command.Prune u) few is name =
    let a = decimal_is u (small u (2 ^ 62) is (omega arith)) in
    record {
      above = rw a.above refl;
      line = rw (a.word, a.number) refl;
      numbers = is_lt u (2 ^ 62) is;
      known = refl;
    }
command_said v sources targets c few is name = record {
  above = refl;
  line = refl;
  numbers = refl;
  known = refl;
}

-- its key's word is that of its key
pub record IsKeyed (v : Version) (c : Command) : Type 0 where
  pub fits : command_key_fits v (written v c) ≡ true
  pub same : meant v (written v c) ≡ c

pub command_keyed : (v : Version) (sources targets : ℕ) (c : Command) → IsAllowed sources targets c → command_is_nameable v c ≡ true
    → IsKeyed v c
command_keyed v sources targets (command.Read key) is name =
    let k = key_is v key is name in record { fits = k.fits; same = ap command.Read k.same }
command_keyed v sources targets (command.ReadAt u key) is name =
    let k = key_is v key is.named name in record { fits = k.fits; same = ap (command.ReadAt u) k.same }
command_keyed v sources targets c is name = record { fits = refl; same = refl }

-- how many commands may stand doesn't go by the key's word
pub room_written : (v : Version) (before : List Command) (c : Command)
    → is_too_many before (Ask (written v c)) ≡ is_too_many before (Ask c)
room_written v before (command.Read key) = refl
room_written v before (command.ReadAt u key) = refl
room_written v before c = refl
