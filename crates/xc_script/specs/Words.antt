-- The lines of a script, by their words. A word is a list of bytes.
--     ScriptLine      a line by itself, with its numbers and its keys as they stand there
--     line_of words      the line that the words spell; None where they have none of the forms
--     numbers_fit line      each number is within the range of its place
--     key_fits version word      the word is that of a key in a script of the version, and key_of version word the key
--     keys_fit version line      each key's word is
-- The rest is what single functions answer; what a text spells doesn't rest on it.
--     IsNumber fits word number      the number that the word spells, where it fits; None where it doesn't
--     Spells fits word result      a call answered that number, or that the word spells none
--     command_in, bounds_in, keys_in      a command, the bounds and the watched keys, judged by themselves
use Rattle.std.specs.Prelude.{◌≡◌, ℕ, ◌^◌, Bool, true, false, ◌&&◌, nat_lt, nat_le, List, [], ◌∷◌, map, Option, Some, None, Result, is_none}
use Rattle.std.specs.Prelude.{option_map, option_and_then, if◌then◌else◌, codes, MatchResult}
use Rattle.std.specs.List.{list_all}
use Rattle.std.specs.Str.{bytes_eq}
use Rattle.xc_base.specs.Names.{key_fault}
use Rattle.xc_base.specs.Escapes.{unescaped, word_fault}
use Rattle.xc_base.specs.Words.{number_of}
use Rattle.xc_record.specs.declared.session.Command.{Command}
use Rattle.xc_record.specs.declared.session.Command.TheVariants.{Poll, Stop, Ack, Restart, Drain, Safe, Read, ReadAt, Scan, Prune, Failover}
use Rattle.xc_record.specs.declared.session.Command.TheVariants.{Report}
use Rattle.xc_script.specs.Kinds.{judge}
use Rattle.xc_script.specs.declared.kind.ScriptKind.{ScriptKind}
use Rattle.xc_script.specs.declared.reading.Version.{Version}
use Rattle.xc_script.specs.declared.reading.Version.TheVariants.{One, Two}
use Rattle.xc_base.specs.declared.limits.TheConstants.{KEY_BYTES, MOST_TABLETS, MOST_TARGETS, MOST_RECORDS}

pub data ScriptLine : Type 0 where
  -- the first line of a script
  First : Version → ScriptLine
  -- where the ranges of the target's tablets begin
  Target : List ℕ → ScriptLine
  -- the words of the watched keys
  Watch : List (List ℕ) → ScriptLine
  -- a command, with its key's word in the key's place
  Ask : Command → ScriptLine
  -- the last line
  End : ScriptLine

infixl 10 ◌>>=◌
abbrev pub ◌>>=◌ : {A B : Type 0} → Option A → (A → Option B) → Option B
o >>= f = option_and_then f o

-- ---- forms

abbrev pub is_word : List ℕ → Bool
is_word [] = false
is_word (byte ∷ bytes) = true

-- `xcscript 1` or `xcscript 2`, after the first word
abbrev pub version_of : List (List ℕ) → Option Version
version_of (word ∷ []) = if bytes_eq word (codes "1") then Some One else (if bytes_eq word (codes "2") then Some Two else None)
version_of words = None

abbrev pub all_numbers : List (List ℕ) → Option (List ℕ)
all_numbers [] = Some []
all_numbers (word ∷ words) = do
  n ← number_of word
  ns ← all_numbers words
  Some (n ∷ ns)

-- one at least, however many
abbrev pub some_words : List (List ℕ) → Option (List (List ℕ))
some_words [] = None
some_words (word ∷ words) = Some (word ∷ words)

abbrev pub numbers_of : List (List ℕ) → Option (List ℕ)
numbers_of words = some_words words >>= all_numbers

-- a command of one word
abbrev pub bare_of : List ℕ → Option Command
bare_of verb =
    if bytes_eq verb (codes "drain") then Some Drain
    else (if bytes_eq verb (codes "safe") then Some Safe
    else (if bytes_eq verb (codes "scan") then Some Scan
    else (if bytes_eq verb (codes "failover") then Some Failover
    else (if bytes_eq verb (codes "report") then Some Report else None))))

-- `ack ID`, `restart ID`, `read KEY` or `prune U`
abbrev pub with_one : List ℕ → List ℕ → Option Command
with_one verb word =
    if bytes_eq verb (codes "ack") then option_map Ack (number_of word)
    else (if bytes_eq verb (codes "restart") then option_map Restart (number_of word)
    else (if bytes_eq verb (codes "read") then Some (Read word)
    else (if bytes_eq verb (codes "prune") then option_map Prune (number_of word) else None)))

abbrev pub poll_of : List ℕ → List ℕ → Option Command
poll_of word other = do
  id ← number_of word
  n ← number_of other
  Some (Poll id n)

-- `poll ID N` or `readat U KEY`
abbrev pub with_two : List ℕ → List ℕ → List ℕ → Option Command
with_two verb word other =
    if bytes_eq verb (codes "poll") then poll_of word other
    else (if bytes_eq verb (codes "readat") then option_map (λ u. ReadAt u other) (number_of word) else None)

abbrev pub stop_of : List ℕ → List ℕ → List ℕ → Option Command
stop_of word other third = do
  id ← number_of word
  n ← number_of other
  last ← number_of third
  Some (Stop id n last)

-- `stop ID N J`
abbrev pub with_three : List ℕ → List ℕ → List ℕ → List ℕ → Option Command
with_three verb word other third = if bytes_eq verb (codes "stop") then stop_of word other third else None

unfoldable pub command_of : List ℕ → List (List ℕ) → Option Command
command_of verb [] = bare_of verb
command_of verb (word ∷ []) = with_one verb word
command_of verb (word ∷ other ∷ []) = with_two verb word other
command_of verb (word ∷ other ∷ third ∷ []) = with_three verb word other third
command_of verb words = None

abbrev pub end_of : List (List ℕ) → Option ScriptLine
end_of [] = Some End
end_of (word ∷ words) = None

abbrev pub line_by : List ℕ → List (List ℕ) → Option ScriptLine
line_by word words =
    if bytes_eq word (codes "xcscript") then option_map First (version_of words)
    else (if bytes_eq word (codes "target") then option_map Target (numbers_of words)
    else (if bytes_eq word (codes "watch") then option_map Watch (some_words words)
    else (if bytes_eq word (codes "end") then end_of words
    else option_map Ask (command_of word words))))

abbrev pub line_in : List (List ℕ) → Option ScriptLine
line_in [] = None
line_in (word ∷ words) = line_by word words

-- no word is empty, as it would be between two spaces, before the first or behind the last
unfoldable pub line_of : List (List ℕ) → Option ScriptLine
line_of words = if list_all is_word words then line_in words else None

-- ---- numbers

abbrev pub is_tablet : ℕ → Bool
is_tablet id = nat_lt id MOST_TABLETS

abbrev pub is_target : ℕ → Bool
is_target j = nat_lt j MOST_TARGETS

abbrev pub is_hash : ℕ → Bool
is_hash b = nat_lt b 65536

abbrev pub is_count : ℕ → Bool
is_count n = nat_le 1 n && nat_le n MOST_RECORDS

-- a time, which may be 0
abbrev pub is_moment : ℕ → Bool
is_moment u = nat_lt u (2 ^ 62)

abbrev pub command_numbers_fit : Command → Bool
command_numbers_fit (Poll id n) = is_tablet id && is_count n
command_numbers_fit (Stop id n last) = is_tablet id && (is_count n && is_target last)
command_numbers_fit (Ack id) = is_tablet id
command_numbers_fit (Restart id) = is_tablet id
command_numbers_fit (ReadAt u key) = is_moment u
command_numbers_fit (Prune u) = is_moment u
command_numbers_fit _ = true

abbrev pub numbers_fit : ScriptLine → Bool
numbers_fit (Target bounds) = list_all is_hash bounds
numbers_fit (Ask c) = command_numbers_fit c
numbers_fit _ = true

-- ---- keys

-- in version 1 a key's word is its bytes, which are plain; in version 2 it may be the word of any bytes
abbrev pub key_fits : Version → List ℕ → Bool
key_fits One word = is_none (key_fault word)
key_fits Two word = is_none (word_fault 1 KEY_BYTES word)

abbrev pub key_of : Version → List ℕ → List ℕ
key_of One word = word
key_of Two word = unescaped word

abbrev pub command_key_fits : Version → Command → Bool
command_key_fits version (Read word) = key_fits version word
command_key_fits version (ReadAt u word) = key_fits version word
command_key_fits version _ = true

abbrev pub keys_fit : Version → ScriptLine → Bool
keys_fit version (Watch words) = list_all (key_fits version) words
keys_fit version (Ask c) = command_key_fits version c
keys_fit version _ = true

-- the command with its key in the place of the key's word
abbrev pub meant : Version → Command → Command
meant version (Read word) = Read (key_of version word)
meant version (ReadAt u word) = ReadAt u (key_of version word)
meant version c = c

-- ---- what calls answer

abbrev pub IsNumber : (ℕ → Bool) → List ℕ → Option ℕ → Type 0
IsNumber fits word (Some n) = (number_of word ≡ Some n) × (fits n ≡ true)
IsNumber fits word None = (n : ℕ) × ((number_of word ≡ Some n) × (fits n ≡ false))

abbrev pub Spells : {E : Type 0} → (ℕ → Bool) → List ℕ → Result (Option ℕ) E → Type 0
Spells fits word result = MatchResult result (IsNumber fits word) (λ _. number_of word ≡ None)

abbrev pub command_in : Version → Option Command → Result Command ScriptKind
command_in version form = judge command_numbers_fit (command_key_fits version) (meant version) form

unfoldable pub bounds_in : List (List ℕ) → Result (List ℕ) ScriptKind
bounds_in words = judge (list_all is_hash) (λ bounds. true) (λ bounds. bounds) (numbers_of words)

unfoldable pub keys_in : Version → List (List ℕ) → Result (List (List ℕ)) ScriptKind
keys_in version words = judge (λ words. true) (list_all (key_fits version)) (map (key_of version)) (some_words words)
