-- The lines of a log text, by their words. A word is a list of bytes.
--     name_of version word      the bytes of a key or of a value, whose word this is in a text of the version
--     line_of version words      the line that the words spell, with its numbers and its names as they stand there; None where they have
--         none of the forms
--     numbers_fit line      each number is within the range of its place
--     names_fit line      each key and each value is well formed
-- `judge` of a line or of a part of one, as in kind_in and line_in, is what single functions answer; what a text spells doesn't rest on it.
use Rattle.std.specs.Prelude.{ℕ, ◌-◌, ◌^◌, min, Bool, true, false, ◌&&◌, ◌==◌, nat_lt, nat_le, List, [], ◌∷◌, ◌++◌, replicate, Option, Some}
use Rattle.std.specs.Prelude.{None, is_some, Result, if◌then◌else◌, option_and_then, option_map, codes}
use Rattle.std.specs.List.{list_all, list_any, before_first, after_first}
use Rattle.std.specs.Option.{option_map_or}
use Rattle.std.specs.Str.{bytes_eq}
use Rattle.xc_base.specs.Names.{is_key, is_value, is_plain}
use Rattle.xc_base.specs.Escapes.{wrong_place, unescaped}
use Rattle.xc_base.specs.Words.{number_of}
use Rattle.xc_record.specs.Subs.{are_subs}
use Rattle.xc_record.specs.Valid.{is_time, is_txn}
use Rattle.xc_record.specs.declared.record.Op.{Op}
use Rattle.xc_record.specs.declared.record.Kind.{Kind}
use Rattle.xc_record.specs.declared.record.Kind.TheVariants.{Write, Intent, Apply, Abort, Safe, Split}
use Rattle.xc_record.specs.declared.record.Header.{Header}
use Rattle.xc_text.specs.declared.kind.LogKind.{LogKind}
use Rattle.xc_text.specs.declared.line.Version.{Version}
use Rattle.xc_text.specs.declared.line.Version.TheVariants.{One, Two}
use Rattle.xc_text.specs.declared.line.LogLine.{LogLine}
use Rattle.xc_text.specs.declared.line.LogLine.TheVariants as line
use Rattle.xc_text.specs.Kinds.{judge}
use Rattle.xc_base.specs.declared.limits.TheConstants.{MOST_TABLETS, LAST_SUB}

-- no key and no value
abbrev pub no_name : List ℕ
no_name = replicate 65 0

-- the bytes that a word stands for: those of the word itself, or those that it is the word of; a wrong word stands for no name
abbrev pub name_of : Version → List ℕ → List ℕ
name_of One word = if is_plain word then word else no_name
name_of Two word = if is_some (wrong_place word) then no_name else unescaped word

infixl 10 ◌>>=◌
abbrev pub ◌>>=◌ : {A B : Type 0} → Option A → (A → Option B) → Option B
o >>= f = option_and_then f o

-- the number that a word spells; one past 64 bits stands as the greatest of 64 bits, which no place allows
unfoldable pub number : List ℕ → Option ℕ
number word = option_map (λ n. min n (2 ^ 64 - 1)) (number_of word)

-- the number that the first word spells, and the words after it
abbrev pub first_number : List (List ℕ) → Option (ℕ × List (List ℕ))
first_number [] = None
first_number (word ∷ words) = option_map (λ n. (n, words)) (number word)

abbrev pub is_over : List (List ℕ) → Bool
is_over [] = true
is_over (word ∷ words) = false

-- x, where no word is left
abbrev pub at_end : {A : Type 0} → List (List ℕ) → A → Option A
at_end words x = if is_over words then Some x else None

-- the number that the only word spells
abbrev pub only_number : List (List ℕ) → Option ℕ
only_number words = do
  n ← first_number words
  at_end n.1 n.0

-- ---- operations

-- The key and the value as they are written. `key=value`: the first `=` ends the key
abbrev pub set_of : List ℕ → Option Op
set_of rest =
    if list_any (λ b. b == 61) rest then Some
    (record { key = before_first (λ b. b == 61) rest; value = Some (after_first (λ b. b == 61) rest) }) else None

-- `+key=value` sets a key, `-key` removes it
abbrev pub op_written : List ℕ → Option Op
op_written [] = None
op_written (sign ∷ rest) = if sign == 43 then set_of rest else (if sign == 45 then Some (record { key = rest; value = None }) else None)

-- with the bytes that the words stand for
abbrev pub op_meant : Version → Op → Op
op_meant version op = record { key = name_of version op.key; value = option_map (name_of version) op.value }

abbrev pub op_of : Version → List ℕ → Option Op
op_of version word = option_map (op_meant version) (op_written word)

abbrev pub all_ops : Version → List (List ℕ) → Option (List Op)
all_ops version [] = Some []
all_ops version (word ∷ words) = do
  op ← op_of version word
  ops ← all_ops version words
  Some (op ∷ ops)

-- one operation at least, however many
abbrev pub ops_of : Version → List (List ℕ) → Option (List Op)
ops_of version [] = None
ops_of version (word ∷ words) = all_ops version (word ∷ words)

abbrev pub op_is_named : Op → Bool
op_is_named op = is_key op.key && option_map_or is_value op.value true

-- ---- records

-- a subtransaction has a number from 1 on, so a 0 that is spelled stands as a number out of its range
abbrev pub sub_named : ℕ × List (List ℕ) → ℕ × List (List ℕ)
sub_named n = (if n.0 == 0 then 65 else n.0, n.1)

-- `sub SUB`, or nothing, which stands for 0; and the words after it
abbrev pub sub_of : List (List ℕ) → Option (ℕ × List (List ℕ))
sub_of [] = Some (0, [])
sub_of (word ∷ words) = if bytes_eq word (codes "sub") then option_map sub_named (first_number words) else Some (0, word ∷ words)

abbrev pub intent_of : Version → List (List ℕ) → Option Kind
intent_of version words = do
  txn ← first_number words
  sub ← sub_of txn.1
  ops ← ops_of version sub.1
  Some (Intent sub.0 txn.0 ops)

abbrev pub all_numbers : List (List ℕ) → Option (List ℕ)
all_numbers [] = Some []
all_numbers (word ∷ words) = do
  n ← number word
  ns ← all_numbers words
  Some (n ∷ ns)

-- one number at least, however many
abbrev pub numbers_of : List (List ℕ) → Option (List ℕ)
numbers_of [] = None
numbers_of (word ∷ words) = all_numbers (word ∷ words)

-- `without SUB ..`, or nothing
abbrev pub without_of : List (List ℕ) → Option (List ℕ)
without_of [] = Some []
without_of (word ∷ words) = if bytes_eq word (codes "without") then numbers_of words else None

abbrev pub apply_of : List (List ℕ) → Option Kind
apply_of words = do
  txn ← first_number words
  commit ← first_number txn.1
  without ← without_of commit.1
  Some (Apply txn.0 commit.0 without)

abbrev pub abort_of : List (List ℕ) → Option Kind
abort_of words = option_map Abort (only_number words)

abbrev pub safe_of : List (List ℕ) → Option Kind
safe_of words = option_map Safe (only_number words)

abbrev pub split_of : List (List ℕ) → Option Kind
split_of words = do
  place ← first_number words
  left ← first_number place.1
  right ← first_number left.1
  at_end right.1 (Split place.0 left.0 right.0)

abbrev pub kind_by : Version → List ℕ → List (List ℕ) → Option Kind
kind_by version verb words =
    if bytes_eq verb (codes "write") then option_map Write (ops_of version words)
    else (if bytes_eq verb (codes "intent") then intent_of version words
    else (if bytes_eq verb (codes "apply") then apply_of words
    else (if bytes_eq verb (codes "abort") then abort_of words
    else (if bytes_eq verb (codes "safe") then safe_of words
    else (if bytes_eq verb (codes "split") then split_of words else None)))))

-- `write ..`, `intent ..` and so on
unfoldable pub kind_of : Version → List (List ℕ) → Option Kind
kind_of version [] = None
kind_of version (verb ∷ words) = kind_by version verb words

abbrev pub kind_numbers_fit : Kind → Bool
kind_numbers_fit (Write ops) = true
kind_numbers_fit (Intent sub txn ops) = is_txn txn && nat_le sub LAST_SUB
kind_numbers_fit (Apply txn commit without) = is_txn txn && (is_time commit && are_subs without)
kind_numbers_fit (Abort txn) = is_txn txn
kind_numbers_fit (Safe value) = is_time value
kind_numbers_fit (Split place left right) = nat_lt place 65536 && (nat_lt left MOST_TABLETS && nat_lt right MOST_TABLETS)

abbrev pub kind_names_fit : Kind → Bool
kind_names_fit (Write ops) = list_all op_is_named ops
kind_names_fit (Intent sub txn ops) = list_all op_is_named ops
kind_names_fit _ = true

-- the operations, where their names fit
unfoldable pub ops_in : Version → List (List ℕ) → Result (List Op) LogKind
ops_in version words = judge (λ ops. true) (list_all op_is_named) (ops_of version words)

-- the operations so far with one more, where its names fit
abbrev pub with_op : Version → List Op → Op → Result (List Op) LogKind
with_op version ops op = judge (λ ops. true) (λ ops. op_is_named (op_meant version op)) (Some (ops ++ op_meant version op ∷ []))

-- subtransactions, where they rise
unfoldable pub subs_in : List (List ℕ) → Result (List ℕ) LogKind
subs_in words = judge are_subs (λ subs. true) (numbers_of words)

-- those that were rolled back
unfoldable pub without_in : List (List ℕ) → Result (List ℕ) LogKind
without_in words = judge are_subs (λ subs. true) (without_of words)

unfoldable pub kind_in : Version → List (List ℕ) → Result Kind LogKind
kind_in version words = judge kind_numbers_fit kind_names_fit (kind_of version words)

-- ---- lines

-- `ID TIME ..`, after the ID
abbrev pub entry_of : Version → ℕ → List (List ℕ) → Option LogLine
entry_of version id words = do
  time ← first_number words
  kind ← kind_of version time.1
  Some (line.Entry id (record { time = time.0; kind = kind }))

-- `root`, or `child PARENT`
abbrev pub parent_of : List (List ℕ) → Option (Option ℕ)
parent_of [] = None
parent_of (word ∷ words) =
    if bytes_eq word (codes "root") then at_end words None
    else (if bytes_eq word (codes "child") then option_map Some (only_number words) else None)

-- `tablet ID LO HI ..`, after the first word
abbrev pub header_of : List (List ℕ) → Option Header
header_of words = do
  id ← first_number words
  lo ← first_number id.1
  hi ← first_number lo.1
  parent ← parent_of hi.1
  Some (record { id = id.0; lo = lo.0; hi = hi.0; parent = parent })

-- `xclog 1` or `xclog 2`, after the first word
abbrev pub version_of : List (List ℕ) → Option LogLine
version_of [] = None
version_of (word ∷ words) =
    if bytes_eq word (codes "1") then at_end words (line.First One)
    else (if bytes_eq word (codes "2") then at_end words (line.First Two) else None)

abbrev pub line_by : Version → List ℕ → List (List ℕ) → Option LogLine
line_by version word words =
    if bytes_eq word (codes "xclog") then version_of words
    else (if bytes_eq word (codes "tablet") then option_map line.Tablet (header_of words)
    else (if bytes_eq word (codes "end") then at_end words line.End
    else (number word >>= (λ id. entry_of version id words))))

unfoldable pub line_of : Version → List (List ℕ) → Option LogLine
line_of version [] = None
line_of version (word ∷ words) = line_by version word words

abbrev pub header_numbers_fit : Header → Bool
header_numbers_fit h =
    nat_lt h.id MOST_TABLETS && (nat_lt h.lo 65536
    && (nat_lt h.hi 65536 && option_map_or (λ parent. nat_lt parent MOST_TABLETS) h.parent true))

abbrev pub numbers_fit : LogLine → Bool
numbers_fit (line.First version) = true
numbers_fit (line.Tablet h) = header_numbers_fit h
numbers_fit (line.Entry id r) = nat_lt id MOST_TABLETS && (is_time r.time && kind_numbers_fit r.kind)
numbers_fit line.End = true

abbrev pub names_fit : LogLine → Bool
names_fit (line.Entry id r) = kind_names_fit r.kind
names_fit _ = true

unfoldable pub line_in : Version → List (List ℕ) → Result LogLine LogKind
line_in version words = judge numbers_fit names_fit (line_of version words)
