-- The lines of a source script, by their words. A word is a list of bytes.
--     SourceLine      a line by itself, with its numbers and its names as they stand there
--     line_of version words      the line that the words spell in a script of the version; None where they have none of the forms
--     numbers_fit line      each number is within the range of its place
--     names_fit line      each key and each value is well formed
-- The rest is what single functions answer; what a text spells doesn't rest on it.
--     IsOp version word op      the operation that the word spells, where its names fit; None where they don't
--     command_in, root_in, start_in      a command, a root and the start, judged by themselves
use Rattle.std.specs.Prelude.{◌≡◌, ℕ, Bool, true, false, ◌&&◌, nat_le, List, [], ◌∷◌, Option, Some, None, Result}
use Rattle.std.specs.Prelude.{option_map, if◌then◌else◌, codes}
use Rattle.std.specs.List.{list_all}
use Rattle.std.specs.Str.{bytes_eq}
use Rattle.xc_base.specs.Words.{number_of}
use Rattle.xc_record.specs.Valid.{is_txn}
use Rattle.xc_record.specs.declared.record.Header.{Header}
use Rattle.xc_record.specs.declared.record.Op.{Op}
use Rattle.xc_script.specs.Words.{is_word, is_tablet, is_hash, is_moment}
use Rattle.xc_source.specs.declared.command.SourceCommand.{SourceCommand}
use Rattle.xc_source.specs.declared.command.SourceCommand.TheVariants.{Begin, Write, Put, Commit, Abort, Apply, Safe, Split, Tick, Finish}
use Rattle.xc_source.specs.declared.command.SourceCommand.TheVariants.{Savepoint, Rollback}
use Rattle.xc_text.specs.Lines.{◌>>=◌, op_of, op_is_named, header_numbers_fit}
use Rattle.xc_text.specs.declared.line.Version.{Version}
use Rattle.xc_text.specs.declared.line.Version.TheVariants.{One, Two}
use Rattle.xc_source_script.specs.Kinds.{judge}
use Rattle.xc_source_script.specs.declared.kind.SourceKind.{SourceKind}
use Rattle.xc_base.specs.declared.limits.TheConstants.{LAST_SUB}

pub data SourceLine : Type 0 where
  -- the first line of a source script
  First : Version → SourceLine
  -- the time that the clock begins at
  Start : ℕ → SourceLine
  -- a tablet that the source begins with
  Root : Header → SourceLine
  -- a command
  Ask : SourceCommand → SourceLine
  -- the last line
  End : SourceLine

-- ---- forms

-- `xcsource 1` or `xcsource 2`, after the first word
abbrev pub version_of : List (List ℕ) → Option Version
version_of (word ∷ []) = if bytes_eq word (codes "1") then Some One else (if bytes_eq word (codes "2") then Some Two else None)
version_of words = None

-- `start TIME`, after the first word
abbrev pub start_of : List (List ℕ) → Option ℕ
start_of (word ∷ []) = number_of word
start_of words = None

abbrev pub root_by : List ℕ → List ℕ → List ℕ → Option Header
root_by first second third = do
  id ← number_of first
  lo ← number_of second
  hi ← number_of third
  Some (record { id = id; lo = lo; hi = hi; parent = None })

-- `tablet ID LO HI root`, after the first word
unfoldable pub root_of : List (List ℕ) → Option Header
root_of (first ∷ second ∷ third ∷ word ∷ []) = if bytes_eq word (codes "root") then root_by first second third else None
root_of words = None

-- what only scripts of version 2 have
abbrev pub from_version_2 : {A : Type 0} → Version → Option A → Option A
from_version_2 One form = None
from_version_2 Two form = form

-- a command of one word
abbrev pub bare_of : List ℕ → Option SourceCommand
bare_of verb = if bytes_eq verb (codes "begin") then Some Begin else (if bytes_eq verb (codes "finish") then Some Finish else None)

-- `put OP`, `commit TXN`, `abort TXN`, `safe ID`, `tick TIME` or `savepoint TXN`
abbrev pub with_one : Version → List ℕ → List ℕ → Option SourceCommand
with_one version verb word =
    if bytes_eq verb (codes "put") then option_map Put (op_of version word)
    else (if bytes_eq verb (codes "commit") then option_map Commit (number_of word)
    else (if bytes_eq verb (codes "abort") then option_map Abort (number_of word)
    else (if bytes_eq verb (codes "safe") then option_map Safe (number_of word)
    else (if bytes_eq verb (codes "tick") then option_map Tick (number_of word)
    else (if bytes_eq verb (codes "savepoint") then from_version_2 version (option_map Savepoint (number_of word)) else None)))))

abbrev pub write_of : Version → List ℕ → List ℕ → Option SourceCommand
write_of version word other = do
  txn ← number_of word
  op ← op_of version other
  Some (Write txn op)

-- a command of two numbers
abbrev pub pair_of : (ℕ → ℕ → SourceCommand) → List ℕ → List ℕ → Option SourceCommand
pair_of command word other = do
  first ← number_of word
  second ← number_of other
  Some (command first second)

-- `write TXN OP`, `apply TXN ID`, `split ID AT` or `rollback TXN SUB`
abbrev pub with_two : Version → List ℕ → List ℕ → List ℕ → Option SourceCommand
with_two version verb word other =
    if bytes_eq verb (codes "write") then write_of version word other
    else (if bytes_eq verb (codes "apply") then pair_of Apply word other
    else (if bytes_eq verb (codes "split") then pair_of Split word other
    else (if bytes_eq verb (codes "rollback") then from_version_2 version (pair_of Rollback word other) else None)))

unfoldable pub command_of : Version → List ℕ → List (List ℕ) → Option SourceCommand
command_of version verb [] = bare_of verb
command_of version verb (word ∷ []) = with_one version verb word
command_of version verb (word ∷ other ∷ []) = with_two version verb word other
command_of version verb words = None

abbrev pub end_of : List (List ℕ) → Option SourceLine
end_of [] = Some End
end_of (word ∷ words) = None

abbrev pub line_by : Version → List ℕ → List (List ℕ) → Option SourceLine
line_by version word words =
    if bytes_eq word (codes "xcsource") then option_map First (version_of words)
    else (if bytes_eq word (codes "start") then option_map Start (start_of words)
    else (if bytes_eq word (codes "tablet") then option_map Root (root_of words)
    else (if bytes_eq word (codes "end") then end_of words
    else option_map Ask (command_of version word words))))

abbrev pub line_in : Version → List (List ℕ) → Option SourceLine
line_in version [] = None
line_in version (word ∷ words) = line_by version word words

-- no word is empty, as it would be between two spaces, before the first or behind the last
unfoldable pub line_of : Version → List (List ℕ) → Option SourceLine
line_of version words = if list_all is_word words then line_in version words else None

-- ---- numbers

abbrev pub is_sub : ℕ → Bool
is_sub sub = nat_le 1 sub && nat_le sub LAST_SUB

abbrev pub command_numbers_fit : SourceCommand → Bool
command_numbers_fit (Write txn op) = is_txn txn
command_numbers_fit (Commit txn) = is_txn txn
command_numbers_fit (Abort txn) = is_txn txn
command_numbers_fit (Apply txn id) = is_txn txn && is_tablet id
command_numbers_fit (Safe id) = is_tablet id
command_numbers_fit (Split id place) = is_tablet id && is_hash place
command_numbers_fit (Tick time) = is_moment time
command_numbers_fit (Savepoint txn) = is_txn txn
command_numbers_fit (Rollback txn sub) = is_txn txn && is_sub sub
command_numbers_fit _ = true

abbrev pub numbers_fit : SourceLine → Bool
numbers_fit (Start time) = is_moment time
numbers_fit (Root h) = header_numbers_fit h
numbers_fit (Ask c) = command_numbers_fit c
numbers_fit _ = true

-- ---- names

abbrev pub command_names_fit : SourceCommand → Bool
command_names_fit (Write txn op) = op_is_named op
command_names_fit (Put op) = op_is_named op
command_names_fit _ = true

abbrev pub names_fit : SourceLine → Bool
names_fit (Ask c) = command_names_fit c
names_fit _ = true

-- ---- what calls answer

-- the operation that the word spells, where its names are well formed
abbrev pub IsOp : Version → List ℕ → Option Op → Type 0
IsOp version word (Some op) = (op_of version word ≡ Some op) × (op_is_named op ≡ true)
IsOp version word None = (op : Op) × ((op_of version word ≡ Some op) × (op_is_named op ≡ false))

abbrev pub command_in : Option SourceCommand → Result SourceCommand SourceKind
command_in form = judge command_numbers_fit command_names_fit form

abbrev pub root_in : Option Header → Result Header SourceKind
root_in form = judge header_numbers_fit (λ h. true) form

abbrev pub start_in : Option ℕ → Result ℕ SourceKind
start_in form = judge is_moment (λ time. true) form
