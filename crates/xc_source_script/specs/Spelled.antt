-- A text that spells a source script, said without reading it, and the laws that join this to what is read.
--     source_words version script      the script's lines, each by its words
--     Spells text script      the text is the lines of this script, which a source can begin with
use Rattle.std.specs.Prelude.{◌≡◌, ℕ, Bool, true, false, List, [], ◌∷◌, ◌++◌, map, flat_map, Ok, codes, decimal}
use Rattle.std.specs.List.{list_all}
use Rattle.xc_record.specs.declared.record.Header.{Header}
use Rattle.xc_script.specs.Spelled.{words_line}
use Rattle.xc_source.specs.declared.command.SourceCommand.{SourceCommand}
use Rattle.xc_source.specs.declared.command.SourceCommand.TheVariants.{Begin, Write, Put, Commit, Abort, Apply, Safe, Split, Tick, Finish}
use Rattle.xc_source.specs.declared.command.SourceCommand.TheVariants.{Savepoint, Rollback}
use Rattle.xc_text.specs.Printed.{op_word, op_spelled}
use Rattle.xc_text.specs.declared.line.Version.{Version}
use Rattle.xc_text.specs.declared.line.Version.TheVariants.{One, Two}
use Rattle.xc_source_script.specs.declared.script.SourceScript.{SourceScript}
use Rattle.xc_source_script.specs.SourceText.{source_of}
use Rattle.xc_source_script.specs.Allowed.{IsSourceScript}

abbrev pub command_words : Version → SourceCommand → List (List ℕ)
command_words version Begin = codes "begin" ∷ []
command_words version (Write txn op) = codes "write" ∷ decimal txn ∷ op_word version op ∷ []
command_words version (Put op) = codes "put" ∷ op_word version op ∷ []
command_words version (Commit txn) = codes "commit" ∷ decimal txn ∷ []
command_words version (Abort txn) = codes "abort" ∷ decimal txn ∷ []
command_words version (Apply txn id) = codes "apply" ∷ decimal txn ∷ decimal id ∷ []
command_words version (Safe id) = codes "safe" ∷ decimal id ∷ []
command_words version (Split id place) = codes "split" ∷ decimal id ∷ decimal place ∷ []
command_words version (Tick time) = codes "tick" ∷ decimal time ∷ []
command_words version Finish = codes "finish" ∷ []
command_words version (Savepoint txn) = codes "savepoint" ∷ decimal txn ∷ []
command_words version (Rollback txn sub) = codes "rollback" ∷ decimal txn ∷ decimal sub ∷ []

abbrev pub is_version_2 : Version → Bool
is_version_2 One = false
is_version_2 Two = true

-- a script of the version can say the command: version 1 has no savepoints, and its keys and values are plain
abbrev pub command_spelled : Version → SourceCommand → Bool
command_spelled version (Write txn op) = op_spelled version op
command_spelled version (Put op) = op_spelled version op
command_spelled version (Savepoint txn) = is_version_2 version
command_spelled version (Rollback txn sub) = is_version_2 version
command_spelled version c = true

abbrev pub version_word : Version → List ℕ
version_word One = codes "1"
version_word Two = codes "2"

abbrev pub root_words : Header → List (List ℕ)
root_words h = codes "tablet" ∷ decimal h.id ∷ decimal h.lo ∷ decimal h.hi ∷ codes "root" ∷ []

abbrev pub source_words : Version → SourceScript → List (List (List ℕ))
source_words version script =
    (codes "xcsource" ∷ version_word version ∷ [])
    ∷ (codes "start" ∷ decimal script.start ∷ [])
    ∷ (map root_words script.roots ++ (map (command_words version) script.commands ++ (codes "end" ∷ []) ∷ []))

pub record Spells (text : List ℕ) (script : SourceScript) : Type 0 where
  pub allowed : IsSourceScript script
  pub version : Version
  pub lines : text ≡ flat_map words_line (source_words version script)
  pub spelled : list_all (command_spelled version) script.commands ≡ true

-- ---- the laws

-- A text that spells a source script is read as that script.
abbrev pub SpelledIsRead : Type 0
SpelledIsRead = (text : List ℕ) (script : SourceScript) → Spells text script → source_of text ≡ Ok script

-- No text spells two source scripts.
abbrev pub SpellsOne : Type 0
SpellsOne = (text : List ℕ) (script other : SourceScript) → Spells text script → Spells text other → script ≡ other

-- A text that is read as a source script spells it: nothing else is read.
abbrev pub ReadIsSpelled : Type 0
ReadIsSpelled = (text : List ℕ) (script : SourceScript) → source_of text ≡ Ok script → Spells text script
