-- A text that spells a script, said without reading it, and the laws that join this to what is read.
--     script_words version script      the script's lines, each by its words
--     words_line words      a line: its words, parted by single spaces, and its end
--     Spells sources text script      the text is the lines of this script, which may be asked of a source with so many tablets
use Rattle.std.specs.Prelude.{◌≡◌, ℕ, Bool, true, List, [], ◌∷◌, ◌++◌, map, flat_map, Ok, codes, decimal}
use Rattle.std.specs.List.{list_all, join_with_byte}
use Rattle.xc_base.specs.Names.{is_plain}
use Rattle.xc_base.specs.Escapes.{escaped}
use Rattle.xc_record.specs.declared.session.Command.{Command}
use Rattle.xc_record.specs.declared.session.Command.TheVariants.{Poll, Stop, Ack, Restart, Drain, Safe, Read, ReadAt, Scan, Prune, Failover}
use Rattle.xc_record.specs.declared.session.Command.TheVariants.{Report}
use Rattle.xc_script.specs.declared.reading.Version.{Version}
use Rattle.xc_script.specs.declared.reading.Version.TheVariants.{One, Two}
use Rattle.xc_script.specs.declared.script.Script.{Script}
use Rattle.xc_script.specs.ScriptText.{script_of}
use Rattle.xc_script.specs.Allowed.{IsScript}

-- in version 1 a key's word is its bytes
abbrev pub key_word : Version → List ℕ → List ℕ
key_word One key = key
key_word Two key = escaped key

-- a script of the version can name the key
abbrev pub is_nameable : Version → List ℕ → Bool
is_nameable One key = is_plain key
is_nameable Two key = true

abbrev pub command_words : Version → Command → List (List ℕ)
command_words version (Poll id n) = codes "poll" ∷ decimal id ∷ decimal n ∷ []
command_words version (Stop id n last) = codes "stop" ∷ decimal id ∷ decimal n ∷ decimal last ∷ []
command_words version (Ack id) = codes "ack" ∷ decimal id ∷ []
command_words version (Restart id) = codes "restart" ∷ decimal id ∷ []
command_words version Drain = codes "drain" ∷ []
command_words version Safe = codes "safe" ∷ []
command_words version (Read key) = codes "read" ∷ key_word version key ∷ []
command_words version (ReadAt u key) = codes "readat" ∷ decimal u ∷ key_word version key ∷ []
command_words version Scan = codes "scan" ∷ []
command_words version (Prune u) = codes "prune" ∷ decimal u ∷ []
command_words version Failover = codes "failover" ∷ []
command_words version Report = codes "report" ∷ []

abbrev pub command_is_nameable : Version → Command → Bool
command_is_nameable version (Read key) = is_nameable version key
command_is_nameable version (ReadAt u key) = is_nameable version key
command_is_nameable version c = true

abbrev pub version_word : Version → List ℕ
version_word One = codes "1"
version_word Two = codes "2"

-- the line of the watched keys, where there are any
abbrev pub watch_words : Version → List (List ℕ) → List (List (List ℕ))
watch_words version [] = []
watch_words version (key ∷ keys) = (codes "watch" ∷ map (key_word version) (key ∷ keys)) ∷ []

abbrev pub script_words : Version → Script → List (List (List ℕ))
script_words version script =
    (codes "xcscript" ∷ version_word version ∷ [])
    ∷ (codes "target" ∷ map decimal script.bounds)
    ∷ (watch_words version script.watched ++ (map (command_words version) script.commands ++ (codes "end" ∷ []) ∷ []))

abbrev pub words_line : List (List ℕ) → List ℕ
words_line words = join_with_byte 32 words ++ 10 ∷ []

pub record Spells (sources : ℕ) (text : List ℕ) (script : Script) : Type 0 where
  pub allowed : IsScript sources script
  pub version : Version
  pub lines : text ≡ flat_map words_line (script_words version script)
  -- in version 1 all keys are plain
  pub watched : list_all (is_nameable version) script.watched ≡ true
  pub commands : list_all (command_is_nameable version) script.commands ≡ true

-- ---- the laws

-- A text that spells a script is read as that script.
abbrev pub SpelledIsRead : Type 0
SpelledIsRead = (sources : ℕ) (text : List ℕ) (script : Script) → Spells sources text script → script_of sources text ≡ Ok script

-- No text spells two scripts.
abbrev pub SpellsOne : Type 0
SpellsOne = (sources : ℕ) (text : List ℕ) (script other : Script) → Spells sources text script → Spells sources text other → script ≡ other

-- A text that is read as a script spells it: nothing else is read.
abbrev pub ReadIsSpelled : Type 0
ReadIsSpelled = (sources : ℕ) (text : List ℕ) (script : Script) → script_of sources text ≡ Ok script → Spells sources text script
