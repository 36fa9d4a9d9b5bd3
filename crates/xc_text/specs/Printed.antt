-- The text of logs.
--     name_word version name      the word of a key or of a value: in version 1 its bytes, which are to be plain
--     spelled version name      that word is the name's
--     text_of version logs      the first line, the headers by number, the records of tablet 0, then those of tablet 1 and so on, and the
--         last line
--     text2_of logs      the same of version 2
--     line_text first words      a line: its words, each but the first behind a space, and the line's end
use Rattle.std.specs.Prelude.{ℕ, Bool, true, ◌&&◌, ◌==◌, List, [], ◌∷◌, ◌++◌, map, flat_map, Option, Some, None, option_map, if◌then◌else◌}
use Rattle.std.specs.Prelude.{codes, decimal}
use Rattle.std.specs.List.{list_all}
use Rattle.std.specs.Option.{option_map_or}
use Rattle.xc_base.specs.Names.{is_plain}
use Rattle.xc_base.specs.Escapes.{escaped}
use Rattle.xc_text.specs.declared.line.Version.{Version}
use Rattle.xc_text.specs.declared.line.Version.TheVariants.{One, Two}
use Rattle.xc_record.specs.declared.record.Op.{Op}
use Rattle.xc_record.specs.declared.record.Kind.{Kind}
use Rattle.xc_record.specs.declared.record.Kind.TheVariants.{Write, Intent, Apply, Abort, Safe, Split}
use Rattle.xc_record.specs.declared.record.Record.{Record}
use Rattle.xc_record.specs.declared.record.Header.{Header}
use Rattle.xc_record.specs.declared.record.Tablet.{Tablet}
use Rattle.xc_record.specs.declared.record.Logs.{Logs}

abbrev pub spaced : List (List ℕ) → List ℕ
spaced words = flat_map (λ word. 32 ∷ word) words

abbrev pub line_text : List ℕ → List (List ℕ) → List ℕ
line_text first words = first ++ (spaced words ++ 10 ∷ [])

abbrev pub name_word : Version → List ℕ → List ℕ
name_word One name = name
name_word Two name = escaped name

abbrev pub spelled : Version → List ℕ → Bool
spelled One name = is_plain name
spelled Two name = true

-- `+key=value` or `-key`
abbrev pub op_by : List ℕ → Option (List ℕ) → List ℕ
op_by key None = 45 ∷ key
op_by key (Some value) = 43 ∷ (key ++ 61 ∷ value)

abbrev pub op_word : Version → Op → List ℕ
op_word version op = op_by (name_word version op.key) (option_map (name_word version) op.value)

abbrev pub op_spelled : Version → Op → Bool
op_spelled version op = spelled version op.key && option_map_or (spelled version) op.value true

-- the subtransaction of an intent, where it has one
abbrev pub sub_words : ℕ → List (List ℕ)
sub_words sub = if sub == 0 then [] else (codes "sub" ∷ decimal sub ∷ [])

-- the subtransactions that an apply names as rolled back
abbrev pub without_words : List ℕ → List (List ℕ)
without_words [] = []
without_words (sub ∷ subs) = codes "without" ∷ map decimal (sub ∷ subs)

abbrev pub kind_words : Version → Kind → List (List ℕ)
kind_words version (Write ops) = codes "write" ∷ map (op_word version) ops
kind_words version (Intent sub txn ops) = codes "intent" ∷ decimal txn ∷ (sub_words sub ++ map (op_word version) ops)
kind_words version (Apply txn commit without) = codes "apply" ∷ decimal txn ∷ decimal commit ∷ without_words without
kind_words version (Abort txn) = codes "abort" ∷ decimal txn ∷ []
kind_words version (Safe value) = codes "safe" ∷ decimal value ∷ []
kind_words version (Split place left right) = codes "split" ∷ decimal place ∷ decimal left ∷ decimal right ∷ []

abbrev pub kind_spelled : Version → Kind → Bool
kind_spelled version (Write ops) = list_all (op_spelled version) ops
kind_spelled version (Intent sub txn ops) = list_all (op_spelled version) ops
kind_spelled version _ = true

unfoldable pub record_text : Version → ℕ → Record → List ℕ
record_text version id r = line_text (decimal id) (decimal r.time ∷ kind_words version r.kind)

abbrev pub parent_words : Option ℕ → List (List ℕ)
parent_words None = codes "root" ∷ []
parent_words (Some parent) = codes "child" ∷ decimal parent ∷ []

unfoldable pub header_text : Header → List ℕ
header_text h = line_text (codes "tablet") (decimal h.id ∷ decimal h.lo ∷ decimal h.hi ∷ parent_words h.parent)

abbrev pub records_text : Version → Tablet → List ℕ
records_text version t = flat_map (record_text version t.header.id) t.records

abbrev pub first_line : Version → List ℕ
first_line One = codes "xclog 1\n"
first_line Two = codes "xclog 2\n"

unfoldable pub text_of : Version → Logs → List ℕ
text_of version logs =
    first_line version ++
    (flat_map (λ t. header_text t.header) logs.tablets ++ (flat_map (records_text version) logs.tablets ++ codes "end\n"))

abbrev pub text2_of : Logs → List ℕ
text2_of logs = text_of Two logs

abbrev pub tablet_spelled : Version → Tablet → Bool
tablet_spelled version t = list_all (λ r. kind_spelled version r.kind) t.records

-- a text of the version can say all keys and values
abbrev pub logs_spelled : Version → Logs → Bool
logs_spelled version logs = list_all (tablet_spelled version) logs.tablets

-- version 1, where all keys and values are plain
abbrev pub least_version : Logs → Version
least_version logs = if logs_spelled One logs then One else Two
