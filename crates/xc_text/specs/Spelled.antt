-- A log text that spells logs, said without reading it, and the laws that join this to what is read.
--     Entry      a record and the number of its tablet: a line of the text
--     given id entries      the records among the entries that are of the tablet of this number, in their order
--     Spells text logs      the text is the lines of these valid logs; lines of different tablets may be mixed, and each tablet's own come
--         in their order
use Rattle.std.specs.Prelude.{◌≡◌, ℕ, true, ◌==◌, nat_lt, List, [], ◌∷◌, ◌++◌, length, flat_map, Some, Ok, if◌then◌else◌, slice_get, codes}
use Rattle.std.specs.List.{list_all}
use Rattle.xc_record.specs.Valid.{is_valid}
use Rattle.xc_record.specs.declared.record.Record.{Record}
use Rattle.xc_record.specs.declared.record.Tablet.{Tablet}
use Rattle.xc_record.specs.declared.record.Logs.{Logs}
use Rattle.xc_text.specs.LogText.{logs_of}
use Rattle.xc_text.specs.Printed.{header_text, record_text, kind_spelled, logs_spelled, first_line, text_of}
use Rattle.xc_text.specs.declared.line.Version.{Version}

pub record Entry : Type 0 where
  pub id : ℕ
  pub item : Record

abbrev pub entry_text : Version → Entry → List ℕ
entry_text version entry = record_text version entry.id entry.item

abbrev pub given : ℕ → List Entry → List Record
given id [] = []
given id (entry ∷ entries) = if entry.id == id then entry.item ∷ given id entries else given id entries

pub record Spells (text : List ℕ) (logs : Logs) : Type 0 where
  pub valid : is_valid logs ≡ true
  pub version : Version
  pub entries : List Entry
  -- the first line, the headers by number, the entries and the last line
  pub lines : text ≡ first_line version ++
      (flat_map (λ t. header_text t.header) logs.tablets ++ (flat_map (entry_text version) entries ++ codes "end\n"))
  -- in version 1 all keys and values are plain
  pub spelled : list_all (λ entry. kind_spelled version entry.item.kind) entries ≡ true
  -- each entry is of a tablet of the logs
  pub known : list_all (λ entry. nat_lt entry.id (length logs.tablets)) entries ≡ true
  -- a tablet's entries are its records
  pub records : (id : ℕ) (t : Tablet) → slice_get logs.tablets id ≡ Some t → given id entries ≡ t.records

-- ---- the laws

-- A text that spells logs is read as those logs.
abbrev pub SpelledIsRead : Type 0
SpelledIsRead = (text : List ℕ) (logs : Logs) → Spells text logs → logs_of text ≡ Ok logs

-- No text spells two logs.
abbrev pub SpellsOne : Type 0
SpellsOne = (text : List ℕ) (logs other : Logs) → Spells text logs → Spells text other → logs ≡ other

-- A text that is read as logs spells them: nothing else is read.
abbrev pub ReadIsSpelled : Type 0
ReadIsSpelled = (text : List ℕ) (logs : Logs) → logs_of text ≡ Ok logs → Spells text logs

-- What is printed of valid logs spells them: in version 2 always, so each valid logs are spelled by some text, and in version 1 where
-- all keys and values are plain.
abbrev pub PrintedIsSpelled : Type 0
PrintedIsSpelled = (version : Version) (logs : Logs) → is_valid logs ≡ true → logs_spelled version logs ≡ true
    → Spells (text_of version logs) logs
