-- Which logs a log text spells, or why it spells none. A text is a list of bytes.
--     logs_of text      the logs that the text spells, or its first bad line and the first kind for which it is bad
--     Reading      what the lines so far gave, and what may stand next
--     kinds reading line      the rules for a line after those before, in their order: where a test is true, the line is bad for this kind
--     step reading bytes      what the lines give with one more, or why that one is bad
-- placed, starting, between and at_line are what single functions answer, each a part of step; what a text spells doesn't rest on them.
use Rattle.std.specs.Prelude.{◌≡◌, ℕ, ◌+◌, ◌-◌, Bool, true, false, ◌&&◌, ◌||◌, ◌==◌, nat_lt, nat_le, not, List, [], ◌∷◌, ◌++◌, length}
use Rattle.std.specs.Prelude.{Option, Some, None, Result, Ok, Err, if◌then◌else◌, slice_get, is_some}
use Rattle.std.specs.List.{list_all, list_any}
use Rattle.std.specs.Option.{option_map_or}
use Rattle.xc_base.specs.Words.{split_on}
use Rattle.xc_record.specs.Hash.{hash_of, holds}
use Rattle.xc_record.specs.Grown.{with_record}
use Rattle.xc_record.specs.Headers.{fits, next_after, may_end, children}
use Rattle.xc_record.specs.Order.{is_split}
use Rattle.xc_record.specs.Valid.{headers_of, split_fits, ops_in}
use Rattle.xc_record.specs.declared.headers.Next.TheVariants.{RootAt}
use Rattle.xc_record.specs.declared.record.Kind.{Kind}
use Rattle.xc_record.specs.declared.record.Kind.TheVariants.{Write, Intent, Split}
use Rattle.xc_record.specs.declared.record.Header.{Header}
use Rattle.xc_record.specs.declared.record.Tablet.{Tablet}
use Rattle.xc_record.specs.declared.record.Logs.{Logs}
use Rattle.xc_text.specs.declared.kind.LogKind.{LogKind}
use Rattle.xc_text.specs.declared.kind.LogKind.TheVariants as kind
use Rattle.xc_text.specs.declared.line.Version.TheVariants.{One}
use Rattle.xc_text.specs.declared.line.LogLine.{LogLine}
use Rattle.xc_text.specs.declared.line.LogLine.TheVariants as line
use Rattle.xc_text.specs.declared.reading.Reading.{Reading}
use Rattle.xc_text.specs.declared.reading.Stage.{Stage}
use Rattle.xc_text.specs.declared.reading.Stage.TheVariants.{Start, Headers, Records, Ended}
use Rattle.xc_text.specs.declared.kind.Fail.{Fail}
use Rattle.xc_text.specs.declared.kind.Fail.TheVariants as fail
use Rattle.xc_text.specs.declared.kind.LogsFail.{LogsFail}
use Rattle.xc_text.specs.declared.kind.LogsFail.TheVariants as logs_fail
use Rattle.xc_text.specs.Kinds.{first_kind}
use Rattle.xc_text.specs.Lines.{line_of, numbers_fit, names_fit}
use Rattle.xc_base.specs.declared.limits.TheConstants.{RECORD_OPERATIONS, MOST_RECORDS, MOST_OPERATIONS}

pub record BadLine : Type 0 where
  pub line : ℕ
  pub kind : LogKind

-- ---- the rules for one line

-- the first line comes first and nowhere else, and nothing comes after the last
abbrev pub misplaced : Stage → LogLine → Bool
misplaced Start (line.First version) = false
misplaced Headers (line.First version) = true
misplaced Records (line.First version) = true
misplaced Ended (line.First version) = true
misplaced Start l = true
misplaced Headers l = false
misplaced Records l = false
misplaced Ended l = true

-- between the first line and the last
abbrev pub is_inner : Stage → Bool
is_inner Headers = true
is_inner Records = true
is_inner _ = false

abbrev pub records_began : Stage → Bool
records_began Records = true
records_began _ = false

-- a header that may not stand here; or a record or the end, where the headers may not end yet
abbrev pub breaks_headers : Reading → LogLine → Bool
breaks_headers s (line.Tablet h) = records_began s.stage || not (fits (headers_of s.tablets) s.next h)
breaks_headers s (line.Entry id r) = not (may_end s.next)
breaks_headers s line.End = not (may_end s.next)
breaks_headers s (line.First version) = false

abbrev pub is_unknown : Reading → LogLine → Bool
is_unknown s (line.Entry id r) = nat_le (length s.tablets) id
is_unknown s _ = false

-- the keys hash into the tablet's range, and a split names the tablet's children
abbrev pub in_range : List Header → Header → Kind → Bool
in_range headers h (Write ops) = list_all (λ op. holds h (hash_of op.key)) ops
in_range headers h (Intent sub txn ops) = list_all (λ op. holds h (hash_of op.key)) ops
in_range headers h (Split place left right) = split_fits (children headers h.id) place left right
in_range headers h _ = true

abbrev pub is_out_of_range : Reading → LogLine → Bool
is_out_of_range s (line.Entry id r) =
    option_map_or (λ t. not (in_range (headers_of s.tablets) t.header r.kind)) (slice_get s.tablets id) false
is_out_of_range s _ = false

-- the last record is a split; no other one is, since none is taken after a split
abbrev pub is_split_off : Tablet → Bool
is_split_off t = option_map_or (λ r. is_split r.kind) (slice_get t.records (length t.records - 1)) false

abbrev pub is_after_split : Reading → LogLine → Bool
is_after_split s (line.Entry id r) = option_map_or is_split_off (slice_get s.tablets id) false
is_after_split s _ = false

-- more than RECORD_OPERATIONS operations, or a record or an operation more than there is room for
abbrev pub is_past_limits : Reading → LogLine → Bool
is_past_limits s (line.Entry id r) = nat_lt RECORD_OPERATIONS (ops_in r.kind)
    || (s.records_left == 0 || nat_lt s.operations_left (ops_in r.kind))
is_past_limits s _ = false

abbrev pub is_orphaned : List Header → Tablet → Bool
is_orphaned headers t = is_some (children headers t.header.id) && not (is_split_off t)

-- the end, where some tablet with children has no split
abbrev pub leaves_orphan : Reading → LogLine → Bool
leaves_orphan s line.End = list_any (is_orphaned (headers_of s.tablets)) s.tablets
leaves_orphan s _ = false

-- the rules beyond those that a line meets by itself
abbrev pub later_kinds : Reading → LogLine → List (Bool × LogKind)
later_kinds s l =
    (breaks_headers s l, kind.Header)
    ∷ (is_unknown s l, kind.UnknownTablet)
    ∷ (is_out_of_range s l, kind.Range)
    ∷ (is_after_split s l, kind.AfterSplit)
    ∷ (is_past_limits s l, kind.Limit)
    ∷ (leaves_orphan s l, kind.Orphan)
    ∷ []

abbrev pub kinds : Reading → LogLine → List (Bool × LogKind)
kinds s l =
    (misplaced s.stage l, kind.Form)
    ∷ (not (numbers_fit l), kind.Number)
    ∷ (not (names_fit l), kind.Key)
    ∷ later_kinds s l

-- ---- what the lines give

-- before the first line
abbrev pub begun : Reading
begun = record {
  version = One;
  tablets = [];
  next = RootAt 0;
  stage = Start;
  records_left = MOST_RECORDS;
  operations_left = MOST_OPERATIONS;
}

-- with a line that breaks no rule
abbrev pub moved : Reading → LogLine → Reading
moved s (line.First version) = record s { version = version; stage = Headers }
moved s (line.Tablet h) = record s {
  tablets = s.tablets ++ (record { header = h; records = [] }) ∷ [];
  next = next_after (headers_of s.tablets) s.next h h.parent;
}
moved s (line.Entry id r) = record s {
  tablets = with_record id r s.tablets;
  stage = Records;
  records_left = s.records_left - 1;
  operations_left = s.operations_left - ops_in r.kind;
}
moved s line.End = record s { stage = Ended }

abbrev pub unless_bad : {A : Type 0} → Option LogKind → A → Result A LogKind
unless_bad None x = Ok x
unless_bad (Some k) x = Err k

-- with a line that stands by itself and in its place, or why it is bad
abbrev pub placed : Reading → LogLine → Result Reading LogKind
placed s l = unless_bad (first_kind (later_kinds s l)) (moved s l)

-- with a line that stands by itself, where the first line is wanted
abbrev pub starting : Reading → LogLine → Result Reading LogKind
starting s (line.First version) = Ok (record s { version = version; stage = Headers })
starting s (line.Tablet h) = Err kind.Form
starting s (line.Entry id r) = Err kind.Form
starting s line.End = Err kind.Form

-- with a line that stands by itself, behind the first line
abbrev pub between : Reading → LogLine → Result Reading LogKind
between s (line.First version) = Err kind.Form
between s (line.Tablet h) = placed s (line.Tablet h)
between s (line.Entry id r) = placed s (line.Entry id r)
between s line.End = placed s line.End

abbrev pub step_by : Reading → Option LogLine → Result Reading LogKind
step_by s None = Err kind.Form
step_by s (Some l) = unless_bad (first_kind (kinds s l)) (moved s l)

unfoldable pub step : Reading → List ℕ → Result Reading LogKind
step s bytes = step_by s (line_of s.version (split_on 32 bytes))

-- ---- the whole text

-- a text that goes no further before this line
abbrev pub ending : Stage → Reading → ℕ → Result Logs BadLine
ending Ended s number = Ok (record { tablets = s.tablets })
ending _ s number = Err (record { line = number; kind = kind.NoEnd })

abbrev pub is_empty : List ℕ → Bool
is_empty [] = true
is_empty (byte ∷ bytes) = false

-- the bytes after the last line end, which are to be none
abbrev pub rest_of_text : Reading → ℕ → List ℕ → Result Logs BadLine
rest_of_text s number rest = if is_empty rest then ending s.stage s number else Err (record { line = number; kind = kind.Form })

abbrev pub go_on : Result Reading LogKind → ℕ → (Reading → Result Logs BadLine) → Result Logs BadLine
go_on (Ok s) number more = more s
go_on (Err k) number more = Err (record { line = number; kind = k })

-- the lines from this number on, each ended by a line end but for the last piece
abbrev pub lines_from : Reading → ℕ → List (List ℕ) → Result Logs BadLine
lines_from s number [] = ending s.stage s number
lines_from s number (piece ∷ []) = rest_of_text s number piece
lines_from s number (piece ∷ (next ∷ pieces)) = go_on (step s piece) number (λ after. lines_from after (number + 1) (next ∷ pieces))

-- a line was not taken
abbrev pub at_line : ℕ → Fail → LogsFail
at_line number (fail.Bad k) = logs_fail.Bad number k
at_line number fail.NoMemory = logs_fail.NoMemory

abbrev pub Refuses : LogsFail → Result Logs BadLine → Type 0
Refuses (logs_fail.Bad number k) reading = reading ≡ Err (record { line = number; kind = k })
Refuses logs_fail.NoMemory reading = Unit {0}

-- a call answered what the reading gives, with valid logs, or that memory ran out
abbrev pub Reads : Result Logs LogsFail → Result Logs BadLine → Type 0
Reads (Ok logs) reading = reading ≡ Ok logs
Reads (Err e) reading = Refuses e reading

unfoldable pub logs_of : List ℕ → Result Logs BadLine
logs_of text = lines_from begun 1 (split_on 10 text)
