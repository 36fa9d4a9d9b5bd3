-- Which source script a text spells, or why it spells none. A text is a list of bytes.
--     source_of text      the script that the text spells, or its first bad line and the first kind for which it is bad
--     Reading      what the lines so far gave, and what may stand next; `covered` is the first hash that no root has yet
--     kinds reading line      the rules for a line after those before, in their order: where a test is true, the line is bad for this kind
--     step reading bytes      what the lines give with one more, or why that one is bad
-- forward, with_version, with_start, with_root, with_command, is_inner and at_line are what single functions answer; what a text
-- spells doesn't rest on them.
use Rattle.std.specs.Prelude.{◌≡◌, ℕ, ◌+◌, Bool, true, false, ◌&&◌, ◌||◌, ◌==◌, nat_le, not, List, [], ◌∷◌, ◌++◌, length, Option}
use Rattle.std.specs.Prelude.{Some, None, Result, Ok, Err, if◌then◌else◌, is_none}
use Rattle.xc_base.specs.Words.{split_on}
use Rattle.xc_record.specs.declared.record.Header.{Header}
use Rattle.xc_script.specs.LineText.{BadLine as BadTextLine, Rules, first_kind, unless_bad, lines_from}
use Rattle.xc_source.specs.declared.command.SourceCommand.{SourceCommand}
use Rattle.xc_text.specs.declared.line.Version.{Version}
use Rattle.xc_text.specs.declared.line.Version.TheVariants.{One}
use Rattle.xc_source_script.specs.declared.kind.SourceKind.{SourceKind}
use Rattle.xc_source_script.specs.declared.kind.SourceKind.TheVariants as kind
use Rattle.xc_source_script.specs.declared.kind.Fail.{Fail}
use Rattle.xc_source_script.specs.declared.kind.Fail.TheVariants as fail
use Rattle.xc_source_script.specs.declared.kind.SourceScriptFail.{SourceScriptFail}
use Rattle.xc_source_script.specs.declared.kind.SourceScriptFail.TheVariants as source_fail
use Rattle.xc_source_script.specs.declared.reading.Stage.{Stage}
use Rattle.xc_source_script.specs.declared.reading.Stage.TheVariants as stage
use Rattle.xc_source_script.specs.declared.reading.Reading.{Reading}
use Rattle.xc_source_script.specs.declared.script.SourceScript.{SourceScript}
use Rattle.xc_source_script.specs.Words.{SourceLine, First, Start, Root, Ask, End, line_of, numbers_fit, names_fit}
use Rattle.xc_base.specs.declared.limits.TheConstants.{SCRIPT_LINES}

abbrev pub BadLine : Type 0
BadLine = BadTextLine SourceKind

-- ---- the rules for one line

-- the first line, the start, the roots, the commands and the last line; a root behind a command breaks another rule
abbrev pub misplaced : Stage → SourceLine → Bool
misplaced stage.First (First version) = false
misplaced stage.Start (Start time) = false
misplaced stage.Roots (Root h) = false
misplaced stage.Roots (Ask c) = false
misplaced stage.Roots End = false
misplaced stage.Commands (Root h) = false
misplaced stage.Commands (Ask c) = false
misplaced stage.Commands End = false
misplaced _ l = true

abbrev pub is_root : Header → Bool
is_root h = is_none h.parent

-- a root numbered behind those before, whose range begins where theirs end
abbrev pub follows : List Header → ℕ → Header → Bool
follows before covered h = is_root h && (h.id == length before && (nat_le h.lo h.hi && h.lo == covered))

abbrev pub commands_began : Stage → Bool
commands_began stage.Commands = true
commands_began other = false

-- the roots so far have all hashes
abbrev pub is_whole : Reading → Bool
is_whole s = s.covered == 65536

abbrev pub root_breaks : Reading → Header → Bool
root_breaks s h = commands_began s.stage || not (follows s.script.roots s.covered h)

-- a root that doesn't fit or comes too late, or roots that end too early
abbrev pub breaks_roots : Reading → SourceLine → Bool
breaks_roots s (Root h) = root_breaks s h
breaks_roots s (Ask c) = not (is_whole s)
breaks_roots s End = not (is_whole s)
breaks_roots s l = false

-- the rules beyond those that a line meets by itself
abbrev pub later_kinds : Reading → SourceLine → List (Bool × SourceKind)
later_kinds s l = (breaks_roots s l, kind.Header) ∷ (nat_le SCRIPT_LINES s.lines, kind.Limit) ∷ []

abbrev pub kinds : Reading → SourceLine → List (Bool × SourceKind)
kinds s l =
    (misplaced s.stage l, kind.Form)
    ∷ (not (numbers_fit l), kind.Number)
    ∷ (not (names_fit l), kind.Key)
    ∷ later_kinds s l

-- ---- what the lines give

-- before the first line
abbrev pub begun : Reading
begun = record {
  lines = 0;
  version = One;
  stage = stage.First;
  covered = 0;
  script = record { start = 0; roots = []; commands = [] };
}

-- with one line more, which leads to this stage and gives this script
abbrev pub after_line : Reading → Stage → SourceScript → Reading
after_line s next script = record s { lines = s.lines + 1; stage = next; script = script }

-- with a root more
abbrev pub rooted : Reading → Header → Reading
rooted s h = record s {
  lines = s.lines + 1;
  stage = stage.Roots;
  covered = h.hi + 1;
  script = record s.script { roots = s.script.roots ++ h ∷ [] };
}

-- with a command more
abbrev pub asked : Reading → SourceCommand → Reading
asked s c = after_line s stage.Commands (record s.script { commands = s.script.commands ++ c ∷ [] })

-- with a line that breaks no rule
abbrev pub moved : Reading → SourceLine → Reading
moved s (First version) = record s { lines = s.lines + 1; version = version; stage = stage.Start }
moved s (Start time) = after_line s stage.Roots (record s.script { start = time })
moved s (Root h) = rooted s h
moved s (Ask c) = asked s c
moved s End = after_line s stage.Ended s.script

abbrev pub step_by : Reading → Option SourceLine → Result Reading SourceKind
step_by s None = Err kind.Form
step_by s (Some l) = unless_bad (first_kind (kinds s l)) (moved s l)

unfoldable pub step : Reading → List ℕ → Result Reading SourceKind
step s bytes = step_by s (line_of s.version (split_on 32 bytes))

-- ---- the whole text

-- a text that goes no further than these lines
abbrev pub ending : Stage → Reading → Result SourceScript BadLine
ending stage.Ended s = Ok s.script
ending _ s = Err (record { line = s.lines + 1; kind = kind.NoEnd })

abbrev pub rules : Rules Reading SourceScript SourceKind
rules = record { lines = λ s. s.lines; step = step; ending = λ s. ending s.stage s; unended = kind.Form }

unfoldable pub source_of : List ℕ → Result SourceScript BadLine
source_of text = lines_from rules begun (split_on 10 text)

-- ---- what calls answer

abbrev pub Refuses : SourceScriptFail → Result SourceScript BadLine → Type 0
Refuses (source_fail.Bad number k) reading = reading ≡ Err (record { line = number; kind = k })
Refuses source_fail.NoMemory reading = Unit {0}

-- a call answered what the reading gives, or that memory ran out
abbrev pub Reads : Result SourceScript SourceScriptFail → Result SourceScript BadLine → Type 0
Reads (Ok script) reading = reading ≡ Ok script
Reads (Err e) reading = Refuses e reading

-- a line was not taken
abbrev pub at_line : ℕ → Fail → SourceScriptFail
at_line number (fail.Bad k) = source_fail.Bad number k
at_line number fail.NoMemory = source_fail.NoMemory

-- where a root, a command or the last line may stand
abbrev pub is_inner : Stage → Bool
is_inner stage.Roots = true
is_inner stage.Commands = true
is_inner other = false

-- with one line more that breaks no rule by itself and gives this reading, where there may be one
abbrev pub forward : Reading → Reading → Result Reading SourceKind
forward s after = if nat_le SCRIPT_LINES s.lines then Err kind.Limit else Ok after

-- with a version, a start, a root and a command that stand by themselves and in their places
abbrev pub with_version : Reading → Version → Result Reading SourceKind
with_version s version = forward s (moved s (First version))

abbrev pub with_start : Reading → ℕ → Result Reading SourceKind
with_start s time = forward s (moved s (Start time))

abbrev pub with_root : Reading → Header → Result Reading SourceKind
with_root s h = if root_breaks s h then Err kind.Header else forward s (moved s (Root h))

abbrev pub with_command : Reading → SourceCommand → Result Reading SourceKind
with_command s c = if is_whole s then forward s (moved s (Ask c)) else Err kind.Header
