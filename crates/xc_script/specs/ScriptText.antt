-- Which script a text spells for a source with so many tablets, or why it spells none. A text is a list of bytes.
--     script_of sources text      the script that the text spells, or its first bad line and the first kind for which it is bad
--     Reading      what the lines so far gave, and what may stand next
--     kinds reading line      the rules for a line after those before, in their order: where a test is true, the line is bad for this kind
--     step reading bytes      what the lines give with one more, or why that one is bad
-- forward, with_version, with_bounds, with_watched, with_command, is_inner, is_watch_line and at_line are what single functions answer;
-- what a text spells doesn't rest on them.
use Rattle.std.specs.Prelude.{◌≡◌, ℕ, ◌+◌, Bool, true, false, ◌||◌, nat_lt, nat_le, not, List, [], ◌∷◌, ◌++◌, map, length, count_by, Option}
use Rattle.std.specs.Prelude.{Some, None, Result, Ok, Err, if◌then◌else◌, bytes_eq, codes}
use Rattle.xc_base.specs.Words.{split_on}
use Rattle.xc_record.specs.Bounds.{are_bounds}
use Rattle.xc_record.specs.declared.session.Command.{Command}
use Rattle.xc_record.specs.declared.session.Command.TheVariants as command
use Rattle.xc_script.specs.declared.kind.ScriptKind.{ScriptKind}
use Rattle.xc_script.specs.declared.kind.ScriptKind.TheVariants as kind
use Rattle.xc_script.specs.declared.kind.Fail.{Fail}
use Rattle.xc_script.specs.declared.kind.Fail.TheVariants as fail
use Rattle.xc_script.specs.declared.kind.ScriptFail.{ScriptFail}
use Rattle.xc_script.specs.declared.kind.ScriptFail.TheVariants as script_fail
use Rattle.xc_script.specs.declared.reading.Version.{Version}
use Rattle.xc_script.specs.declared.reading.Version.TheVariants.{One}
use Rattle.xc_script.specs.declared.reading.Stage.{Stage}
use Rattle.xc_script.specs.declared.reading.Stage.TheVariants as stage
use Rattle.xc_script.specs.declared.reading.Reading.{Reading}
use Rattle.xc_script.specs.declared.script.Script.{Script}
use Rattle.xc_script.specs.LineText.{BadLine as BadTextLine, Rules, first_kind, unless_bad, lines_from}
use Rattle.xc_script.specs.Words.{ScriptLine, First, Target, Watch, Ask, End, line_of, numbers_fit, keys_fit, key_of, meant}
use Rattle.xc_base.specs.declared.limits.TheConstants.{SCRIPT_LINES, WATCHED_KEYS, MOST_SCANS, MOST_DRAINS}

abbrev pub BadLine : Type 0
BadLine = BadTextLine ScriptKind

-- ---- the rules for one line

-- the first line, the bounds, the watched keys if there are any, the commands, and the last line
abbrev pub misplaced : Stage → ScriptLine → Bool
misplaced stage.First (First version) = false
misplaced stage.Target (Target bounds) = false
misplaced stage.Watch (Watch words) = false
misplaced stage.Watch (Ask c) = false
misplaced stage.Watch End = false
misplaced stage.Commands (Ask c) = false
misplaced stage.Commands End = false
misplaced _ l = true

-- the first bound isn't 0, or one isn't above the one before, or there are more than MOST_TARGETS
abbrev pub breaks_bounds : ScriptLine → Bool
breaks_bounds (Target bounds) = not (are_bounds bounds)
breaks_bounds l = false

-- a tablet that the source or the target doesn't have
abbrev pub is_unknown : ℕ → ℕ → ScriptLine → Bool
is_unknown sources targets (Ask (command.Poll id n)) = nat_le sources id
is_unknown sources targets (Ask (command.Stop id n last)) = nat_le sources id || nat_le targets last
is_unknown sources targets (Ask (command.Ack id)) = nat_le sources id
is_unknown sources targets (Ask (command.Restart id)) = nat_le sources id
is_unknown sources targets l = false

abbrev pub is_scan : Command → Bool
is_scan command.Scan = true
is_scan c = false

abbrev pub is_drain : Command → Bool
is_drain command.Drain = true
is_drain c = false

-- one of a kind of which the script has as many as it may have, or more than WATCHED_KEYS watched keys
abbrev pub is_too_many : List Command → ScriptLine → Bool
is_too_many before (Watch words) = nat_lt WATCHED_KEYS (length words)
is_too_many before (Ask command.Scan) = nat_le MOST_SCANS (count_by is_scan before)
is_too_many before (Ask command.Drain) = nat_le MOST_DRAINS (count_by is_drain before)
is_too_many before l = false

-- the rules beyond those that a line meets by itself
abbrev pub later_kinds : Reading → ScriptLine → List (Bool × ScriptKind)
later_kinds s l =
    (breaks_bounds l, kind.Target)
    ∷ (is_unknown s.sources (length s.script.bounds) l, kind.UnknownTablet)
    ∷ (nat_le SCRIPT_LINES s.lines || is_too_many s.script.commands l, kind.Limit)
    ∷ []

abbrev pub kinds : Reading → ScriptLine → List (Bool × ScriptKind)
kinds s l =
    (misplaced s.stage l, kind.Form)
    ∷ (not (numbers_fit l), kind.Number)
    ∷ (not (keys_fit s.version l), kind.Key)
    ∷ later_kinds s l

-- ---- what the lines give

-- before the first line
abbrev pub begun : ℕ → Reading
begun sources = record {
  sources = sources;
  lines = 0;
  version = One;
  stage = stage.First;
  script = record { bounds = []; watched = []; commands = [] };
}

-- with one line more, which leads to this stage and gives this script
abbrev pub after_line : Reading → Stage → Script → Reading
after_line s next script = record s { lines = s.lines + 1; stage = next; script = script }

-- with a command more
abbrev pub asked : Reading → Command → Reading
asked s c = after_line s stage.Commands (record s.script { commands = s.script.commands ++ c ∷ [] })

-- with a line that breaks no rule
abbrev pub moved : Reading → ScriptLine → Reading
moved s (First version) = record s { lines = s.lines + 1; version = version; stage = stage.Target }
moved s (Target bounds) = after_line s stage.Watch (record s.script { bounds = bounds })
moved s (Watch words) = after_line s stage.Commands (record s.script { watched = map (key_of s.version) words })
moved s (Ask c) = asked s (meant s.version c)
moved s End = after_line s stage.Ended s.script

abbrev pub step_by : Reading → Option ScriptLine → Result Reading ScriptKind
step_by s None = Err kind.Form
step_by s (Some l) = unless_bad (first_kind (kinds s l)) (moved s l)

unfoldable pub step : Reading → List ℕ → Result Reading ScriptKind
step s bytes = step_by s (line_of (split_on 32 bytes))

-- ---- the whole text

-- a text that goes no further than these lines
abbrev pub ending : Stage → Reading → Result Script BadLine
ending stage.Ended s = Ok s.script
ending _ s = Err (record { line = s.lines + 1; kind = kind.NoEnd })

abbrev pub rules : Rules Reading Script ScriptKind
rules = record { lines = λ s. s.lines; step = step; ending = λ s. ending s.stage s; unended = kind.Form }

unfoldable pub script_of : ℕ → List ℕ → Result Script BadLine
script_of sources text = lines_from rules (begun sources) (split_on 10 text)

-- ---- what calls answer

abbrev pub Refuses : ScriptFail → Result Script BadLine → Type 0
Refuses (script_fail.Bad number k) reading = reading ≡ Err (record { line = number; kind = k })
Refuses script_fail.NoMemory reading = Unit {0}

-- a call answered what the reading gives, or that memory ran out
abbrev pub Reads : Result Script ScriptFail → Result Script BadLine → Type 0
Reads (Ok script) reading = reading ≡ Ok script
Reads (Err e) reading = Refuses e reading

-- a line was not taken
abbrev pub at_line : ℕ → Fail → ScriptFail
at_line number (fail.Bad k) = script_fail.Bad number k
at_line number fail.NoMemory = script_fail.NoMemory

-- where a command may stand
abbrev pub is_inner : Stage → Bool
is_inner stage.Watch = true
is_inner stage.Commands = true
is_inner other = false

-- a line that begins so names the watched keys
abbrev pub is_watch_line : Stage → List ℕ → Bool
is_watch_line stage.Watch word = bytes_eq word (codes "watch")
is_watch_line other word = false

-- with one line more that breaks no rule by itself and gives this script, where there may be one
abbrev pub forward : Reading → Stage → Script → Result Reading ScriptKind
forward s next script = if nat_le SCRIPT_LINES s.lines then Err kind.Limit else Ok (after_line s next script)

-- with a version, bounds, watched keys and a command that stand by themselves and in their places
abbrev pub with_version : Reading → Version → Result Reading ScriptKind
with_version s version = if nat_le SCRIPT_LINES s.lines then Err kind.Limit else Ok (moved s (First version))

abbrev pub with_bounds : Reading → List ℕ → Result Reading ScriptKind
with_bounds s bounds = if are_bounds bounds then forward s stage.Watch (record s.script { bounds = bounds }) else Err kind.Target

abbrev pub with_watched : Reading → List (List ℕ) → Result Reading ScriptKind
with_watched s keys =
    if nat_lt WATCHED_KEYS (length keys) then Err kind.Limit else forward s stage.Commands (record s.script { watched = keys })

abbrev pub with_command : Reading → Command → Result Reading ScriptKind
with_command s c =
    if is_unknown s.sources (length s.script.bounds) (Ask c) then Err kind.UnknownTablet
    else (if is_too_many s.script.commands (Ask c) then Err kind.Limit
    else forward s stage.Commands (record s.script { commands = s.script.commands ++ c ∷ [] }))
