-- A step on a line that was read by itself.
use Rattle.std.proofs.Common.{◌≡◌, ℕ, ◌+◌, Bool, true, false, List, ◌∷◌, Option, Some, None, Result, Ok, Err, refl, sym, ap, ◌∙◌}
use Rattle.std.proofs.Common.{if◌then◌else◌, not}
use Rattle.xc_base.specs.Words.{split_on}
use Rattle.xc_record.specs.declared.record.Header.{Header}
use Rattle.xc_record.specs.declared.record.Record.{Record}
use Rattle.xc_record.specs.declared.record.Logs.{Logs}
use Rattle.xc_text.specs.declared.kind.LogKind.{LogKind}
use Rattle.xc_text.specs.declared.kind.LogKind.TheVariants as kind
use Rattle.xc_text.specs.declared.line.Version.{Version}
use Rattle.xc_text.specs.declared.line.LogLine.{LogLine}
use Rattle.xc_text.specs.declared.line.LogLine.TheVariants as line
use Rattle.xc_text.specs.declared.reading.Reading.{Reading}
use Rattle.xc_text.specs.declared.reading.Stage.{Stage}
use Rattle.xc_text.specs.declared.reading.Stage.TheVariants.{Start, Headers, Records, Ended}
use Rattle.xc_text.proofs.CutLaws.{split_is_cut}
use Rattle.xc_text.specs.Kinds.{judge, first_kind, Refuses}
use Rattle.xc_text.specs.declared.kind.Fail.{Fail}
use Rattle.xc_text.specs.declared.kind.Fail.TheVariants as fail
use Rattle.xc_text.specs.Lines.{line_of, line_in, numbers_fit, names_fit}
use Rattle.xc_text.specs.LogText as text
use Rattle.xc_text.specs.LogText.{BadLine, at_line, starting, step, step_by, placed, between, moved, later_kinds, unless_bad, is_inner}
use Rattle.xc_text.specs.LogText.{misplaced, lines_from, go_on, rest_of_text}

-- ---- the first line

abbrev pub first_step : Reading → Result LogLine LogKind → Result Reading LogKind
first_step s (Ok l) = starting s l
first_step s (Err k) = Err kind.Form

start_cases : (s : Reading) (o : Option LogLine) → s.stage ≡ Start → step_by s o ≡ first_step s (judge numbers_fit names_fit o)
start_cases s None start = refl
start_cases s (Some (line.First v)) start = rw start refl
start_cases s (Some (line.Tablet h)) start = rw start (by (numbers_fit (line.Tablet h)))
  where
    by : (a : Bool) → Err kind.Form ≡ first_step s (if a then Ok (line.Tablet h) else Err kind.Number)
    by true = refl
    by false = refl
start_cases s (Some (line.Entry id r)) start = rw start (by (numbers_fit (line.Entry id r)) (names_fit (line.Entry id r)))
  where
    by : (a b : Bool) → Err kind.Form ≡ first_step s (if a then (if b then Ok (line.Entry id r) else Err kind.Key) else Err kind.Number)
    by true true = refl
    by true false = refl
    by false b = refl
start_cases s (Some line.End) start = rw start refl

at_start : (s : Reading) (bytes : List ℕ) → s.stage ≡ Start → step s bytes ≡ first_step s (line_in s.version (split_on 32 bytes))
unfolding step line_in
at_start s bytes start = start_cases s (line_of s.version (split_on 32 bytes)) start

pub start_read : (s : Reading) (bytes : List ℕ) (l : LogLine) → s.stage ≡ Start → line_in s.version (split_on 32 bytes) ≡ Ok l
    → step s bytes ≡ starting s l
start_read s bytes l start is = at_start s bytes start ∙ ap (first_step s) is

pub start_refused : (s : Reading) (bytes : List ℕ) (k : LogKind) → s.stage ≡ Start → line_in s.version (split_on 32 bytes) ≡ Err k
    → step s bytes ≡ Err kind.Form
start_refused s bytes k start is = at_start s bytes start ∙ ap (first_step s) is

-- ---- the lines after it

abbrev pub inner_step : Reading → Result LogLine LogKind → Result Reading LogKind
inner_step s (Ok l) = between s l
inner_step s (Err k) = Err k

first_misplaced : (stage : Stage) (v : Version) → is_inner stage ≡ true → misplaced stage (line.First v) ≡ true
first_misplaced Start v h = cc
first_misplaced Headers v h = refl
first_misplaced Records v h = refl
first_misplaced Ended v h = refl

header_in_place : (stage : Stage) (h : Header) → is_inner stage ≡ true → misplaced stage (line.Tablet h) ≡ false
header_in_place Start h i = cc
header_in_place Headers h i = refl
header_in_place Records h i = refl
header_in_place Ended h i = cc

pub entry_in_place : (stage : Stage) (id : ℕ) (r : Record) → is_inner stage ≡ true → misplaced stage (line.Entry id r) ≡ false
entry_in_place Start id r i = cc
entry_in_place Headers id r i = refl
entry_in_place Records id r i = refl
entry_in_place Ended id r i = cc

pub end_in_place : (stage : Stage) → is_inner stage ≡ true → misplaced stage line.End ≡ false
end_in_place Start i = cc
end_in_place Headers i = refl
end_in_place Records i = refl
end_in_place Ended i = cc

inner_cases : (s : Reading) (o : Option LogLine) → is_inner s.stage ≡ true → step_by s o ≡ inner_step s (judge numbers_fit names_fit o)
inner_cases s None i = refl
inner_cases s (Some (line.First v)) i = rw (first_misplaced s.stage v i) refl
inner_cases s (Some (line.Tablet h)) i = rw (header_in_place s.stage h i) (by (numbers_fit (line.Tablet h)))
  where
    by : (a : Bool)
        → unless_bad (if not a then Some kind.Number else first_kind (later_kinds s (line.Tablet h))) (moved s (line.Tablet h)) ≡ inner_step
        s (if a then Ok (line.Tablet h) else Err kind.Number)
    by true = refl
    by false = refl
inner_cases s (Some (line.Entry id r)) i =
    rw (entry_in_place s.stage id r i) (by (numbers_fit (line.Entry id r)) (names_fit (line.Entry id r)))
  where
    by : (a b : Bool)
        → unless_bad (if not a then Some kind.Number else (if not b then Some kind.Key else first_kind (later_kinds s (line.Entry id r))))
        (moved s (line.Entry id r)) ≡ inner_step s (if a then (if b then Ok (line.Entry id r) else Err kind.Key) else Err kind.Number)
    by true true = refl
    by true false = refl
    by false b = refl
inner_cases s (Some line.End) i = rw (end_in_place s.stage i) refl

at_inner : (s : Reading) (bytes : List ℕ) → is_inner s.stage ≡ true → step s bytes ≡ inner_step s (line_in s.version (split_on 32 bytes))
unfolding step line_in
at_inner s bytes inner = inner_cases s (line_of s.version (split_on 32 bytes)) inner

pub inner_read : (s : Reading) (bytes : List ℕ) (l : LogLine) → is_inner s.stage ≡ true → line_in s.version (split_on 32 bytes) ≡ Ok l
    → step s bytes ≡ between s l
inner_read s bytes l inner is = at_inner s bytes inner ∙ ap (inner_step s) is

pub inner_refused : (s : Reading) (bytes : List ℕ) (e : Fail) → is_inner s.stage ≡ true → Refuses e (line_in s.version (split_on 32 bytes))
    → Refuses e (step s bytes)
inner_refused s bytes (fail.Bad k) inner is = at_inner s bytes inner ∙ ap (inner_step s) is
inner_refused s bytes fail.NoMemory inner is = tt

-- ---- after the last line

ended_cases : (s : Reading) (o : Option LogLine) → s.stage ≡ Ended → step_by s o ≡ Err kind.Form
ended_cases s None ended = refl
ended_cases s (Some (line.First v)) ended = rw ended refl
ended_cases s (Some (line.Tablet h)) ended = rw ended refl
ended_cases s (Some (line.Entry id r)) ended = rw ended refl
ended_cases s (Some line.End) ended = rw ended refl

pub at_ended : (s : Reading) (bytes : List ℕ) → s.stage ≡ Ended → step s bytes ≡ Err kind.Form
unfolding step
at_ended s bytes ended = ended_cases s (line_of s.version (split_on 32 bytes)) ended

-- ---- line by line

lines_cons : (s : Reading) (number : ℕ) (line first : List ℕ) (others pieces : List (List ℕ)) → pieces ≡ first ∷ others
    → lines_from s number (line ∷ pieces) ≡ go_on (step s line) number (λ after. lines_from after (number + 1) pieces)
lines_cons s number line first others pieces e = rw e refl

-- with a line, and what stands after it
pub lines_more : (s : Reading) (number : ℕ) (line rest : List ℕ)
    → lines_from s number (line ∷ split_on 10 rest) ≡ go_on (step s line) number (λ after. lines_from after (number + 1) (split_on 10 rest))
lines_more s number line rest =
    let parts = split_is_cut 10 rest in lines_cons s number line parts.first parts.others (split_on 10 rest) parts.cut

pub goes_on : (s next : Reading) (number : ℕ) (line rest after : List ℕ) (all : Result Logs BadLine)
    → lines_from s number (split_on 10 rest) ≡ all → split_on 10 rest ≡ line ∷ split_on 10 after → step s line ≡ Ok next
    → lines_from next (number + 1) (split_on 10 after) ≡ all
goes_on s next number line rest after all whole pieces is =
    sym (lines_more s number line after ∙ rw is refl) ∙ sym (ap (lines_from s number) pieces) ∙ whole

pub stops : (s : Reading) (e : Fail) (number : ℕ) (line rest after : List ℕ) (all : Result Logs BadLine)
    → lines_from s number (split_on 10 rest) ≡ all → split_on 10 rest ≡ line ∷ split_on 10 after → Refuses e (step s line)
    → text.Refuses (at_line number e) all
stops s (fail.Bad k) number line rest after all whole pieces is =
    sym whole ∙ ap (lines_from s number) pieces ∙ lines_more s number line after ∙ rw is refl
stops s fail.NoMemory number line rest after all whole pieces is = tt
