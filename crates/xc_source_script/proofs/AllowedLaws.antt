-- What the lines give may be said: each line keeps it.
use Rattle.std.proofs.Common.{◌≡◌, ℕ, ◌+◌, ◌^◌, ◌<◌, ◌≤◌, true, false, ◌&&◌, ◌==◌, not, nat_le, nat_lt, List, []}
use Rattle.std.proofs.Common.{◌∷◌, ◌++◌, length, Option, Some, None, Ok, refl, sym, ap, subst, ◌∙◌, append_assoc, arith}
use Rattle.std.specs.Prelude.{is_none}
use Rattle.std.specs.List.{list_all}
use Rattle.std.specs.Option.{option_map_or}
use Rattle.std.proofs.lemmas.Bool.{true≢false, and_parts, and_from}
use Rattle.std.proofs.lemmas.Bool.Decides.{nat_tests}
use Rattle.std.proofs.lemmas.List.{length-append, append-nil}
use Rattle.xc_base.specs.Words.{split_on}
use Rattle.xc_record.specs.Headers.{fit_from, headers_fit, are_headers}
use Rattle.xc_record.specs.declared.record.Header.{Header}
use Rattle.xc_record.specs.declared.headers.Next.TheVariants.{RootAt}
use Rattle.xc_script.proofs.AllowedLaws.{none_is, is_below, or_none, is_true}
use Rattle.xc_script.proofs.LineTextLaws.{AllFalse, lines_found, ok_is, passed}
use Rattle.xc_script.proofs.ReadBack.{all_with, lt_is}
use Rattle.xc_script.specs.Words.{is_moment}
use Rattle.xc_source.specs.declared.command.SourceCommand.{SourceCommand}
use Rattle.xc_text.specs.declared.line.Version.{Version}
use Rattle.xc_text.specs.Lines.{header_numbers_fit}
use Rattle.xc_source_script.specs.declared.reading.Reading.{Reading}
use Rattle.xc_source_script.specs.declared.reading.Stage.{Stage}
use Rattle.xc_source_script.specs.declared.reading.Stage.TheVariants as stage
use Rattle.xc_source_script.specs.declared.script.SourceScript.{SourceScript}
use Rattle.xc_source_script.specs.Words.{SourceLine, First, Start, Root, Ask, End, numbers_fit, names_fit, line_of}
use Rattle.xc_source_script.specs.SourceText.{begun, breaks_roots, commands_began, ending, follows, is_root, kinds}
use Rattle.xc_source_script.specs.SourceText.{misplaced, moved, rules, source_of, step, step_by}
use Rattle.xc_source_script.specs.Allowed.{is_allowed, IsSourceScript}

-- ---- roots

pub record IsNext (before : List Header) (covered : ℕ) (h : Header) : Type 0 where
  pub parent : h.parent ≡ None
  pub id : h.id == length before ≡ true
  pub range : nat_le h.lo h.hi ≡ true
  pub lo : h.lo == covered ≡ true

pub next_is : (before : List Header) (covered : ℕ) (h : Header) → follows before covered h ≡ true → IsNext before covered h
next_is before covered h f =
    let p = and_parts (is_root h) (h.id == length before && (nat_le h.lo h.hi && h.lo == covered)) f in
    let q = and_parts (h.id == length before) (nat_le h.lo h.hi && h.lo == covered) p.1 in
    let r = and_parts (nat_le h.lo h.hi) (h.lo == covered) q.1 in
    record { parent = none_is h.parent p.0; id = q.0; range = r.0; lo = r.1 }

-- the rules hold of a root that follows and of more where they hold of more behind it
pub fits_on : (before more : List Header) (covered : ℕ) (h : Header) → IsNext before covered h
    → fit_from before (RootAt covered) (h ∷ more) ≡ fit_from (before ++ h ∷ []) (RootAt (h.hi + 1)) more
fits_on before more covered h is = rw (is.id, is.range, is.parent, is.lo) refl

-- the rules of all headers, where these roots stand first
abbrev pub Fitted : List Header → ℕ → Type 0
Fitted roots covered = (more : List Header) → fit_from [] (RootAt 0) (roots ++ more) ≡ fit_from roots (RootAt covered) more

fitted_on : (roots : List Header) (covered : ℕ) (h : Header) → IsNext roots covered h → Fitted roots covered
    → Fitted (roots ++ h ∷ []) (h.hi + 1)
fitted_on roots covered h is fitted = λ more.
    ap (fit_from [] (RootAt 0)) (append_assoc roots (h ∷ []) more) ∙ fitted (h ∷ more) ∙ fits_on roots more covered h is

fitted_whole : (roots : List Header) (covered : ℕ) → Fitted roots covered → covered == 65536 ≡ true → headers_fit roots ≡ true
unfolding headers_fit
fitted_whole roots covered fitted whole = ap (fit_from [] (RootAt 0)) (sym (append-nil roots)) ∙ fitted [] ∙ whole

few_le : (n : ℕ) → n ≤ 64 → nat_le n 64 ≡ true
few_le n h = grind (arith, nat_tests)

headers_are : (roots : List Header) (covered : ℕ) → Fitted roots covered → covered == 65536 ≡ true → length roots ≤ 64
    → are_headers roots ≡ true
unfolding are_headers
headers_are roots covered fitted whole few = and_from _ _ (few_le (length roots) few) (fitted_whole roots covered fitted whole)

-- ---- what the lines so far gave

-- behind the start
pub record IsInside (s : Reading) : Type 0 where
  pub start : s.script.start < 2 ^ 62
  pub fitted : Fitted s.script.roots s.covered
  pub roots : list_all is_root s.script.roots ≡ true
  pub few : length s.script.roots ≤ 64
  pub commands : list_all is_allowed s.script.commands ≡ true
  pub lines : length s.script.roots + length s.script.commands + 2 ≤ s.lines

-- behind so many lines, of which none named roots or commands
pub record IsEmpty (n : ℕ) (s : Reading) : Type 0 where
  pub roots : s.script.roots ≡ []
  pub commands : s.script.commands ≡ []
  pub covered : s.covered ≡ 0
  pub lines : s.lines ≡ n

pub record IsRooted (s : Reading) : Type 0 where
  pub inside : IsInside s
  pub commands : s.script.commands ≡ []

abbrev pub Shape : Stage → Reading → Type 0
Shape stage.First s = IsEmpty 0 s
Shape stage.Start s = IsEmpty 1 s
Shape stage.Roots s = IsRooted s
Shape stage.Commands s = IsInside s
Shape stage.Ended s = IsSourceScript s.script

pub record IsReading (s : Reading) : Type 0 where
  pub small : s.lines ≤ 65536
  pub shape : Shape s.stage s

pub begun_is : IsReading begun
begun_is = record { small = omega arith; shape = record { roots = refl; commands = refl; covered = refl; lines = refl } }

-- a line that breaks no rule
pub record Passes (s : Reading) (l : SourceLine) : Type 0 where
  pub place : misplaced s.stage l ≡ false
  pub numbers : numbers_fit l ≡ true
  pub names : names_fit l ≡ true
  pub roots : breaks_roots s l ≡ false
  pub few : nat_le 65536 s.lines ≡ false

pub passes : (s : Reading) (l : SourceLine) → AllFalse (kinds s l) → Passes s l
unfolding AllFalse
passes s l all =
    record { place = all.0; numbers = is_true _ all.1.0; names = is_true _ all.1.1.0; roots = all.1.1.1.0; few = all.1.1.1.1.0 }

-- ---- what one line more gives

from_first : (s : Reading) (v : Version) (st : Stage) → misplaced st (First v) ≡ false → Shape st s → IsEmpty 1 (moved s (First v))
from_first s v stage.First p shape =
    record { roots = shape.roots; commands = shape.commands; covered = shape.covered; lines = ap (λ n. n + 1) shape.lines }
from_first s v st p shape = absurd (true≢false p)

from_start : (s : Reading) (time : ℕ) (st : Stage) → misplaced st (Start time) ≡ false → is_moment time ≡ true → Shape st s
    → IsRooted (moved s (Start time))
from_start s time stage.Start p fit shape =
    let no_roots = shape.roots in
    let none = shape.commands in
    let covered = shape.covered in
    let lines = shape.lines in
    record {
      inside = record {
        start = lt_is time (2 ^ 62) fit;
        fitted = λ more. rw (no_roots, covered) refl;
        roots = rw no_roots refl;
        few = rw no_roots (omega arith);
        commands = rw none refl;
        lines = rw (no_roots, none, lines) (omega arith);
      };
      commands = none;
    }
from_start s time st p fit shape = absurd (true≢false p)

one_longer : {X : Type 0} (xs : List X) (x : X) → length (xs ++ x ∷ []) ≡ length xs + 1
one_longer xs x = length-append xs (x ∷ [])

few_more : (id before : ℕ) → id == before ≡ true → nat_lt id 64 ≡ true → before + 1 ≤ 64
few_more id before e h = grind (arith, nat_tests)

root_inside : (s : Reading) (h : Header) → header_numbers_fit h ≡ true → IsNext s.script.roots s.covered h → IsRooted s
    → IsRooted (moved s (Root h))
root_inside s h fit is rooted =
    let inside = rooted.inside in
    let longer = one_longer s.script.roots h in
    let id = (and_parts (nat_lt h.id 64) (nat_lt h.lo 65536 && (nat_lt h.hi 65536
    && option_map_or (λ parent. nat_lt parent 64) h.parent true)) fit).0 in
    let few = few_more h.id (length s.script.roots) is.id id in
    let lines = inside.lines in
    record {
      inside = record {
        start = inside.start;
        fitted = fitted_on s.script.roots s.covered h is inside.fitted;
        roots = all_with is_root s.script.roots h inside.roots (ap is_none is.parent);
        few = omega (arith, longer, few);
        commands = inside.commands;
        lines = omega (arith, longer, lines);
      };
      commands = rooted.commands;
    }

from_root : (s : Reading) (h : Header) (st : Stage) → s.stage ≡ st → misplaced st (Root h) ≡ false → Passes s (Root h) → Shape st s
    → IsRooted (moved s (Root h))
from_root s h stage.Roots is p fit shape =
    let parts = or_none (commands_began s.stage) (not (follows s.script.roots s.covered h)) fit.roots in
    root_inside s h fit.numbers (next_is s.script.roots s.covered h (is_true _ parts.1)) shape
from_root s h stage.Commands is p fit shape =
    let parts = or_none (commands_began s.stage) (not (follows s.script.roots s.covered h)) fit.roots in
    absurd (true≢false (ap commands_began (sym is) ∙ parts.0))
from_root s h st is p fit shape = absurd (true≢false p)

inner_inside : (s : Reading) (c : SourceCommand) (st : Stage) → misplaced st (Ask c) ≡ false → Shape st s → IsInside s
inner_inside s c stage.Roots p shape = shape.inside
inner_inside s c stage.Commands p shape = shape
inner_inside s c st p shape = absurd (true≢false p)

end_inside : (s : Reading) (st : Stage) → misplaced st End ≡ false → Shape st s → IsInside s
end_inside s stage.Roots p shape = shape.inside
end_inside s stage.Commands p shape = shape
end_inside s st p shape = absurd (true≢false p)

from_ask : (s : Reading) (c : SourceCommand) → Passes s (Ask c) → IsInside s → IsInside (moved s (Ask c))
from_ask s c fit inside = record {
  start = inside.start;
  fitted = inside.fitted;
  roots = inside.roots;
  few = inside.few;
  commands = all_with is_allowed s.script.commands c inside.commands (and_from _ _ fit.numbers fit.names);
  lines = let lines = inside.lines in let longer = one_longer s.script.commands c in omega (arith, lines, longer);
}

from_end : (s : Reading) → Passes s End → IsInside s → IsSourceScript s.script
from_end s fit inside = record {
  start = inside.start;
  headers = headers_are s.script.roots s.covered inside.fitted (is_true _ fit.roots) inside.few;
  roots = inside.roots;
  commands = inside.commands;
  lines = let lines = inside.lines in let below = is_below s.lines 65536 fit.few in omega (arith, lines, below);
}

more : (s : Reading) → nat_le 65536 s.lines ≡ false → s.lines + 1 ≤ 65536
more s few = let below = is_below s.lines 65536 few in omega (arith, below)

moved_is : (s : Reading) (l : SourceLine) → Passes s l → IsReading s → IsReading (moved s l)
moved_is s (First v) fit is = record { small = more s fit.few; shape = from_first s v s.stage fit.place is.shape }
moved_is s (Start time) fit is = record { small = more s fit.few; shape = from_start s time s.stage fit.place fit.numbers is.shape }
moved_is s (Root h) fit is = record { small = more s fit.few; shape = from_root s h s.stage refl fit.place fit is.shape }
moved_is s (Ask c) fit is = record { small = more s fit.few; shape = from_ask s c fit (inner_inside s c s.stage fit.place is.shape) }
moved_is s End fit is = record { small = more s fit.few; shape = from_end s fit (end_inside s s.stage fit.place is.shape) }

step_cases : (s : Reading) (o : Option SourceLine) (after : Reading) → IsReading s → step_by s o ≡ Ok after → IsReading after
step_cases s None after is e = cc
step_cases s (Some l) after is e =
    let fit = passed (kinds s l) (moved s l) after e in subst IsReading fit.1 (moved_is s l (passes s l fit.0) is)

-- what a step gives may be said
pub step_keeps : (s : Reading) (bytes : List ℕ) (after : Reading) → IsReading s → step s bytes ≡ Ok after → IsReading after
unfolding step
step_keeps s bytes after is e = step_cases s (line_of s.version (split_on 32 bytes)) after is e

-- ---- the whole text

ending_allowed : (s : Reading) (st : Stage) (script : SourceScript) → Shape st s → ending st s ≡ Ok script → IsSourceScript script
ending_allowed s stage.Ended script shape e = subst IsSourceScript (ok_is s.script script e) shape
ending_allowed s st script shape e = cc

pub script_allowed : (text : List ℕ) (script : SourceScript) → source_of text ≡ Ok script → IsSourceScript script
unfolding source_of
script_allowed text script e =
    (lines_found rules (λ s before. IsReading s) (λ script words. IsSourceScript script)
    (λ s after before bytes kept is. step_keeps s bytes after kept is)
    (λ s before script kept is. ending_allowed s s.stage script kept.shape is)
    begun [] (split_on 10 text) script begun_is e).spelled
