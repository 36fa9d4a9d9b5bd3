-- A text that spells a source script is read as that script.
use Rattle.std.proofs.Common.{◌≡◌, ℕ, ◌+◌, ◌^◌, ◌<◌, ◌≤◌, true, false, not, nat_le, List, [], ◌∷◌, ◌++◌, length}
use Rattle.std.proofs.Common.{map, Some, None, Ok, refl, sym, ap, ◌∙◌, append_assoc, codes, decimal, arith}
use Rattle.std.specs.List.{list_all, join_with_byte}
use Rattle.std.proofs.lemmas.Bool.{false≢true, and_parts, and_from}
use Rattle.std.proofs.lemmas.Bool.Decides.{nat_tests}
use Rattle.std.proofs.lemmas.List.{append-nil, length-append}
use Rattle.std.proofs.lemmas.List.Folds.{list_all-append}
use Rattle.xc_base.specs.Words.{split_on}
use Rattle.xc_record.specs.Headers.{are_headers, fit_from, headers_fit}
use Rattle.xc_record.specs.declared.record.Header.{Header}
use Rattle.xc_record.specs.declared.headers.Next.TheVariants.{RootAt}
use Rattle.xc_script.specs.LineText.{lines_from}
use Rattle.xc_script.proofs.LineTextLaws.{ok_is, taken}
use Rattle.xc_script.proofs.SpelledWords.{above, bodies, decimal_is, is_lt, lines_back, words_back}
use Rattle.xc_source.specs.declared.command.SourceCommand.{SourceCommand}
use Rattle.xc_text.specs.declared.line.Version.{Version}
use Rattle.xc_text.specs.declared.line.Version.TheVariants.{One, Two}
use Rattle.xc_source_script.specs.declared.reading.Reading.{Reading}
use Rattle.xc_source_script.specs.declared.reading.Stage.{Stage}
use Rattle.xc_source_script.specs.declared.reading.Stage.TheVariants as stage
use Rattle.xc_source_script.specs.declared.script.SourceScript.{SourceScript}
use Rattle.xc_source_script.specs.Words.{SourceLine, First, Start, Root, Ask, End, command_numbers_fit, command_names_fit, line_of}
use Rattle.xc_source_script.specs.SourceText.{asked, begun, commands_began, is_inner, is_root, is_whole}
use Rattle.xc_source_script.specs.SourceText.{misplaced, moved, root_breaks, rooted, rules, source_of, step, step_by}
use Rattle.xc_source_script.specs.Allowed.{is_allowed, IsSourceScript}
use Rattle.xc_source_script.specs.Spelled.{command_words, command_spelled, root_words, source_words, version_word, SpelledIsRead, SpellsOne}
use Rattle.xc_source_script.proofs.AllowedLaws.{IsNext, Passes}
use Rattle.xc_source_script.proofs.StepLaws.{place_ask}
use Rattle.xc_source_script.proofs.SpelledWords.{command_said, first_is, follows_is, root_numbers, root_said, within_hashes}

-- ---- one line

goes : (s : Reading) (l : SourceLine) → Passes s l → step_by s (Some l) ≡ Ok (moved s l)
goes s l p = rw (p.place, p.numbers, p.names, p.roots, p.few) refl

step_is : (s : Reading) (word : List ℕ) (words : List (List ℕ)) (l : SourceLine) → list_all above (word ∷ words) ≡ true
    → line_of s.version (word ∷ words) ≡ Some l
    → Passes s l → step s (join_with_byte 32 (word ∷ words)) ≡ Ok (moved s l)
unfolding step
step_is s word words l clear is p =
    ap (λ words. step_by s (line_of s.version words)) (words_back word words clear) ∙ ap (step_by s) is ∙ goes s l p

below_limit : (n : ℕ) → n + 1 ≤ 65536 → nat_le 65536 n ≡ false
below_limit n h = grind (arith, nat_tests)

-- ---- commands

-- what is left to say fits behind what is read
record Left (s : Reading) (cs : List SourceCommand) : Type 0 where
  inner : is_inner s.stage ≡ true
  whole : is_whole s ≡ true
  allowed : list_all is_allowed cs ≡ true
  spelled : list_all (command_spelled s.version) cs ≡ true
  lines : s.lines + length cs + 1 ≤ 65536

place_end : (st : Stage) → is_inner st ≡ true → misplaced st End ≡ false
place_end stage.Roots h = refl
place_end stage.Commands h = refl
place_end st h = absurd (false≢true h)

end_line : (v : Version) → line_of v (codes "end" ∷ []) ≡ Some End
unfolding line_of
end_line v = refl

no_line : (v : Version) → line_of v [] ≡ None
unfolding line_of
no_line v = refl

command_step : (s : Reading) (c : SourceCommand) (cs : List SourceCommand) → Left s (c ∷ cs)
    → step s (join_with_byte 32 (command_words s.version c)) ≡ Ok (asked s c)
command_step s c cs left =
    let spelled = and_parts (command_spelled s.version c) (list_all (command_spelled s.version) cs) left.spelled in
    let allowed = and_parts (is_allowed c) (list_all is_allowed cs) left.allowed in
    let fit = and_parts (command_numbers_fit c) (command_names_fit c) allowed.0 in
    let said = command_said s.version c allowed.0 spelled.0 in
    let lines = left.lines in
    by (command_words s.version c) said.above said.line (record {
      place = place_ask s.stage c left.inner;
      numbers = fit.0;
      names = fit.1;
      roots = ap not left.whole;
      few = below_limit s.lines (omega (arith, lines));
    })
  where
    by : (words : List (List ℕ)) → list_all above words ≡ true → line_of s.version words ≡ Some (Ask c) → Passes s (Ask c)
        → step s (join_with_byte 32 words) ≡ Ok (moved s (Ask c))
    by [] clear is p = let none : None ≡ Some (Ask c) = sym (no_line s.version) ∙ is in cc
    by (word ∷ words) clear is p = step_is s word words _ clear is p

left_next : (s : Reading) (c : SourceCommand) (cs : List SourceCommand) → Left s (c ∷ cs) → Left (asked s c) cs
left_next s c cs left =
    let lines = left.lines in
    record {
      inner = refl;
      whole = left.whole;
      allowed = (and_parts (is_allowed c) (list_all is_allowed cs) left.allowed).1;
      spelled = (and_parts (command_spelled s.version c) (list_all (command_spelled s.version) cs) left.spelled).1;
      lines = omega (arith, lines);
    }

abbrev with_commands : SourceScript → List SourceCommand → SourceScript
with_commands script cs = record script { commands = cs }

abbrev tail_of : Version → List SourceCommand → List (List (List ℕ))
tail_of v cs = map (command_words v) cs ++ (codes "end" ∷ []) ∷ []

commands_run : (s : Reading) (cs : List SourceCommand) → Left s cs
    → lines_from rules s (bodies (tail_of s.version cs) ++ [] ∷ []) ≡ Ok (with_commands s.script (s.script.commands ++ cs))
commands_run s [] left =
    let lines = left.lines in
    let passes : Passes s End = record {
      place = place_end s.stage left.inner;
      numbers = refl;
      names = refl;
      roots = ap not left.whole;
      few = below_limit s.lines (omega (arith, lines));
    } in
    taken rules s (moved s End) (codes "end") [] [] (step_is s (codes "end") [] End refl (end_line s.version) passes)
    ∙ ap (λ cs. Ok (with_commands s.script cs)) (sym (append-nil s.script.commands))
commands_run s (c ∷ cs) left =
    taken rules s (asked s c) (join_with_byte 32 (command_words s.version c)) (bodies (tail_of s.version cs)) [] (command_step s c cs left)
    ∙ commands_run (asked s c) cs (left_next s c cs left)
    ∙ ap (λ cs. Ok (with_commands s.script cs)) (append_assoc s.script.commands (c ∷ []) cs)

commands_above : (v : Version) (cs : List SourceCommand) → list_all is_allowed cs ≡ true → list_all (command_spelled v) cs ≡ true
    → list_all (list_all above) (map (command_words v) cs) ≡ true
commands_above v [] all spelled = refl
commands_above v (c ∷ cs) all spelled =
    let p = and_parts (is_allowed c) (list_all is_allowed cs) all in
    let q = and_parts (command_spelled v c) (list_all (command_spelled v) cs) spelled in
    and_from _ _ (command_said v c p.0 q.0).above (commands_above v cs p.1 q.1)

-- ---- the roots

-- what roots and commands are left to say fits behind what is read
record LeftRoots (s : Reading) (hs : List Header) (cs : List SourceCommand) : Type 0 where
  roots_may : s.stage ≡ stage.Roots
  roots : list_all is_root hs ≡ true
  fit : fit_from s.script.roots (RootAt s.covered) hs ≡ true
  few : length s.script.roots + length hs ≤ 64
  allowed : list_all is_allowed cs ≡ true
  spelled : list_all (command_spelled s.version) cs ≡ true
  lines : s.lines + length hs + length cs + 1 ≤ 65536

abbrev with_both : SourceScript → List Header → List SourceCommand → SourceScript
with_both script hs cs = record script { roots = hs; commands = cs }

root_fits : (s : Reading) (h : Header) → s.stage ≡ stage.Roots → IsNext s.script.roots s.covered h → root_breaks s h ≡ false
root_fits s h is next = rw (ap commands_began is, follows_is s.script.roots s.covered h next) refl

root_place : (st : Stage) (h : Header) → st ≡ stage.Roots → misplaced st (Root h) ≡ false
root_place st h is = ap (λ st. misplaced st (Root h)) is

-- a root and those behind it
record RootStep (s : Reading) (h : Header) (hs : List Header) (cs : List SourceCommand) : Type 0 where
  step : step s (join_with_byte 32 (root_words h)) ≡ Ok (rooted s h)
  left : LeftRoots (rooted s h) hs cs

root_step : (s : Reading) (h : Header) (hs : List Header) (cs : List SourceCommand) → LeftRoots s (h ∷ hs) cs → RootStep s h hs cs
root_step s h hs cs left =
    let p = and_parts (is_root h) (list_all is_root hs) left.roots in
    let first = first_is s.script.roots s.covered h hs p.0 left.fit in
    let high = within_hashes (s.script.roots ++ h ∷ []) (h.hi + 1) hs p.1 first.rest in
    let few = left.few in
    let numbers = root_numbers s.script.roots s.covered h first.next (omega (arith, few)) high in
    let said = root_said s.version h numbers first.next.parent in
    let lines = left.lines in
    let longer : length (s.script.roots ++ h ∷ []) ≡ length s.script.roots + 1 = length-append s.script.roots (h ∷ []) in
    record {
      step = step_is s (codes "tablet") (decimal h.id ∷ decimal h.lo ∷ decimal h.hi ∷ codes "root" ∷ []) (Root h) said.above said.line
          (record {
            place = root_place s.stage h left.roots_may;
            numbers = numbers;
            names = refl;
            roots = root_fits s h left.roots_may first.next;
            few = below_limit s.lines (omega (arith, lines));
          });
      left = record {
        roots_may = refl;
        roots = p.1;
        fit = first.rest;
        few = omega (arith, few, longer);
        allowed = left.allowed;
        spelled = left.spelled;
        lines = omega (arith, lines);
      };
    }

roots_run : (s : Reading) (hs : List Header) (cs : List SourceCommand) → LeftRoots s hs cs
    → lines_from rules s (bodies (map root_words hs ++ tail_of s.version cs) ++ [] ∷ [])
    ≡ Ok (with_both s.script (s.script.roots ++ hs) (s.script.commands ++ cs))
roots_run s [] cs left =
    let lines = left.lines in
    commands_run s cs (record {
      inner = ap is_inner left.roots_may;
      whole = left.fit;
      allowed = left.allowed;
      spelled = left.spelled;
      lines = omega (arith, lines);
    }) ∙ ap (λ hs. Ok (with_both s.script hs (s.script.commands ++ cs))) (sym (append-nil s.script.roots))
roots_run s (h ∷ hs) cs left =
    let one = root_step s h hs cs left in
    taken rules s (rooted s h) (join_with_byte 32 (root_words h)) (bodies (map root_words hs ++ tail_of s.version cs)) [] one.step
    ∙ roots_run (rooted s h) hs cs one.left
    ∙ ap (λ hs. Ok (with_both s.script hs (s.script.commands ++ cs))) (append_assoc s.script.roots (h ∷ []) hs)

roots_above : (v : Version) (before : List Header) (covered : ℕ) (hs : List Header) → list_all is_root hs ≡ true
    → fit_from before (RootAt covered) hs ≡ true → length before + length hs ≤ 64 → list_all (list_all above) (map root_words hs) ≡ true
roots_above v before covered [] roots fit few = refl
roots_above v before covered (h ∷ hs) roots fit few =
    let p = and_parts (is_root h) (list_all is_root hs) roots in
    let first = first_is before covered h hs p.0 fit in
    let high = within_hashes (before ++ h ∷ []) (h.hi + 1) hs p.1 first.rest in
    let longer : length (before ++ h ∷ []) ≡ length before + 1 = length-append before (h ∷ []) in
    let numbers = root_numbers before covered h first.next (omega (arith, few)) high in
    and_from _ _ (root_said v h numbers first.next.parent).above
    (roots_above v (before ++ h ∷ []) (h.hi + 1) hs p.1 first.rest (omega (arith, few, longer)))

-- ---- the first lines

first_words : (v : Version) → list_all above (codes "xcsource" ∷ version_word v ∷ []) ≡ true
first_words One = refl
first_words Two = refl

first_line : (v : Version) → line_of One (codes "xcsource" ∷ version_word v ∷ []) ≡ Some (First v)
unfolding line_of
first_line One = refl
first_line Two = refl

start_line : (v : Version) (time : ℕ) → time < 2 ^ 62 → line_of v (codes "start" ∷ decimal time ∷ []) ≡ Some (Start time)
unfolding line_of
start_line v time h = let a = decimal_is time (omega (arith, h)) in rw (a.word, a.number) refl

start_above : (time : ℕ) → time < 2 ^ 62 → list_all above (codes "start" ∷ decimal time ∷ []) ≡ true
start_above time h = let a = decimal_is time (omega (arith, h)) in rw a.above refl

-- ---- the whole text

abbrev named : Version → Reading
named v = moved begun (First v)

abbrev started : Version → ℕ → Reading
started v time = moved (named v) (Start time)

few_le : (n : ℕ) → nat_le n 64 ≡ true → n ≤ 64
few_le n h = grind (arith, nat_tests)

record AreRoots (hs : List Header) : Type 0 where
  few : length hs ≤ 64
  fit : fit_from [] (RootAt 0) hs ≡ true

roots_are : (hs : List Header) → are_headers hs ≡ true → AreRoots hs
unfolding are_headers headers_fit
roots_are hs h = let p = and_parts (nat_le (length hs) 64) (fit_from [] (RootAt 0) hs) h in record { few = few_le _ p.0; fit = p.1 }

head_run : (v : Version) (script : SourceScript) → IsSourceScript script → list_all (command_spelled v) script.commands ≡ true
    → lines_from rules begun (bodies (source_words v script) ++ [] ∷ []) ≡ Ok script
head_run v script is spelled =
    let are = roots_are script.roots is.headers in
    let lines = is.lines in
    let few = are.few in
    let first : Passes begun (First v) = record { place = refl; numbers = refl; names = refl; roots = refl; few = refl } in
    let second : Passes (named v) (Start script.start) =
    record { place = refl; numbers = is_lt script.start (2 ^ 62) is.start; names = refl; roots = refl; few = refl } in
    taken rules begun (named v) (join_with_byte 32 (codes "xcsource" ∷ version_word v ∷ []))
    (bodies ((codes "start" ∷ decimal script.start ∷ []) ∷ (map root_words script.roots ++ tail_of v script.commands))) []
    (step_is begun (codes "xcsource") (version_word v ∷ []) (First v) (first_words v) (first_line v) first)
    ∙ taken rules (named v) (started v script.start) (join_with_byte 32 (codes "start" ∷ decimal script.start ∷ []))
    (bodies (map root_words script.roots ++ tail_of v script.commands)) []
    (step_is (named v) (codes "start") (decimal script.start ∷ []) (Start script.start) (start_above script.start is.start)
    (start_line v script.start is.start) second)
    ∙ roots_run (started v script.start) script.roots script.commands (record {
      roots_may = refl;
      roots = is.roots;
      fit = are.fit;
      few = omega (arith, few);
      allowed = is.commands;
      spelled = spelled;
      lines = omega (arith, lines);
    })

source_above : (v : Version) (script : SourceScript) → IsSourceScript script → list_all (command_spelled v) script.commands ≡ true
    → list_all (list_all above) (source_words v script) ≡ true
source_above v script is spelled =
    let are = roots_are script.roots is.headers in
    let few = are.few in
    let tail : list_all (list_all above) (tail_of v script.commands) ≡ true =
    list_all-append (list_all above) (map (command_words v) script.commands) ((codes "end" ∷ []) ∷ [])
    ∙ and_from _ _ (commands_above v script.commands is.commands spelled) refl in
    let rest : list_all (list_all above) (map root_words script.roots ++ tail_of v script.commands) ≡ true =
    list_all-append (list_all above) (map root_words script.roots) (tail_of v script.commands)
    ∙ and_from _ _ (roots_above v [] 0 script.roots is.roots are.fit (omega (arith, few))) tail in
    and_from _ _ (first_words v) (and_from _ _ (start_above script.start is.start) rest)

pub spelled_is_read : SpelledIsRead
unfolding source_of
spelled_is_read text script spells =
    ap (λ text. lines_from rules begun (split_on 10 text)) spells.lines
    ∙ ap (lines_from rules begun) (lines_back (codes "xcsource" ∷ version_word spells.version ∷ [])
    ((codes "start" ∷ decimal script.start ∷ []) ∷ (map root_words script.roots ++ tail_of spells.version script.commands))
    (source_above spells.version script spells.allowed spells.spelled))
    ∙ head_run spells.version script spells.allowed spells.spelled

pub spells_one : SpellsOne
spells_one text script other one two =
    ok_is script other (sym (spelled_is_read text script one) ∙ spelled_is_read text other two)
