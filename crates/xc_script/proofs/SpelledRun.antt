-- A text that spells a script is read as that script.
use Rattle.std.proofs.Common.{◌≡◌, ℕ, ◌+◌, ◌^◌, ◌<◌, ◌≤◌, ◌==◌, Bool, true, false, ◌&&◌, not, nat_le, nat_lt, List, [], ◌∷◌, ◌++◌, length}
use Rattle.std.proofs.Common.{map, Some, None, Ok, refl, sym, ap, subst, ◌∙◌, append_assoc, codes, decimal, arith}
use Rattle.std.specs.Prelude.{count_by, cond}
use Rattle.std.specs.List.{list_all, AllByRecursion, join_with_byte}
use Rattle.std.proofs.lemmas.Bool.{true≢false, false≢true, and_parts, and_from}
use Rattle.std.proofs.lemmas.Bool.Decides.{nat_tests}
use Rattle.std.proofs.lemmas.List.{append-nil, length-map}
use Rattle.std.proofs.lemmas.List.Folds.{list_all-append}
use Rattle.std.proofs.lemmas.List.Sums.{sum_by-append}
use Rattle.xc_base.specs.Names.{is_key}
use Rattle.xc_base.specs.Words.{split_on}
use Rattle.xc_record.specs.Bounds.{are_bounds, rises_from}
use Rattle.xc_record.specs.declared.session.Command.{Command}
use Rattle.xc_record.specs.declared.session.Command.TheVariants as command
use Rattle.xc_script.specs.declared.reading.Reading.{Reading}
use Rattle.xc_script.specs.declared.reading.Stage.{Stage}
use Rattle.xc_script.specs.declared.reading.Stage.TheVariants as stage
use Rattle.xc_script.specs.declared.reading.Version.{Version}
use Rattle.xc_script.specs.declared.reading.Version.TheVariants.{One, Two}
use Rattle.xc_script.specs.declared.script.Script.{Script}
use Rattle.xc_script.specs.LineText.{lines_from}
use Rattle.xc_script.specs.Words.{ScriptLine, First, Target, Watch, Ask, End, is_word, is_hash, key_fits, key_of, all_numbers, line_of}
use Rattle.xc_script.specs.ScriptText.{asked, begun, is_drain, is_inner, is_scan, is_too_many, misplaced, moved, rules}
use Rattle.xc_script.specs.ScriptText.{script_of, step, step_by}
use Rattle.xc_script.specs.Allowed.{IsAllowed, IsScript, watch_lines}
use Rattle.xc_script.specs.Spelled.{key_word, is_nameable, command_words, command_is_nameable, version_word, watch_words, script_words}
use Rattle.xc_script.specs.Spelled.{SpelledIsRead, SpellsOne}
use Rattle.xc_script.proofs.AllowedLaws.{Passes}
use Rattle.xc_script.proofs.LineTextLaws.{ok_is, taken}
use Rattle.xc_script.proofs.StepLaws.{place_inner}
use Rattle.xc_script.proofs.SpelledWords.{above, bodies, command_said, command_keyed, room_written, decimal_is, key_is, lines_back}
use Rattle.xc_script.proofs.SpelledWords.{words_back, written}

-- ---- one line

goes : (s : Reading) (l : ScriptLine) → Passes s l → step_by s (Some l) ≡ Ok (moved s l)
goes s l p = rw (p.place, p.numbers, p.keys, p.bounds, p.known, p.few, p.room) refl

step_is : (s : Reading) (word : List ℕ) (words : List (List ℕ)) (l : ScriptLine) → list_all above (word ∷ words) ≡ true
    → line_of (word ∷ words) ≡ Some l
    → Passes s l → step s (join_with_byte 32 (word ∷ words)) ≡ Ok (moved s l)
unfolding step
step_is s word words l clear is p = ap (λ words. step_by s (line_of words)) (words_back word words clear) ∙ ap (step_by s) is ∙ goes s l p

below_limit : (n : ℕ) → n + 1 ≤ 65536 → nat_le 65536 n ≡ false
below_limit n h = grind (arith, nat_tests)

-- ---- commands

-- where at most so many are counted with this one, fewer are counted before it
fewer_before : (is : Command → Bool) (most : ℕ) (before : List Command) (c : Command) (cs : List Command) → is c ≡ true
    → count_by is (before ++ c ∷ cs) ≤ most → nat_le most (count_by is before) ≡ false
fewer_before is most before c cs one h =
    let whole : count_by is (before ++ c ∷ cs) ≡ count_by is before + count_by is (c ∷ cs)
    = sum_by-append (λ x. cond (is x) 1 0) before (c ∷ cs) in
    let more : count_by is (c ∷ cs) ≡ count_by is (c ∷ []) + count_by is cs = sum_by-append (λ x. cond (is x) 1 0) (c ∷ []) cs in
    let first : count_by is (c ∷ []) ≡ 1 = ap (λ b. 0 + cond b 1 0) one in
    grind (arith, nat_tests)

room_before : (before : List Command) (c : Command) (cs : List Command) → count_by is_scan (before ++ c ∷ cs) ≤ 8
    → count_by is_drain (before ++ c ∷ cs) ≤ 64
    → is_too_many before (Ask c) ≡ false
room_before before command.Scan cs scans drains = fewer_before is_scan 8 before command.Scan cs refl scans
room_before before command.Drain cs scans drains = fewer_before is_drain 64 before command.Drain cs refl drains
room_before before c cs scans drains = refl

-- what is left to ask fits behind what is read
record Left (s : Reading) (cs : List Command) : Type 0 where
  inner : is_inner s.stage ≡ true
  targets : length s.script.bounds ≤ 16
  allowed : AllByRecursion (IsAllowed s.sources (length s.script.bounds)) cs
  nameable : list_all (command_is_nameable s.version) cs ≡ true
  scans : count_by is_scan (s.script.commands ++ cs) ≤ 8
  drains : count_by is_drain (s.script.commands ++ cs) ≤ 64
  lines : s.lines + length cs + 1 ≤ 65536

place_end : (st : Stage) → is_inner st ≡ true → misplaced st End ≡ false
place_end stage.Watch h = refl
place_end stage.Commands h = refl
place_end st h = absurd (false≢true h)

end_line : line_of (codes "end" ∷ []) ≡ Some End
unfolding line_of
end_line = refl

end_passes : (s : Reading) → is_inner s.stage ≡ true → s.lines + 1 ≤ 65536 → Passes s End
end_passes s inner lines =
    record {
      place = place_end s.stage inner;
      numbers = refl;
      keys = refl;
      bounds = refl;
      known = refl;
      few = below_limit s.lines lines;
      room = refl;
    }

no_line : line_of [] ≡ None
unfolding line_of
no_line = refl

command_step : (s : Reading) (c : Command) (cs : List Command) → Left s (c ∷ cs)
    → step s (join_with_byte 32 (command_words s.version c)) ≡ Ok (asked s c)
command_step s c cs left =
    let name = and_parts (command_is_nameable s.version c) (list_all (command_is_nameable s.version) cs) left.nameable in
    let said = command_said s.version s.sources (length s.script.bounds) c left.targets left.allowed.0 name.0 in
    let keyed = command_keyed s.version s.sources (length s.script.bounds) c left.allowed.0 name.0 in
    let lines = left.lines in
    let passes : Passes s (Ask (written s.version c)) = record {
      place = place_inner s.stage (written s.version c) left.inner;
      numbers = said.numbers;
      keys = keyed.fits;
      bounds = refl;
      known = said.known;
      few = below_limit s.lines (omega (arith, lines));
      room = room_written s.version s.script.commands c ∙ room_before s.script.commands c cs left.scans left.drains;
    } in
    by (command_words s.version c) said.above said.line passes ∙ ap (λ c. Ok (asked s c)) keyed.same
  where
    by : (words : List (List ℕ)) → list_all above words ≡ true → line_of words ≡ Some (Ask (written s.version c))
        → Passes s (Ask (written s.version c))
        → step s (join_with_byte 32 words) ≡ Ok (moved s (Ask (written s.version c)))
    by [] clear is p = let none : None ≡ Some (Ask (written s.version c)) = sym no_line ∙ is in cc
    by (word ∷ words) clear is p = step_is s word words _ clear is p

left_next : (s : Reading) (c : Command) (cs : List Command) → Left s (c ∷ cs) → Left (asked s c) cs
left_next s c cs left =
    let same : (s.script.commands ++ c ∷ []) ++ cs ≡ s.script.commands ++ c ∷ cs = append_assoc s.script.commands (c ∷ []) cs in
    let lines = left.lines in
    record {
      inner = refl;
      targets = left.targets;
      allowed = left.allowed.1;
      nameable = (and_parts (command_is_nameable s.version c) (list_all (command_is_nameable s.version) cs) left.nameable).1;
      scans = rw same left.scans;
      drains = rw same left.drains;
      lines = omega (arith, lines);
    }

abbrev with_commands : Script → List Command → Script
with_commands script cs = record script { commands = cs }

commands_run : (s : Reading) (cs : List Command) → Left s cs
    → lines_from rules s (bodies (map (command_words s.version) cs ++ (codes "end" ∷ []) ∷ []) ++ [] ∷ []) ≡ Ok (with_commands s.script
    (s.script.commands ++ cs))
commands_run s [] left =
    let lines = left.lines in
    let step_end = step_is s (codes "end") [] End refl end_line (end_passes s left.inner (omega (arith, lines))) in
    taken rules s (moved s End) (codes "end") [] [] step_end
    ∙ ap (λ cs. Ok (with_commands s.script cs)) (sym (append-nil s.script.commands))
commands_run s (c ∷ cs) left =
    taken rules s (asked s c) (join_with_byte 32 (command_words s.version c)) (bodies (map (command_words s.version) cs ++
    (codes "end" ∷ []) ∷ [])) [] (command_step s c cs left)
    ∙ commands_run (asked s c) cs (left_next s c cs left)
    ∙ ap (λ cs. Ok (with_commands s.script cs)) (append_assoc s.script.commands (c ∷ []) cs)

commands_above : (v : Version) (sources targets : ℕ) (cs : List Command) → targets ≤ 16 → AllByRecursion (IsAllowed sources targets) cs
    → list_all (command_is_nameable v) cs ≡ true → list_all (list_all above) (map (command_words v) cs) ≡ true
commands_above v sources targets [] few all name = refl
commands_above v sources targets (c ∷ cs) few all name =
    let p = and_parts (command_is_nameable v c) (list_all (command_is_nameable v) cs) name in
    and_from _ _ (command_said v sources targets c few all.0 p.0).above (commands_above v sources targets cs few all.1 p.1)

-- ---- the bounds

rising : (before : ℕ) (bounds : List ℕ) → rises_from before bounds ≡ true → list_all is_hash bounds ≡ true
rising before [] h = refl
rising before (b ∷ bounds) h =
    let p = and_parts (nat_lt before b) (nat_lt b 65536 && rises_from b bounds) h in
    let q = and_parts (nat_lt b 65536) (rises_from b bounds) p.1 in
    and_from _ _ q.0 (rising b bounds q.1)

hash_small : (b : ℕ) → is_hash b ≡ true → b < 2 ^ 64
hash_small b h = grind (arith, nat_tests)

zero_hash : (b : ℕ) → b == 0 ≡ true → is_hash b ≡ true
zero_hash b h = grind (arith, nat_tests)

few_bounds : (n : ℕ) → nat_le n 16 ≡ true → n ≤ 16
few_bounds n h = grind (arith, nat_tests)

abbrev is_none_of : List ℕ → Bool
is_none_of [] = true
is_none_of (b ∷ bounds) = false

record AreBounds (bounds : List ℕ) : Type 0 where
  hashes : list_all is_hash bounds ≡ true
  few : length bounds ≤ 16
  some : is_none_of bounds ≡ false

bounds_are : (bounds : List ℕ) → are_bounds bounds ≡ true → AreBounds bounds
unfolding are_bounds
bounds_are [] h = absurd (false≢true h)
bounds_are (b ∷ bounds) h =
    let p = and_parts (b == 0 && rises_from 0 bounds) (nat_le (length (b ∷ bounds)) 16) h in
    let q = and_parts (b == 0) (rises_from 0 bounds) p.0 in
    record { hashes = and_from _ _ (zero_hash b q.0) (rising 0 bounds q.1); few = few_bounds _ p.1; some = refl }

record AreNumbers (ns : List ℕ) : Type 0 where
  numbers : all_numbers (map decimal ns) ≡ Some ns
  words : list_all is_word (map decimal ns) ≡ true
  above : list_all above (map decimal ns) ≡ true

numbers_are : (ns : List ℕ) → list_all is_hash ns ≡ true → AreNumbers ns
numbers_are [] h = record { numbers = refl; words = refl; above = refl }
numbers_are (n ∷ ns) h =
    let p = and_parts (is_hash n) (list_all is_hash ns) h in
    let one = decimal_is n (hash_small n p.0) in
    let more = numbers_are ns p.1 in
    record {
      numbers = rw (one.number, more.numbers) refl;
      words = and_from _ _ one.word more.words;
      above = and_from _ _ one.above more.above;
    }

target_line : (bounds : List ℕ) → AreBounds bounds → AreNumbers bounds
    → line_of (codes "target" ∷ map decimal bounds) ≡ Some (Target bounds)
unfolding line_of
target_line [] are ns = absurd (true≢false are.some)
target_line (b ∷ bounds) are ns = rw (ns.words, ns.numbers) refl

-- ---- the watched keys

record AreKeys (v : Version) (keys : List (List ℕ)) : Type 0 where
  words : list_all is_word (map (key_word v) keys) ≡ true
  above : list_all above (map (key_word v) keys) ≡ true
  fit : list_all (key_fits v) (map (key_word v) keys) ≡ true
  same : map (key_of v) (map (key_word v) keys) ≡ keys

keys_are : (v : Version) (keys : List (List ℕ)) → list_all is_key keys ≡ true → list_all (is_nameable v) keys ≡ true → AreKeys v keys
keys_are v [] h k = record { words = refl; above = refl; fit = refl; same = refl }
keys_are v (key ∷ keys) h k =
    let p = and_parts (is_key key) (list_all is_key keys) h in
    let q = and_parts (is_nameable v key) (list_all (is_nameable v) keys) k in
    let one = key_is v key p.0 q.0 in
    let more = keys_are v keys p.1 q.1 in
    record {
      words = and_from _ _ one.word more.words;
      above = and_from _ _ one.above more.above;
      fit = and_from _ _ one.fits more.fit;
      same = both one.same more.same;
    }
  where
    both : {a b : List ℕ} {more others : List (List ℕ)} → a ≡ b → more ≡ others → a ∷ more ≡ b ∷ others
    both e f = cc

watch_line : (v : Version) (key : List ℕ) (keys : List (List ℕ)) → list_all is_word (map (key_word v) (key ∷ keys)) ≡ true
    → line_of (codes "watch" ∷ map (key_word v) (key ∷ keys)) ≡ Some (Watch (map (key_word v) (key ∷ keys)))
unfolding line_of
watch_line v key keys words = rw words refl

-- ---- the first line

first_words : (v : Version) → list_all above (codes "xcscript" ∷ version_word v ∷ []) ≡ true
first_words One = refl
first_words Two = refl

first_line : (v : Version) → line_of (codes "xcscript" ∷ version_word v ∷ []) ≡ Some (First v)
unfolding line_of
first_line One = refl
first_line Two = refl

-- ---- the whole text

-- behind the first line, and behind the bounds
abbrev named : ℕ → Version → Reading
named sources v = moved (begun sources) (First v)

abbrev bounded : ℕ → Version → List ℕ → Reading
bounded sources v bounds = moved (named sources v) (Target bounds)

few_keys : (n : ℕ) → n ≤ 16 → nat_lt 16 n ≡ false
few_keys n h = grind (arith, nat_tests)

abbrev tail_of : Version → List Command → List (List (List ℕ))
tail_of v cs = map (command_words v) cs ++ (codes "end" ∷ []) ∷ []

-- the watched keys, the commands and the last line, behind the bounds
watch_run : (sources : ℕ) (v : Version) (script : Script) → IsScript sources script → AreBounds script.bounds
    → list_all (is_nameable v) script.watched ≡ true
    → list_all (command_is_nameable v) script.commands ≡ true → (watched : List (List ℕ)) → script.watched ≡ watched
    → lines_from rules (bounded sources v script.bounds) (bodies (watch_words v watched ++ tail_of v script.commands) ++ [] ∷ [])
    ≡ Ok script
watch_run sources v script is are keys commands [] e =
    let lines = is.lines in
    let none : watch_lines script.watched ≡ 0 = ap watch_lines e in
    commands_run (bounded sources v script.bounds) script.commands (record {
      inner = refl;
      targets = are.few;
      allowed = is.commands;
      nameable = commands;
      scans = is.scans;
      drains = is.drains;
      lines = omega (arith, lines, none);
    }) ∙ ap (λ watched. Ok (record script { watched = watched })) (sym e)
watch_run sources v script is are keys commands (key ∷ rest) e =
    let lines = is.lines in
    let one : watch_lines script.watched ≡ 1 = ap watch_lines e in
    let few = is.watched in
    let ks = keys_are v (key ∷ rest) (subst (λ keys. list_all is_key keys ≡ true) e is.named) (subst
    (λ keys. list_all (is_nameable v) keys ≡ true) e keys) in
    let s = bounded sources v script.bounds in
    let words = map (key_word v) (key ∷ rest) in
    let size : length words ≡ length (key ∷ rest) = length-map (key ∷ rest) (key_word v) in
    let count : length script.watched ≡ length (key ∷ rest) = ap length e in
    let passes : Passes s (Watch words) = record {
      place = refl;
      numbers = refl;
      keys = ks.fit;
      bounds = refl;
      known = refl;
      few = refl;
      room = few_keys (length words) (omega (arith, few, size, count));
    } in
    let step_watch = step_is s (codes "watch") words (Watch words) (and_from _ _ refl ks.above) (watch_line v key rest ks.words) passes in
    taken rules s (moved s (Watch words)) (join_with_byte 32 (codes "watch" ∷ words)) (bodies (tail_of v script.commands)) [] step_watch
    ∙ commands_run (moved s (Watch words)) script.commands (record {
      inner = refl;
      targets = are.few;
      allowed = is.commands;
      nameable = commands;
      scans = is.scans;
      drains = is.drains;
      lines = omega (arith, lines, one);
    }) ∙ ap (λ watched. Ok (record script { watched = watched })) (ks.same ∙ sym e)

head_run : (sources : ℕ) (v : Version) (script : Script) → IsScript sources script → list_all (is_nameable v) script.watched ≡ true
    → list_all (command_is_nameable v) script.commands ≡ true
    → lines_from rules (begun sources) (bodies (script_words v script) ++ [] ∷ []) ≡ Ok script
head_run sources v script is keys commands =
    let are = bounds_are script.bounds is.bounds in
    let ns = numbers_are script.bounds are.hashes in
    let first : Passes (begun sources) (First v) = record {
      place = refl;
      numbers = refl;
      keys = refl;
      bounds = refl;
      known = refl;
      few =
          refl;
      room = refl;
    } in
    let second : Passes (named sources v) (Target script.bounds) =
    record { place = refl; numbers = are.hashes; keys = refl; bounds = ap not is.bounds; known = refl; few = refl; room = refl } in
    taken rules (begun sources) (named sources v) (join_with_byte 32 (codes "xcscript" ∷ version_word v ∷ []))
    (bodies ((codes "target" ∷ map decimal script.bounds) ∷ (watch_words v script.watched ++ tail_of v script.commands))) []
    (step_is (begun sources) (codes "xcscript") (version_word v ∷ []) (First v) (first_words v) (first_line v) first)
    ∙ taken rules (named sources v) (bounded sources v script.bounds) (join_with_byte 32 (codes "target" ∷ map decimal script.bounds))
    (bodies (watch_words v script.watched ++ tail_of v script.commands)) []
    (step_is (named sources v) (codes "target") (map decimal script.bounds) (Target script.bounds) (and_from _ _ refl ns.above)
    (target_line script.bounds are ns) second)
    ∙ watch_run sources v script is are keys commands script.watched refl

watch_above : (v : Version) (keys : List (List ℕ)) → AreKeys v keys → list_all (list_all above) (watch_words v keys) ≡ true
watch_above v [] are = refl
watch_above v (key ∷ keys) are = and_from _ _ (and_from _ _ refl are.above) refl

script_above : (sources : ℕ) (v : Version) (script : Script) → IsScript sources script → list_all (is_nameable v) script.watched ≡ true
    → list_all (command_is_nameable v) script.commands ≡ true → list_all (list_all above) (script_words v script) ≡ true
script_above sources v script is keys commands =
    let are = bounds_are script.bounds is.bounds in
    let ns = numbers_are script.bounds are.hashes in
    let tail : list_all (list_all above) (tail_of v script.commands) ≡ true =
    list_all-append (list_all above) (map (command_words v) script.commands) ((codes "end" ∷ []) ∷ [])
    ∙ and_from _ _ (commands_above v sources (length script.bounds) script.commands are.few is.commands commands) refl in
    let rest : list_all (list_all above) (watch_words v script.watched ++ tail_of v script.commands) ≡ true =
    list_all-append (list_all above) (watch_words v script.watched) (tail_of v script.commands)
    ∙ and_from _ _ (watch_above v script.watched (keys_are v script.watched is.named keys)) tail in
    and_from _ _ (first_words v) (and_from _ _ (and_from _ _ refl ns.above) rest)

pub spelled_is_read : SpelledIsRead
unfolding script_of
spelled_is_read sources text script spells =
    ap (λ text. lines_from rules (begun sources) (split_on 10 text)) spells.lines
    ∙ ap (lines_from rules (begun sources)) (lines_back (codes "xcscript" ∷ version_word spells.version ∷ [])
    ((codes "target" ∷ map decimal script.bounds) ∷ (watch_words spells.version script.watched ++ tail_of spells.version script.commands))
    (script_above sources spells.version script spells.allowed spells.watched spells.commands))
    ∙ head_run sources spells.version script spells.allowed spells.watched spells.commands

pub spells_one : SpellsOne
spells_one sources text script other one two =
    ok_is script other (sym (spelled_is_read sources text script one) ∙ spelled_is_read sources text other two)
