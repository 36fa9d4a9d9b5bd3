-- What the lines give may be asked: each line keeps it.
use Rattle.std.proofs.Common.{◌≡◌, ℕ, zero, suc, ◌+◌, ◌^◌, ◌<◌, ◌≤◌, Bool, true, false, ◌&&◌, ◌||◌, ◌==◌, not, nat_le, nat_lt, List, []}
use Rattle.std.proofs.Common.{◌∷◌, ◌++◌, length, map, Option, Some, None, Ok, option_map, slice_index, refl, sym, ap, subst}
use Rattle.std.proofs.Common.{◌∙◌, arith}
use Rattle.std.specs.Prelude.{if◌then◌else◌, is_none, count_by, cond}
use Rattle.std.specs.List.{list_all, AllByRecursion}
use Rattle.std.specs.Option.{option_map_or}
use Rattle.std.proofs.lemmas.Bool.{true≢false, false≢true, and_parts, and_from}
use Rattle.std.proofs.lemmas.Bool.Decides.{nat_tests}
use Rattle.std.proofs.lemmas.List.{length-map, length-append}
use Rattle.std.proofs.lemmas.List.Sums.{sum_by-append}
use Rattle.xc_base.specs.Names.{within, are_bytes, in_alphabet, is_key, length_fault}
use Rattle.xc_base.specs.declared.name.BadName.TheVariants.{Length, Byte}
use Rattle.xc_base.specs.Escapes.{is_digit, digit_value, begins_escape, begins_byte, escape_value, wrong_place, unescaped, unescaped_after}
use Rattle.xc_base.specs.Escapes.{word_fault}
use Rattle.xc_base.specs.Words.{split_on}
use Rattle.xc_base.proofs.NameLemmas.{key-no_fault}
use Rattle.xc_record.specs.Bounds.{are_bounds}
use Rattle.xc_record.specs.declared.session.Command.{Command}
use Rattle.xc_record.specs.declared.session.Command.TheVariants as command
use Rattle.xc_script.specs.declared.reading.Reading.{Reading}
use Rattle.xc_script.specs.declared.reading.Stage.{Stage}
use Rattle.xc_script.specs.declared.reading.Stage.TheVariants as stage
use Rattle.xc_script.specs.declared.reading.Version.{Version}
use Rattle.xc_script.specs.declared.reading.Version.TheVariants.{One, Two}
use Rattle.xc_script.specs.declared.script.Script.{Script}
use Rattle.xc_script.specs.Words.{ScriptLine, First, Target, Watch, Ask, End, key_fits, key_of, meant, command_numbers_fit}
use Rattle.xc_script.specs.Words.{command_key_fits, numbers_fit, keys_fit, line_of}
use Rattle.xc_script.specs.ScriptText.{begun, breaks_bounds, misplaced, is_unknown, is_too_many, is_scan, is_drain, kinds, moved}
use Rattle.xc_script.specs.ScriptText.{step, step_by, ending, rules, script_of}
use Rattle.xc_script.specs.Allowed.{IsSource, IsPoll, IsAllowed, IsScript, watch_lines}
use Rattle.xc_script.proofs.LineTextLaws.{AllFalse, lines_found, ok_is, passed}

-- ---- keys

digit_small : (b : ℕ) → is_digit b ≡ true → digit_value b ≤ 15
digit_small b h = grind (arith, nat_tests)

alphabet_small : (b : ℕ) → in_alphabet b ≡ true → nat_lt b 256 ≡ true
alphabet_small b h = grind (arith, nat_tests)

escape_small : (word : List ℕ) → begins_escape word ≡ true → nat_lt (escape_value word) 256 ≡ true
escape_small word h =
    let rest = (and_parts _ _ h).1 in
    let first = digit_small (slice_index word 1) (and_parts _ _ rest).0 in
    let second = digit_small (slice_index word 2) (and_parts _ _ (and_parts _ _ rest).1).0 in
    grind (arith, nat_tests)

no_later : (o : Option ℕ) → option_map (λ place. place + 1) o ≡ None → o ≡ None
no_later None h = refl
no_later (Some place) h = cc

record Right (b : ℕ) (word : List ℕ) : Type 0 where
  begins : begins_byte (b ∷ word) ≡ true
  later : wrong_place word ≡ None

right_first : (b : ℕ) (word : List ℕ) → wrong_place (b ∷ word) ≡ None → Right b word
right_first b word h = by (begins_byte (b ∷ word)) refl h
  where
    by : (c : Bool) → begins_byte (b ∷ word) ≡ c → (if c then option_map (λ place. place + 1) (wrong_place word) else Some 0) ≡ None
        → Right b word
    by true e h = record { begins = e; later = no_later (wrong_place word) h }
    by false e h = cc

escape_of : (b : ℕ) (word : List ℕ) → b == 37 ≡ true → begins_byte (b ∷ word) ≡ true → begins_escape (b ∷ word) ≡ true
escape_of b word is h = let e : b ≡ 37 = grind (arith, nat_tests) in subst (λ b. begins_byte (b ∷ word) ≡ true
    → begins_escape (b ∷ word) ≡ true) (sym e) (λ h. h) h

plain_of : (b : ℕ) (word : List ℕ) → b == 37 ≡ false → begins_byte (b ∷ word) ≡ true → in_alphabet b ≡ true
plain_of b word is h = by (in_alphabet b) (subst (λ c. (in_alphabet b || (c && (is_digit (slice_index (b ∷ word) 1) && (is_digit
    (slice_index (b ∷ word) 2) && not (in_alphabet (escape_value (b ∷ word))))))) ≡ true) is h)
  where
    by : (c : Bool) → (c || false) ≡ true → c ≡ true
    by true h = refl
    by false h = h

unescaped_bytes : (digits : ℕ) (word : List ℕ) → wrong_place word ≡ None → are_bytes (unescaped_after digits word) ≡ true
unescaped_bytes zero [] h = refl
unescaped_bytes (suc digits) [] h = refl
unescaped_bytes zero (b ∷ word) h =
    let r = right_first b word h in
    by r (unescaped_bytes 2 word r.later) (unescaped_bytes 0 word r.later) (b == 37) refl
  where
    by : Right b word → are_bytes (unescaped_after 2 word) ≡ true → are_bytes (unescaped_after 0 word) ≡ true → (c : Bool) → b == 37 ≡ c
        → are_bytes (if c then (escape_value (b ∷ word) ∷ unescaped_after 2 word) else (b ∷ unescaped_after 0 word)) ≡ true
    by r escape plain true e = and_from _ _ (escape_small (b ∷ word) (escape_of b word e r.begins)) escape
    by r escape plain false e = and_from _ _ (alphabet_small b (plain_of b word e r.begins)) plain
unescaped_bytes (suc digits) (b ∷ word) h = unescaped_bytes digits word (right_first b word h).later

pub none_is : {A : Type 0} (o : Option A) → is_none o ≡ true → o ≡ None
none_is None h = refl
none_is (Some x) h = absurd (false≢true h)

pub record IsRight (word : List ℕ) : Type 0 where
  pub right : wrong_place word ≡ None
  pub key : is_key (unescaped word) ≡ true

pub word_right : (word : List ℕ) → word_fault 1 32 word ≡ None → IsRight word
word_right word h = by (wrong_place word) refl h
  where
    size : (b : Bool) → (if b then None else Some (Length (length (unescaped word)))) ≡ None → b ≡ true
    size true h = refl
    size false h = cc

    by : (o : Option ℕ) → wrong_place word ≡ o → option_map_or (λ place. Some (Byte place)) o (length_fault 1 32 (unescaped word)) ≡ None
        → IsRight word
    by None e h = record { right = e; key = and_from _ _ (size (within 1 32 (length (unescaped word))) h) (unescaped_bytes 0 word e) }
    by (Some place) e h = cc

pub key_named : (v : Version) (word : List ℕ) → key_fits v word ≡ true → is_key (key_of v word) ≡ true
key_named One word h = key-no_fault word (none_is _ h)
key_named Two word h = (word_right word (none_is _ h)).key

keys_named : (v : Version) (words : List (List ℕ)) → list_all (key_fits v) words ≡ true → list_all is_key (map (key_of v) words) ≡ true
keys_named v [] h = refl
keys_named v (word ∷ words) h = let parts = and_parts _ _ h in and_from _ _ (key_named v word parts.0) (keys_named v words parts.1)

-- ---- commands

pub is_below : (a b : ℕ) → nat_le b a ≡ false → a < b
is_below a b h = grind (arith, nat_tests)

lt_is : (a b : ℕ) → nat_lt a b ≡ true → a < b
lt_is a b h = grind (arith, nat_tests)

le_is : (a b : ℕ) → nat_le a b ≡ true → a ≤ b
le_is a b h = grind (arith, nat_tests)

pub or_none : (a b : Bool) → a || b ≡ false → (a ≡ false) × (b ≡ false)
or_none true b h = absurd (true≢false h)
or_none false b h = (refl, h)

source_is : (sources id : ℕ) → nat_lt id 64 ≡ true → nat_le sources id ≡ false → IsSource sources id
source_is sources id small known = record { known = is_below id sources known; small = lt_is id 64 small }

poll_is : (sources id n : ℕ) → nat_lt id 64 && (nat_le 1 n && nat_le n (2 ^ 20)) ≡ true → nat_le sources id ≡ false → IsPoll sources id n
poll_is sources id n fit known =
    let parts = and_parts _ _ fit in
    let count = and_parts _ _ parts.1 in
    record { source = source_is sources id parts.0 known; least = le_is 1 n count.0; most = le_is n (2 ^ 20) count.1 }

stop_parts : (a b c : Bool) → a && (b && c) ≡ true → a && b ≡ true
stop_parts a b c h = let parts = and_parts a (b && c) h in and_from a b parts.0 (and_parts b c parts.1).0

command_allowed : (v : Version) (sources targets : ℕ) (c : Command) → command_numbers_fit c ≡ true → command_key_fits v c ≡ true
    → is_unknown sources targets (Ask c) ≡ false → IsAllowed sources targets (meant v c)
command_allowed v sources targets (command.Poll id n) fit key known = poll_is sources id n fit known
command_allowed v sources targets (command.Stop id n last) fit key known =
    let there = or_none _ _ known in
    record {
      poll = poll_is sources id n (stop_parts (nat_lt id 64) (nat_le 1 n && nat_le n (2 ^ 20))
          (nat_lt last 16) fit) there.0;
      known = is_below last targets there.1;
    }
command_allowed v sources targets (command.Ack id) fit key known = source_is sources id fit known
command_allowed v sources targets (command.Restart id) fit key known = source_is sources id fit known
command_allowed v sources targets (command.Read word) fit key known = key_named v word key
command_allowed v sources targets (command.ReadAt u word) fit key known = record {
  time = lt_is u
      (2 ^ 62) fit;
  named = key_named v word key;
}
command_allowed v sources targets (command.Prune u) fit key known = lt_is u (2 ^ 62) fit
command_allowed v sources targets command.Drain fit key known = tt
command_allowed v sources targets command.Safe fit key known = tt
command_allowed v sources targets command.Scan fit key known = tt
command_allowed v sources targets command.Failover fit key known = tt
command_allowed v sources targets command.Report fit key known = tt

one_more : {X : Type 0} (P : X → Type 0) (xs : List X) (x : X) → AllByRecursion P xs → P x → AllByRecursion P (xs ++ x ∷ [])
one_more P [] x all p = (p, tt)
one_more P (y ∷ xs) x all p = (all.0, one_more P xs x all.1 p)

counted : {X : Type 0} (p : X → Bool) (xs : List X) (x : X) → count_by p (xs ++ x ∷ []) ≡ count_by p xs + cond (p x) 1 0
counted p xs x =
    let one : 0 + cond (p x) 1 0 ≡ cond (p x) 1 0 = omega arith in
    sum_by-append (λ x. cond (p x) 1 0) xs (x ∷ []) ∙ ap (λ n. count_by p xs + n) one

scans_fit : (v : Version) (before : List Command) (c : Command) → count_by is_scan before ≤ 8 → is_too_many before (Ask c) ≡ false
    → count_by is_scan (before ++ meant v c ∷ []) ≤ 8
scans_fit v before command.Scan few h = rw (counted is_scan before command.Scan) (grind (arith, nat_tests))
scans_fit v before (command.Read word) few h = rw (counted is_scan before (meant v (command.Read word))) (omega arith)
scans_fit v before (command.ReadAt u word) few h = rw (counted is_scan before (meant v (command.ReadAt u word))) (omega arith)
scans_fit v before c few h = rw (counted is_scan before c) (omega arith)

drains_fit : (v : Version) (before : List Command) (c : Command) → count_by is_drain before ≤ 64 → is_too_many before (Ask c) ≡ false
    → count_by is_drain (before ++ meant v c ∷ []) ≤ 64
drains_fit v before command.Drain few h = rw (counted is_drain before command.Drain) (grind (arith, nat_tests))
drains_fit v before (command.Read word) few h = rw (counted is_drain before (meant v (command.Read word))) (omega arith)
drains_fit v before (command.ReadAt u word) few h = rw (counted is_drain before (meant v (command.ReadAt u word))) (omega arith)
drains_fit v before c few h = rw (counted is_drain before c) (omega arith)

-- ---- what the lines so far gave

-- behind the bounds
pub record IsInside (s : Reading) : Type 0 where
  pub bounds : are_bounds s.script.bounds ≡ true
  pub watched : length s.script.watched ≤ 16
  pub named : list_all is_key s.script.watched ≡ true
  pub commands : AllByRecursion (IsAllowed s.sources (length s.script.bounds)) s.script.commands
  pub scans : count_by is_scan s.script.commands ≤ 8
  pub drains : count_by is_drain s.script.commands ≤ 64
  pub lines : watch_lines s.script.watched + length s.script.commands + 2 ≤ s.lines

-- behind so many lines, of which none named keys or commands
pub record IsEmpty (n : ℕ) (s : Reading) : Type 0 where
  pub watched : s.script.watched ≡ []
  pub commands : s.script.commands ≡ []
  pub lines : s.lines ≡ n

pub record IsBounded (s : Reading) : Type 0 where
  pub bounds : are_bounds s.script.bounds ≡ true
  pub empty : IsEmpty 2 s

abbrev pub Shape : Stage → Reading → Type 0
Shape stage.First s = IsEmpty 0 s
Shape stage.Target s = IsEmpty 1 s
Shape stage.Watch s = IsBounded s
Shape stage.Commands s = IsInside s
Shape stage.Ended s = IsScript s.sources s.script

pub record IsReading (s : Reading) : Type 0 where
  pub small : s.lines ≤ 65536
  pub shape : Shape s.stage s

pub begun_is : (sources : ℕ) → IsReading (begun sources)
begun_is sources = record { small = omega arith; shape = record { watched = refl; commands = refl; lines = refl } }

-- a line that breaks no rule
pub record Passes (s : Reading) (l : ScriptLine) : Type 0 where
  pub place : misplaced s.stage l ≡ false
  pub numbers : numbers_fit l ≡ true
  pub keys : keys_fit s.version l ≡ true
  pub bounds : breaks_bounds l ≡ false
  pub known : is_unknown s.sources (length s.script.bounds) l ≡ false
  pub few : nat_le 65536 s.lines ≡ false
  pub room : is_too_many s.script.commands l ≡ false

pub is_true : (b : Bool) → not b ≡ false → b ≡ true
is_true true h = refl
is_true false h = absurd (true≢false h)

pub passes : (s : Reading) (l : ScriptLine) → AllFalse (kinds s l) → Passes s l
unfolding AllFalse
passes s l all =
    let limit = or_none (nat_le 65536 s.lines) (is_too_many s.script.commands l) all.1.1.1.1.1.0 in
    record {
      place = all.0;
      numbers = is_true _ all.1.0;
      keys = is_true _ all.1.1.0;
      bounds = all.1.1.1.0;
      known = all.1.1.1.1.0;
      few = limit.0;
      room = limit.1;
    }

-- ---- what one line more gives

from_first : (s : Reading) (v : Version) (st : Stage) → misplaced st (First v) ≡ false → Shape st s → IsEmpty 1 (moved s (First v))
from_first s v stage.First p shape = record { watched = shape.watched; commands = shape.commands; lines = ap (λ n. n + 1) shape.lines }
from_first s v st p shape = absurd (true≢false p)

from_target : (s : Reading) (bounds : List ℕ) (st : Stage) → misplaced st (Target bounds) ≡ false → breaks_bounds (Target bounds) ≡ false
    → Shape st s
    → IsBounded (moved s (Target bounds))
from_target s bounds stage.Target p b shape =
    record {
      bounds = is_true _ b;
      empty = record {
        watched = shape.watched;
        commands = shape.commands;
        lines = ap
            (λ n. n + 1) shape.lines;
      };
    }
from_target s bounds st p b shape = absurd (true≢false p)

at_most : (a b : ℕ) → nat_lt b a ≡ false → a ≤ b
at_most a b h = grind (arith, nat_tests)

few_lines : (keys : List (List ℕ)) → watch_lines keys ≤ 1
few_lines [] = omega arith
few_lines (key ∷ keys) = omega arith

from_watch : (s : Reading) (words : List (List ℕ)) (st : Stage) → misplaced st (Watch words) ≡ false → Passes s (Watch words) → Shape st s
    → IsInside (moved s (Watch words))
from_watch s words stage.Watch p fit shape =
    let none = shape.empty.commands in
    let lines = shape.empty.lines in
    let few = few_lines (map (key_of s.version) words) in
    let same : length (map (key_of s.version) words) ≡ length words = length-map words (key_of s.version) in
    record {
      bounds = shape.bounds;
      watched = rw same (at_most (length words) 16 fit.room);
      named = keys_named s.version words fit.keys;
      commands = rw none tt;
      scans = rw none (omega arith);
      drains = rw none (omega arith);
      lines = rw (none, lines) (omega (arith, few));
    }
from_watch s words st p fit shape = absurd (true≢false p)

bounded_inside : (s : Reading) → IsBounded s → IsInside s
bounded_inside s shape =
    let no_keys = shape.empty.watched in
    let none = shape.empty.commands in
    let lines = shape.empty.lines in
    record {
      bounds = shape.bounds;
      watched = rw no_keys (omega arith);
      named = rw no_keys refl;
      commands = rw none tt;
      scans = rw none (omega arith);
      drains = rw none (omega arith);
      lines = rw (no_keys, none, lines) (omega arith);
    }

inner_inside : (s : Reading) (c : Command) (st : Stage) → misplaced st (Ask c) ≡ false → Shape st s → IsInside s
inner_inside s c stage.Watch p shape = bounded_inside s shape
inner_inside s c stage.Commands p shape = shape
inner_inside s c st p shape = absurd (true≢false p)

end_inside : (s : Reading) (st : Stage) → misplaced st End ≡ false → Shape st s → IsInside s
end_inside s stage.Watch p shape = bounded_inside s shape
end_inside s stage.Commands p shape = shape
end_inside s st p shape = absurd (true≢false p)

one_longer : {X : Type 0} (xs : List X) (x : X) → length (xs ++ x ∷ []) ≡ length xs + 1
one_longer xs x = length-append xs (x ∷ [])

from_ask : (s : Reading) (c : Command) → Passes s (Ask c) → IsInside s → IsInside (moved s (Ask c))
from_ask s c fit inside = record {
  bounds = inside.bounds;
  watched = inside.watched;
  named = inside.named;
  commands = one_more _ s.script.commands (meant s.version c) inside.commands (command_allowed s.version s.sources
      (length s.script.bounds) c fit.numbers fit.keys fit.known);
  scans = scans_fit s.version s.script.commands c inside.scans fit.room;
  drains = drains_fit s.version s.script.commands c inside.drains fit.room;
  lines = let lines = inside.lines in let longer = one_longer s.script.commands (meant s.version c) in omega (arith, lines, longer);
}

from_end : (s : Reading) → nat_le 65536 s.lines ≡ false → IsInside s → IsScript s.sources s.script
from_end s few inside = record {
  bounds = inside.bounds;
  watched = inside.watched;
  named = inside.named;
  commands = inside.commands;
  scans = inside.scans;
  drains = inside.drains;
  lines = let lines = inside.lines in let below = is_below s.lines 65536 few in omega (arith, lines, below);
}

more : (s : Reading) → nat_le 65536 s.lines ≡ false → s.lines + 1 ≤ 65536
more s few = let below = is_below s.lines 65536 few in omega (arith, below)

moved_is : (s : Reading) (l : ScriptLine) → Passes s l → IsReading s → IsReading (moved s l)
moved_is s (First v) fit is = record { small = more s fit.few; shape = from_first s v s.stage fit.place is.shape }
moved_is s (Target bounds) fit is = record { small = more s fit.few; shape = from_target s bounds s.stage fit.place fit.bounds is.shape }
moved_is s (Watch words) fit is = record { small = more s fit.few; shape = from_watch s words s.stage fit.place fit is.shape }
moved_is s (Ask c) fit is = record { small = more s fit.few; shape = from_ask s c fit (inner_inside s c s.stage fit.place is.shape) }
moved_is s End fit is = record { small = more s fit.few; shape = from_end s fit.few (end_inside s s.stage fit.place is.shape) }

-- what a step gives may be asked, of the same source
pub record Keeps (s after : Reading) : Type 0 where
  pub sources : after.sources ≡ s.sources
  pub reading : IsReading after

moved_sources : (s : Reading) (l : ScriptLine) → (moved s l).sources ≡ s.sources
moved_sources s (First v) = refl
moved_sources s (Target bounds) = refl
moved_sources s (Watch words) = refl
moved_sources s (Ask c) = refl
moved_sources s End = refl

step_cases : (s : Reading) (o : Option ScriptLine) (after : Reading) → IsReading s → step_by s o ≡ Ok after → Keeps s after
step_cases s None after is e = cc
step_cases s (Some l) after is e =
    let fit = passed (kinds s l) (moved s l) after e in
    subst (λ a. Keeps s a) fit.1 (record { sources = moved_sources s l; reading = moved_is s l (passes s l fit.0) is })

pub step_keeps : (s : Reading) (bytes : List ℕ) (after : Reading) → IsReading s → step s bytes ≡ Ok after → Keeps s after
unfolding step
step_keeps s bytes after is e = step_cases s (line_of (split_on 32 bytes)) after is e

-- ---- the whole text

ending_allowed : (s : Reading) (st : Stage) (script : Script) → Shape st s → ending st s ≡ Ok script → IsScript s.sources script
ending_allowed s stage.Ended script shape e = subst (λ script. IsScript s.sources script) (ok_is s.script script e) shape
ending_allowed s st script shape e = cc

abbrev Kept : ℕ → Reading → List (List (List ℕ)) → Type 0
Kept sources s before = (s.sources ≡ sources) × IsReading s

pub script_allowed : (sources : ℕ) (text : List ℕ) (script : Script) → script_of sources text ≡ Ok script → IsScript sources script
unfolding script_of
script_allowed sources text script e =
    (lines_found rules (Kept sources) (λ script words. IsScript sources script)
    (λ s after before bytes kept is. let next = step_keeps s bytes after kept.1 is in (next.sources ∙ kept.0, next.reading))
    (λ s before script kept is. subst (λ sources. IsScript sources script) kept.0 (ending_allowed s s.stage script kept.1.shape is))
    (begun sources) [] (split_on 10 text) script (refl, begun_is sources) e).spelled
