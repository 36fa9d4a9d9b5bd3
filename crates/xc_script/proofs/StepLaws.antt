-- What a line gives, by what its words are read as.
use Rattle.std.proofs.Common.{◌≡◌, ℕ, Bool, true, false, ◌||◌, not, nat_le, nat_lt, List, [], ◌∷◌, length, map, Option, Some, None}
use Rattle.std.proofs.Common.{Ok, Err, option_map, refl, sym, ap, ◌∙◌, codes}
use Rattle.std.specs.Prelude.{if◌then◌else◌, bytes_eq}
use Rattle.std.specs.List.{list_all}
use Rattle.std.proofs.lemmas.Bool.{true≢false, false≢true}
use Rattle.std.proofs.lemmas.List.{length-map}
use Rattle.std.proofs.lemmas.Slice.Eq.{bytes_eq-Decides}
use Rattle.xc_record.specs.Bounds.{are_bounds}
use Rattle.xc_record.specs.declared.session.Command.{Command}
use Rattle.xc_record.specs.declared.session.Command.TheVariants as command
use Rattle.xc_script.specs.declared.kind.ScriptKind.TheVariants as kind
use Rattle.xc_script.specs.declared.reading.Reading.{Reading}
use Rattle.xc_script.specs.declared.reading.Stage.{Stage}
use Rattle.xc_script.specs.declared.reading.Stage.TheVariants as stage
use Rattle.xc_script.specs.declared.reading.Version.{Version}
use Rattle.xc_script.specs.Kinds.{judge}
use Rattle.xc_script.specs.Words.{ScriptLine, First, Target, Watch, Ask, is_hash, key_fits, key_of, meant, command_numbers_fit}
use Rattle.xc_script.specs.Words.{command_key_fits, numbers_of, some_words, version_of, end_of, command_of, command_in, bounds_in, keys_in}
use Rattle.xc_script.specs.Words.{bare_of, with_one, with_two, with_three}
use Rattle.xc_script.specs.Words.{line_by, numbers_fit, keys_fit}
use Rattle.xc_script.specs.LineText.{first_kind, unless_bad}
use Rattle.xc_script.specs.ScriptText.{misplaced, is_unknown, is_too_many, later_kinds, moved, step_by, is_inner, is_watch_line}
use Rattle.xc_script.specs.ScriptText.{with_bounds, with_watched, with_command}
use Rattle.xc_script.proofs.LineTextLaws.{then_by, judged}

-- ---- lines that were read by themselves

at_stage : (s : Reading) (other : Stage) (l : ScriptLine) (b : Bool) → s.stage ≡ other → misplaced other l ≡ b → misplaced s.stage l ≡ b
at_stage s other l b is out = ap (λ st. misplaced st l) is ∙ out

bounds_cases : (s : Reading) (o : Option (List ℕ)) → s.stage ≡ stage.Target
    → step_by s (option_map Target o) ≡ then_by (with_bounds s) (judge (list_all is_hash) (λ bounds. true) (λ bounds. bounds) o)
bounds_cases s None is = refl
bounds_cases s (Some bounds) is =
    judged kind.Form kind.Number kind.Key
    (with_bounds s) bounds (misplaced s.stage (Target bounds)) (list_all is_hash bounds) true (later_kinds s (Target bounds))
    (moved s (Target bounds))
    (at_stage s _ (Target bounds) false is refl) (by (are_bounds bounds) (nat_le 65536 s.lines))
  where
    by : (a b : Bool) → unless_bad (first_kind ((not a, kind.Target) ∷ (false, kind.UnknownTablet) ∷ (b || false, kind.Limit) ∷ []))
        (moved s (Target bounds))
        ≡ if a then (if b then Err kind.Limit else Ok (moved s (Target bounds))) else Err kind.Target
    by true true = refl
    by true false = refl
    by false b = refl

pub bounds_step : (s : Reading) (words : List (List ℕ)) → s.stage ≡ stage.Target
    → step_by s (option_map Target (numbers_of words)) ≡ then_by (with_bounds s) (bounds_in words)
unfolding bounds_in
bounds_step s words is = bounds_cases s (numbers_of words) is

keys_cases : (s : Reading) (o : Option (List (List ℕ))) → s.stage ≡ stage.Watch
    → step_by s (option_map Watch o) ≡ then_by (with_watched s) (judge
    (λ words. true) (list_all (key_fits s.version)) (map (key_of s.version)) o)
keys_cases s None is = refl
keys_cases s (Some words) is =
    judged kind.Form kind.Number kind.Key
    (with_watched s) (map (key_of s.version) words) (misplaced s.stage (Watch words)) true (list_all (key_fits s.version) words)
    (later_kinds s (Watch words)) (moved s (Watch words))
    (at_stage s _ (Watch words) false is refl)
    (rw (length-map words (key_of s.version)) (by (nat_lt 16 (length words)) (nat_le 65536 s.lines)))
  where
    by : (a b : Bool) → unless_bad (first_kind ((false, kind.Target) ∷ (false, kind.UnknownTablet) ∷ (b || a, kind.Limit) ∷ [])) (moved s
        (Watch words))
        ≡ if a then Err kind.Limit else (if b then Err kind.Limit else Ok (moved s (Watch words)))
    by true true = refl
    by true false = refl
    by false true = refl
    by false false = refl

pub keys_step : (s : Reading) (words : List (List ℕ)) → s.stage ≡ stage.Watch
    → step_by s (option_map Watch (some_words words)) ≡ then_by (with_watched s) (keys_in s.version words)
unfolding keys_in
keys_step s words is = keys_cases s (some_words words) is

unknown_meant : (v : Version) (sources targets : ℕ) (c : Command)
    → is_unknown sources targets (Ask (meant v c)) ≡ is_unknown sources targets (Ask c)
unknown_meant v sources targets (command.Read key) = refl
unknown_meant v sources targets (command.ReadAt u key) = refl
unknown_meant v sources targets c = refl

many_meant : (v : Version) (before : List Command) (c : Command) → is_too_many before (Ask (meant v c)) ≡ is_too_many before (Ask c)
many_meant v before (command.Read key) = refl
many_meant v before (command.ReadAt u key) = refl
many_meant v before c = refl

pub place_inner : (st : Stage) (c : Command) → is_inner st ≡ true → misplaced st (Ask c) ≡ false
place_inner stage.Watch c h = refl
place_inner stage.Commands c h = refl
place_inner st c h = absurd (false≢true h)

pub command_step : (s : Reading) (o : Option Command) → is_inner s.stage ≡ true
    → step_by s (option_map Ask o) ≡ then_by (with_command s) (command_in s.version o)
command_step s None is = refl
command_step s (Some c) is =
    judged kind.Form kind.Number kind.Key
    (with_command s) (meant s.version c) (misplaced s.stage (Ask c)) (command_numbers_fit c) (command_key_fits s.version c)
    (later_kinds s (Ask c)) (moved s (Ask c))
    (place_inner s.stage c is)
    (rw (unknown_meant s.version s.sources (length s.script.bounds) c, many_meant s.version s.script.commands c)
    (by (is_unknown s.sources (length s.script.bounds) (Ask c)) (is_too_many s.script.commands (Ask c)) (nat_le 65536 s.lines)))
  where
    by : (a b d : Bool) → unless_bad (first_kind ((false, kind.Target) ∷ (a, kind.UnknownTablet) ∷ (d || b, kind.Limit) ∷ [])) (moved s
        (Ask c))
        ≡ if a then Err kind.UnknownTablet else (if b then Err kind.Limit else (if d then Err kind.Limit else Ok (moved s (Ask c))))
    by true b d = refl
    by false true true = refl
    by false true false = refl
    by false false true = refl
    by false false false = refl

-- ---- lines in the wrong place

mapped : {A : Type 0} (s : Reading) (f : A → ScriptLine) (o : Option A) → ((a : A) → misplaced s.stage (f a) ≡ true)
    → step_by s (option_map f o) ≡ Err kind.Form
mapped s f None out = refl
mapped s f (Some a) out =
    ap (λ b. unless_bad (if b then Some kind.Form else first_kind ((not (numbers_fit (f a)), kind.Number) ∷ (
      not (keys_fit s.version
          (f a)),
      kind.Key,
    ) ∷ later_kinds s (f a))) (moved s (f a))) (out a)

pub is_text : (word text : List ℕ) → bytes_eq word text ≡ true → word ≡ text
is_text word text e = (bytes_eq-Decides word text).0 e

-- what begins no command with any number of words
is_no_command : (verb : List ℕ) → bare_of verb ≡ None → ((a : List ℕ) → with_one verb a ≡ None)
    → ((a b : List ℕ) → with_two verb a b ≡ None) → ((a b c : List ℕ) → with_three verb a b c ≡ None)
    → (words : List (List ℕ)) → command_of verb words ≡ None
unfolding command_of
is_no_command verb none one two three [] = none
is_no_command verb none one two three (a ∷ []) = one a
is_no_command verb none one two three (a ∷ b ∷ []) = two a b
is_no_command verb none one two three (a ∷ b ∷ c ∷ []) = three a b c
is_no_command verb none one two three (a ∷ b ∷ c ∷ d ∷ words) = refl

no_command : (text word : List ℕ) (words : List (List ℕ)) → ((words : List (List ℕ)) → command_of text words ≡ None)
    → bytes_eq word text ≡ true → command_of word words ≡ None
no_command text word words none e = ap (λ w. command_of w words) (is_text word text e) ∙ none words

not_first : (words : List (List ℕ)) → command_of (codes "xcscript") words ≡ None
not_first = is_no_command (codes "xcscript") refl (λ a. refl) (λ a b. refl) (λ a b c. refl)

not_target : (words : List (List ℕ)) → command_of (codes "target") words ≡ None
not_target = is_no_command (codes "target") refl (λ a. refl) (λ a b. refl) (λ a b c. refl)

not_watch : (words : List (List ℕ)) → command_of (codes "watch") words ≡ None
not_watch = is_no_command (codes "watch") refl (λ a. refl) (λ a b. refl) (λ a b c. refl)

either : (s : Reading) (b : Bool) (x y z : Option ScriptLine) → (b ≡ true → step_by s x ≡ step_by s z) → (b ≡ false
    → step_by s y ≡ step_by s z)
    → step_by s (if b then x else y) ≡ step_by s z
either s true x y z e f = e refl
either s false x y z e f = f refl

-- a form that is misplaced, and no command
refused : {A : Type 0} (s : Reading) (f : A → ScriptLine) (o : Option A) (c : Option Command) → ((a : A) → misplaced s.stage (f a) ≡ true)
    → c ≡ None
    → step_by s (option_map f o) ≡ step_by s (option_map Ask c)
refused s f o c out none = mapped s f o out ∙ sym (ap (λ c. step_by s (option_map Ask c)) none)

place_first : (st : Stage) (v : Version) → is_inner st ≡ true → misplaced st (First v) ≡ true
place_first stage.Watch v h = refl
place_first stage.Commands v h = refl
place_first st v h = absurd (false≢true h)

place_target : (st : Stage) (bounds : List ℕ) → is_inner st ≡ true → misplaced st (Target bounds) ≡ true
place_target stage.Watch v h = refl
place_target stage.Commands v h = refl
place_target st v h = absurd (false≢true h)

place_watch : (st : Stage) (word : List ℕ) (words : List (List ℕ)) → is_inner st ≡ true → is_watch_line st word ≡ false
    → bytes_eq word (codes "watch") ≡ true
    → misplaced st (Watch words) ≡ true
place_watch stage.Watch word words h w e = absurd (true≢false (sym e ∙ w))
place_watch stage.Commands word words h w e = refl
place_watch st word words h w e = absurd (false≢true h)

-- where commands may stand, only a line that begins with `end`, or names the watched keys, is no command
pub only_commands : (s : Reading) (word : List ℕ) (words : List (List ℕ)) → is_inner s.stage ≡ true → is_watch_line s.stage word ≡ false
    → bytes_eq word (codes "end") ≡ false → step_by s (line_by word words) ≡ step_by s (option_map Ask (command_of word words))
only_commands s word words inner watch end =
    rw end
    (either s (bytes_eq word (codes "xcscript")) _ _ (option_map Ask (command_of word words))
    (λ e. refused s First (version_of words) _ (λ v. place_first s.stage v inner) (no_command _ word words not_first e))
    (λ n. either s (bytes_eq word (codes "target")) _ _ _
    (λ e. refused s Target (numbers_of words) _ (λ b. place_target s.stage b inner) (no_command _ word words not_target e))
    (λ n. either s (bytes_eq word (codes "watch")) _ _ _
    (λ e. refused s Watch (some_words words) _ (λ ws. place_watch s.stage word ws inner watch e) (no_command _ word words not_watch e))
    (λ n. refl))))

-- ---- lines by their first word

by_text : (s : Reading) (text word : List ℕ) (words : List (List ℕ)) (l : Option ScriptLine) → bytes_eq word text ≡ true
    → line_by text words ≡ l
    → step_by s (line_by word words) ≡ step_by s l
by_text s text word words l e is = ap (λ w. step_by s (line_by w words)) (is_text word text e) ∙ ap (step_by s) is

pub target_step : (s : Reading) (word : List ℕ) (words : List (List ℕ)) → s.stage ≡ stage.Target → bytes_eq word (codes "target") ≡ true
    → step_by s (line_by word words) ≡ then_by (with_bounds s) (bounds_in words)
target_step s word words is e = by_text s (codes "target") word words (option_map Target (numbers_of words)) e refl ∙ bounds_step s words is

pub watch_step : (s : Reading) (word : List ℕ) (words : List (List ℕ)) → s.stage ≡ stage.Watch → bytes_eq word (codes "watch") ≡ true
    → step_by s (line_by word words) ≡ then_by (with_watched s) (keys_in s.version words)
watch_step s word words is e = by_text s (codes "watch") word words (option_map Watch (some_words words)) e refl ∙ keys_step s words is

pub end_step : (s : Reading) (word : List ℕ) (words : List (List ℕ)) → bytes_eq word (codes "end") ≡ true
    → step_by s (line_by word words) ≡ step_by s (end_of words)
end_step s word words e = by_text s (codes "end") word words (end_of words) e refl

pub ask_step : (s : Reading) (word : List ℕ) (words : List (List ℕ)) → is_inner s.stage ≡ true → is_watch_line s.stage word ≡ false
    → bytes_eq word (codes "end") ≡ false → step_by s (line_by word words) ≡ then_by (with_command s) (command_in s.version
    (command_of word words))
ask_step s word words inner watch end = only_commands s word words inner watch end ∙ command_step s (command_of word words) inner
