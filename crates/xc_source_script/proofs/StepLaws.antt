-- What a line gives, by what its words are read as.
use Rattle.std.proofs.Common.{◌≡◌, ℕ, Bool, true, false, not, nat_le, List, [], ◌∷◌, Option, Some, None, Ok, Err, option_map, refl}
use Rattle.std.proofs.Common.{sym, ap, ◌∙◌, codes}
use Rattle.std.specs.Prelude.{if◌then◌else◌, bytes_eq}
use Rattle.std.proofs.lemmas.Bool.{false≢true}
use Rattle.xc_record.specs.declared.record.Header.{Header}
use Rattle.xc_script.specs.LineText.{first_kind, unless_bad}
use Rattle.xc_script.proofs.LineTextLaws.{then_by, judged}
use Rattle.xc_script.proofs.StepLaws.{is_text}
use Rattle.xc_script.specs.Words.{is_moment}
use Rattle.xc_source.specs.declared.command.SourceCommand.{SourceCommand}
use Rattle.xc_text.specs.declared.line.Version.{Version}
use Rattle.xc_text.specs.Lines.{header_numbers_fit}
use Rattle.xc_source_script.specs.declared.kind.SourceKind.TheVariants as kind
use Rattle.xc_source_script.specs.declared.reading.Reading.{Reading}
use Rattle.xc_source_script.specs.declared.reading.Stage.{Stage}
use Rattle.xc_source_script.specs.declared.reading.Stage.TheVariants as stage
use Rattle.xc_source_script.specs.Words.{SourceLine, First, Start, Root, Ask, command_numbers_fit, command_names_fit, version_of}
use Rattle.xc_source_script.specs.Words.{bare_of, with_one, with_two}
use Rattle.xc_source_script.specs.Words.{start_of, root_of, end_of, command_of, command_in, root_in, start_in, line_by, numbers_fit}
use Rattle.xc_source_script.specs.Words.{names_fit}
use Rattle.xc_source_script.specs.SourceText.{misplaced, later_kinds, moved, step_by, is_inner, is_whole, root_breaks}
use Rattle.xc_source_script.specs.SourceText.{with_start}
use Rattle.xc_source_script.specs.SourceText.{with_root, with_command}

-- ---- lines that were read by themselves

at_stage : (s : Reading) (other : Stage) (l : SourceLine) (b : Bool) → s.stage ≡ other → misplaced other l ≡ b → misplaced s.stage l ≡ b
at_stage s other l b is out = ap (λ st. misplaced st l) is ∙ out

-- the rules that are left, where roots break one first
by_roots : (a b : Bool) (after : Reading) → unless_bad (first_kind ((a, kind.Header) ∷ (b, kind.Limit) ∷ [])) after
    ≡ if a then Err kind.Header else (if b then Err kind.Limit else Ok after)
by_roots true b after = refl
by_roots false true after = refl
by_roots false false after = refl

by_whole : (a b : Bool) (after : Reading) → unless_bad (first_kind ((not a, kind.Header) ∷ (b, kind.Limit) ∷ [])) after
    ≡ if a then (if b then Err kind.Limit else Ok after) else Err kind.Header
by_whole true true after = refl
by_whole true false after = refl
by_whole false b after = refl

start_cases : (s : Reading) (o : Option ℕ) → s.stage ≡ stage.Start
    → step_by s (option_map Start o) ≡ then_by (with_start s) (start_in o)
start_cases s None is = refl
start_cases s (Some time) is =
    judged kind.Form kind.Number kind.Key
    (with_start s) time (misplaced s.stage (Start time)) (is_moment time) true (later_kinds s (Start time)) (moved s (Start time))
    (at_stage s _ (Start time) false is refl) (by_roots false (nat_le 65536 s.lines) (moved s (Start time)))

pub place_root : (st : Stage) (h : Header) → is_inner st ≡ true → misplaced st (Root h) ≡ false
place_root stage.Roots h i = refl
place_root stage.Commands h i = refl
place_root st h i = absurd (false≢true i)

pub place_ask : (st : Stage) (c : SourceCommand) → is_inner st ≡ true → misplaced st (Ask c) ≡ false
place_ask stage.Roots c i = refl
place_ask stage.Commands c i = refl
place_ask st c i = absurd (false≢true i)

root_cases : (s : Reading) (o : Option Header) → is_inner s.stage ≡ true
    → step_by s (option_map Root o) ≡ then_by (with_root s) (root_in o)
root_cases s None is = refl
root_cases s (Some h) is =
    judged kind.Form kind.Number kind.Key
    (with_root s) h (misplaced s.stage (Root h)) (header_numbers_fit h) true (later_kinds s (Root h)) (moved s (Root h))
    (place_root s.stage h is) (by_roots (root_breaks s h) (nat_le 65536 s.lines) (moved s (Root h)))

ask_cases : (s : Reading) (o : Option SourceCommand) → is_inner s.stage ≡ true
    → step_by s (option_map Ask o) ≡ then_by (with_command s) (command_in o)
ask_cases s None is = refl
ask_cases s (Some c) is =
    judged kind.Form kind.Number kind.Key
    (with_command s) c (misplaced s.stage (Ask c)) (command_numbers_fit c) (command_names_fit c) (later_kinds s (Ask c)) (moved s
    (Ask c))
    (place_ask s.stage c is) (by_whole (is_whole s) (nat_le 65536 s.lines) (moved s (Ask c)))

-- ---- lines in the wrong place

mapped : {A : Type 0} (s : Reading) (f : A → SourceLine) (o : Option A) → ((a : A) → misplaced s.stage (f a) ≡ true)
    → step_by s (option_map f o) ≡ Err kind.Form
mapped s f None out = refl
mapped s f (Some a) out =
    ap (λ b. unless_bad (if b then Some kind.Form else first_kind
    ((not (numbers_fit (f a)), kind.Number) ∷ (not (names_fit (f a)), kind.Key)
    ∷ later_kinds s (f a))) (moved s (f a))) (out a)

-- what begins no command with any number of words
is_no_command : (v : Version) (verb : List ℕ) → bare_of verb ≡ None → ((a : List ℕ) → with_one v verb a ≡ None)
    → ((a b : List ℕ) → with_two v verb a b ≡ None) → (words : List (List ℕ)) → command_of v verb words ≡ None
unfolding command_of
is_no_command v verb none one two [] = none
is_no_command v verb none one two (a ∷ []) = one a
is_no_command v verb none one two (a ∷ b ∷ []) = two a b
is_no_command v verb none one two (a ∷ b ∷ c ∷ words) = refl

no_command : (v : Version) (text word : List ℕ) (words : List (List ℕ)) → ((words : List (List ℕ)) → command_of v text words ≡ None)
    → bytes_eq word text ≡ true → command_of v word words ≡ None
no_command v text word words none e = ap (λ w. command_of v w words) (is_text word text e) ∙ none words

not_first : (v : Version) (words : List (List ℕ)) → command_of v (codes "xcsource") words ≡ None
not_first v = is_no_command v (codes "xcsource") refl (λ a. refl) (λ a b. refl)

not_start : (v : Version) (words : List (List ℕ)) → command_of v (codes "start") words ≡ None
not_start v = is_no_command v (codes "start") refl (λ a. refl) (λ a b. refl)

either : (s : Reading) (b : Bool) (x y z : Option SourceLine) → (b ≡ true → step_by s x ≡ step_by s z) → (b ≡ false
    → step_by s y ≡ step_by s z)
    → step_by s (if b then x else y) ≡ step_by s z
either s true x y z e f = e refl
either s false x y z e f = f refl

-- a form that is misplaced, and no command
refused : {A : Type 0} (s : Reading) (f : A → SourceLine) (o : Option A) (c : Option SourceCommand)
    → ((a : A) → misplaced s.stage (f a) ≡ true) → c ≡ None → step_by s (option_map f o) ≡ step_by s (option_map Ask c)
refused s f o c out none = mapped s f o out ∙ sym (ap (λ c. step_by s (option_map Ask c)) none)

place_first : (st : Stage) (v : Version) → is_inner st ≡ true → misplaced st (First v) ≡ true
place_first stage.First v i = absurd (false≢true i)
place_first stage.Start v i = absurd (false≢true i)
place_first stage.Roots v i = refl
place_first stage.Commands v i = refl
place_first stage.Ended v i = absurd (false≢true i)

place_start : (st : Stage) (time : ℕ) → is_inner st ≡ true → misplaced st (Start time) ≡ true
place_start stage.First time i = absurd (false≢true i)
place_start stage.Start time i = absurd (false≢true i)
place_start stage.Roots time i = refl
place_start stage.Commands time i = refl
place_start stage.Ended time i = absurd (false≢true i)

-- where commands may stand, only a line that begins with `tablet` or `end` is no command
only_commands : (s : Reading) (word : List ℕ) (words : List (List ℕ)) → is_inner s.stage ≡ true
    → bytes_eq word (codes "tablet") ≡ false → bytes_eq word (codes "end") ≡ false
    → step_by s (line_by s.version word words) ≡ step_by s (option_map Ask (command_of s.version word words))
only_commands s word words inner tablet end =
    rw (tablet, end)
    (either s (bytes_eq word (codes "xcsource")) _ _ (option_map Ask (command_of s.version word words))
    (λ e. refused s First (version_of words) _ (λ v. place_first s.stage v inner)
    (no_command s.version _ word words (not_first s.version) e))
    (λ n. either s (bytes_eq word (codes "start")) _ _ _
    (λ e. refused s Start (start_of words) _ (λ t. place_start s.stage t inner)
    (no_command s.version _ word words (not_start s.version) e))
    (λ n. refl)))

-- ---- lines by their first word

by_text : (s : Reading) (text word : List ℕ) (words : List (List ℕ)) (l : Option SourceLine) → bytes_eq word text ≡ true
    → line_by s.version text words ≡ l
    → step_by s (line_by s.version word words) ≡ step_by s l
by_text s text word words l e is = ap (λ w. step_by s (line_by s.version w words)) (is_text word text e) ∙ ap (step_by s) is

pub start_step : (s : Reading) (word : List ℕ) (words : List (List ℕ)) → s.stage ≡ stage.Start → bytes_eq word (codes "start") ≡ true
    → step_by s (line_by s.version word words) ≡ then_by (with_start s) (start_in (start_of words))
start_step s word words is e =
    by_text s (codes "start") word words (option_map Start (start_of words)) e refl ∙ start_cases s (start_of words) is

pub root_step : (s : Reading) (word : List ℕ) (words : List (List ℕ)) → is_inner s.stage ≡ true → bytes_eq word (codes "tablet") ≡ true
    → step_by s (line_by s.version word words) ≡ then_by (with_root s) (root_in (root_of words))
root_step s word words is e =
    by_text s (codes "tablet") word words (option_map Root (root_of words)) e refl ∙ root_cases s (root_of words) is

pub end_step : (s : Reading) (word : List ℕ) (words : List (List ℕ)) → bytes_eq word (codes "end") ≡ true
    → step_by s (line_by s.version word words) ≡ step_by s (end_of words)
end_step s word words e = by_text s (codes "end") word words (end_of words) e refl

pub ask_step : (s : Reading) (word : List ℕ) (words : List (List ℕ)) → is_inner s.stage ≡ true
    → bytes_eq word (codes "tablet") ≡ false → bytes_eq word (codes "end") ≡ false
    → step_by s (line_by s.version word words) ≡ then_by (with_command s) (command_in (command_of s.version word words))
ask_step s word words inner tablet end = only_commands s word words inner tablet end ∙ ask_cases s (command_of s.version word words) inner
