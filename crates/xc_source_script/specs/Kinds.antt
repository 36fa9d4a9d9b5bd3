-- Why a line of a source script is bad.
--     kind_name kind      the word for it in what is printed
-- The rest is what single functions answer; what a text spells doesn't rest on it.
--     judge numbers names form      a form, if its numbers and its names fit
--     Answers view result reading      a call answered what the reading gives, seen by view, or that memory ran out
use Rattle.std.specs.Prelude.{◌≡◌, ℕ, Bool, List, Option, Some, None, Result, Ok, Err, if◌then◌else◌, codes}
use Rattle.xc_source_script.specs.declared.kind.SourceKind.{SourceKind}
use Rattle.xc_source_script.specs.declared.kind.SourceKind.TheVariants.{Form, Number, Key, Header, Limit, NoEnd}
use Rattle.xc_source_script.specs.declared.kind.Fail.{Fail}
use Rattle.xc_source_script.specs.declared.kind.Fail.TheVariants as fail

abbrev pub kind_name : SourceKind → List ℕ
kind_name Form = codes "form"
kind_name Number = codes "number"
kind_name Key = codes "key"
kind_name Header = codes "header"
kind_name Limit = codes "limit"
kind_name NoEnd = codes "no-end"

-- form is looked for over the whole line first, then number, then key
abbrev pub judge : {A : Type 0} → (A → Bool) → (A → Bool) → Option A → Result A SourceKind
judge numbers names None = Err Form
judge numbers names (Some x) = if numbers x then (if names x then Ok x else Err Key) else Err Number

abbrev pub Refuses : {B : Type 0} → Fail → Result B SourceKind → Type 0
Refuses (fail.Bad kind) reading = reading ≡ Err kind
Refuses fail.NoMemory reading = Unit {0}

abbrev pub Answers : {A B : Type 0} → (A → B) → Result A Fail → Result B SourceKind → Type 0
Answers view (Ok x) reading = reading ≡ Ok (view x)
Answers view (Err e) reading = Refuses e reading
