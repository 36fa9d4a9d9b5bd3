-- Why a line of a script is bad.
--     kind_name kind      the word for it in what is printed
-- The rest is what single functions answer; what a text spells doesn't rest on it.
--     judge numbers names meant form      what a form means, if its numbers and its names fit
--     Answers view result reading      a call answered what the reading gives, seen by view, or that memory ran out
use Rattle.std.specs.Prelude.{◌≡◌, ℕ, Bool, List, Option, Some, None, Result, Ok, Err, if◌then◌else◌, codes}
use Rattle.xc_script.specs.declared.kind.ScriptKind.{ScriptKind}
use Rattle.xc_script.specs.declared.kind.ScriptKind.TheVariants.{Form, Number, Key, Target, UnknownTablet, Limit, NoEnd}
use Rattle.xc_script.specs.declared.kind.Fail.{Fail}
use Rattle.xc_script.specs.declared.kind.Fail.TheVariants as fail

abbrev pub kind_name : ScriptKind → List ℕ
kind_name Form = codes "form"
kind_name Number = codes "number"
kind_name Key = codes "key"
kind_name Target = codes "target"
kind_name UnknownTablet = codes "unknown-tablet"
kind_name Limit = codes "limit"
kind_name NoEnd = codes "no-end"

-- form is looked for over the whole line first, then number, then key
abbrev pub judge : {A B : Type 0} → (A → Bool) → (A → Bool) → (A → B) → Option A → Result B ScriptKind
judge numbers names meant None = Err Form
judge numbers names meant (Some x) = if numbers x then (if names x then Ok (meant x) else Err Key) else Err Number

abbrev pub Refuses : {B : Type 0} → Fail → Result B ScriptKind → Type 0
Refuses (fail.Bad kind) reading = reading ≡ Err kind
Refuses fail.NoMemory reading = Unit {0}

abbrev pub Answers : {A B : Type 0} → (A → B) → Result A Fail → Result B ScriptKind → Type 0
Answers view (Ok x) reading = reading ≡ Ok (view x)
Answers view (Err e) reading = Refuses e reading
