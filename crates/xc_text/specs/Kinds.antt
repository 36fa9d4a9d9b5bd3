-- Why a line of a log text is bad.
--     kind_name kind      the word for it in what is printed
--     first_kind rows      the kind of the first row whose test is true; None where none is
-- The rest is what single functions answer; what a text spells doesn't rest on it.
--     judge numbers names line      a line that has a form, if its numbers and its names fit
--     after_numbers fit fail      a fail that was met behind numbers, which fit or don't
--     IsInRange fits value result      a call answered the number, which is in the range of its place, or that it isn't
--     Answers view result reading      a call answered what the reading gives, seen by view, or that memory ran out
use Rattle.std.specs.Prelude.{◌≡◌, ℕ, Bool, true, false, List, [], ◌∷◌, Option, Some, None, Result, Ok, Err, MatchResult}
use Rattle.std.specs.Prelude.{if◌then◌else◌, codes}
use Rattle.xc_text.specs.declared.kind.LogKind.{LogKind}
use Rattle.xc_text.specs.declared.kind.LogKind.TheVariants.{Form, Number, Key, Header, UnknownTablet, Range, AfterSplit, Limit, Orphan}
use Rattle.xc_text.specs.declared.kind.LogKind.TheVariants.{NoEnd}
use Rattle.xc_text.specs.declared.kind.Fail.{Fail}
use Rattle.xc_text.specs.declared.kind.Fail.TheVariants as fail

abbrev pub kind_name : LogKind → List ℕ
kind_name Form = codes "form"
kind_name Number = codes "number"
kind_name Key = codes "key"
kind_name Header = codes "header"
kind_name UnknownTablet = codes "unknown-tablet"
kind_name Range = codes "range"
kind_name AfterSplit = codes "after-split"
kind_name Limit = codes "limit"
kind_name Orphan = codes "orphan"
kind_name NoEnd = codes "no-end"

abbrev pub first_kind : List (Bool × LogKind) → Option LogKind
first_kind [] = None
first_kind (row ∷ rows) = if row.0 then Some row.1 else first_kind rows

-- form is looked for over the whole line first, then number, then key
abbrev pub judge : {A : Type 0} → (A → Bool) → (A → Bool) → Option A → Result A LogKind
judge numbers names None = Err Form
judge numbers names (Some x) = if numbers x then (if names x then Ok x else Err Key) else Err Number

-- where a number is bad too, that comes first
abbrev pub before_key : LogKind → LogKind
before_key Key = Number
before_key k = k

abbrev pub after_numbers : Bool → Fail → Fail
after_numbers true e = e
after_numbers false fail.NoMemory = fail.NoMemory
after_numbers false (fail.Bad k) = fail.Bad (before_key k)

abbrev pub IsInRange : (ℕ → Bool) → ℕ → Result ℕ Fail → Type 0
IsInRange fits value result =
    MatchResult result (λ number. (number ≡ value) × (fits value ≡ true)) (λ e. (e ≡ fail.Bad Number) × (fits value ≡ false))

abbrev pub Refuses : {B : Type 0} → Fail → Result B LogKind → Type 0
Refuses (fail.Bad kind) reading = reading ≡ Err kind
Refuses fail.NoMemory reading = Unit {0}

abbrev pub Answers : {A B : Type 0} → (A → B) → Result A Fail → Result B LogKind → Type 0
Answers view (Ok x) reading = reading ≡ Ok (view x)
Answers view (Err e) reading = Refuses e reading
