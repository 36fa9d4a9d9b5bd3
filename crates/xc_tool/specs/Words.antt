-- The words of the command line, and which command they form.
--     is_name word      the word may name a source: it is neither empty nor begins with `-`
--     number_from least most word      the number that the word spells, where it is from `least` to `most`
--     form_of words      the command, where the words form one
--     FormFits form      what holds of every command that words form
use Rattle.std.specs.Prelude.{ℕ, ◌≤◌, ◌-◌, ◌^◌, Bool, false, not, ◌&&◌, ◌==◌, nat_le, if◌then◌else◌, List, [], ◌∷◌, codes, Option, Some}
use Rattle.std.specs.Prelude.{None}
use Rattle.std.specs.Prelude.{option_and_then}
use Rattle.std.specs.Str.{bytes_eq}
use Rattle.xc_base.specs.Words.{number_of}
use Rattle.xc_source.specs.declared.workload.TheConstants.{MOST_STEPS}
use Rattle.xc_tool.specs.declared.words.Form.{Form}
use Rattle.xc_tool.specs.declared.words.Form.TheVariants.{Audit, Gen, Make, Replay, Upgrade}

abbrev pub is_name : List ℕ → Bool
is_name [] = false
is_name (b ∷ bs) = not (b == 45)

-- ---- numbers

abbrev pub in_range : ℕ → ℕ → ℕ → Option ℕ
in_range least most n = if nat_le least n && nat_le n most then Some n else None

abbrev pub number_from : ℕ → ℕ → List ℕ → Option ℕ
number_from least most word = option_and_then (in_range least most) (number_of word)

-- ---- commands

-- a number of 64 bits, and how many steps
abbrev pub workload_of : List ℕ → List ℕ → Option Form
workload_of number size =
    option_and_then (λ n. option_and_then (λ s. Some (Gen n s)) (number_from 1 MOST_STEPS size)) (number_from 0 (2 ^ 64 - 1) number)

abbrev pub form_of : List (List ℕ) → Option Form
form_of (word ∷ first ∷ second ∷ []) =
    if bytes_eq word (codes "replay") && (is_name first && is_name second) then Some Replay
    else (if bytes_eq word (codes "gen") then workload_of first second else None)
form_of (word ∷ logs ∷ []) =
    if bytes_eq word (codes "audit") && is_name logs then Some Audit
    else (if bytes_eq word (codes "upgrade") && is_name logs then Some Upgrade
    else (if bytes_eq word (codes "make") && is_name logs then Some Make else None))
form_of words = None

-- a workload has a step at least, and no more than the limit
abbrev pub FormFits : Form → Type 0
FormFits Replay = Unit {0}
FormFits Audit = Unit {0}
FormFits Upgrade = Unit {0}
FormFits Make = Unit {0}
FormFits (Gen number size) = (1 ≤ size) × (size ≤ MOST_STEPS)
