-- A text that is read line by line. A is what texts spell, S what the lines so far gave, and K why a line is bad.
--     BadLine K      the number of a bad line, counted from 1, and why it is bad
--     first_kind rows      the kind of the first row whose test is true; None where none is
--     Rules S A K      how such texts are read
--     lines_from rules s pieces      what the pieces between line ends spell, behind the lines that gave s, or the first bad line
use Rattle.std.specs.Prelude.{ℕ, ◌+◌, Bool, true, false, List, [], ◌∷◌, Option, Some, None, Result, Ok, Err, if◌then◌else◌}

pub record BadLine (K : Type 0) : Type 0 where
  pub line : ℕ
  pub kind : K

abbrev pub first_kind : {K : Type 0} → List (Bool × K) → Option K
first_kind [] = None
first_kind (row ∷ rows) = if row.0 then Some row.1 else first_kind rows

abbrev pub unless_bad : {A K : Type 0} → Option K → A → Result A K
unless_bad None x = Ok x
unless_bad (Some k) x = Err k

pub record Rules (S A K : Type 0) : Type 0 where
  -- how many lines there were
  pub lines : S → ℕ
  -- what they give with one more, or why that one is bad
  pub step : S → List ℕ → Result S K
  -- what a text spells that goes no further
  pub ending : S → Result A (BadLine K)
  -- why a line without a line end is bad
  pub unended : K

-- the line after those so far is bad
abbrev pub bad_next : {S A K : Type 0} → Rules S A K → S → K → Result A (BadLine K)
bad_next rules s k = Err (record { line = rules.lines s + 1; kind = k })

abbrev pub is_empty : List ℕ → Bool
is_empty [] = true
is_empty (byte ∷ bytes) = false

-- the bytes after the last line end, which are to be none
abbrev pub rest_of_text : {S A K : Type 0} → Rules S A K → S → List ℕ → Result A (BadLine K)
rest_of_text rules s rest = if is_empty rest then rules.ending s else bad_next rules s rules.unended

abbrev pub go_on : {S A K : Type 0} → Rules S A K → S → Result S K → (S → Result A (BadLine K)) → Result A (BadLine K)
go_on rules s (Ok after) more = more after
go_on rules s (Err k) more = bad_next rules s k

-- the lines that are left, each ended by a line end but for the last piece
abbrev pub lines_from : {S A K : Type 0} → Rules S A K → S → List (List ℕ) → Result A (BadLine K)
lines_from rules s [] = rules.ending s
lines_from rules s (piece ∷ []) = rest_of_text rules s piece
lines_from rules s (piece ∷ (next ∷ pieces)) = go_on rules s (rules.step s piece) (λ after. lines_from rules after (next ∷ pieces))
