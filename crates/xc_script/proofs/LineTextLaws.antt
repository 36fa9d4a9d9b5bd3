-- The lines of a text, one after the other.
use Rattle.std.proofs.Common.{◌≡◌, ℕ, ◌+◌, ◌<◌, Bool, true, false, List, [], ◌∷◌, ◌++◌, length, drop, get_or, Bor, Result, Ok, Err, refl}
use Rattle.std.proofs.Common.{sym, ap, ◌∙◌, append_assoc, not}
use Rattle.std.specs.Prelude.{flat_map, if◌then◌else◌, Some, ⊤}
use Rattle.std.specs.List.{join_with_byte}
use Rattle.std.proofs.lemmas.Bool.{true≢false}
use Rattle.std.proofs.lemmas.List.{append-nil}
use Rattle.xc_base.specs.Words.{split_on}
use Rattle.xc_base.proofs.WordLaws.{join-split_on}
use Rattle.xc_script.specs.LineText.{BadLine, Rules, first_kind, unless_bad, go_on, lines_from}
use Rattle.xc_script.specs.Spelled.{words_line}
use Rattle.xc_script.proofs.WordLists.{next_word, texts}

-- ---- one line

unfoldable pub AllFalse : {K : Type 0} → List (Bool × K) → Type 0
AllFalse [] = ⊤
AllFalse (row ∷ rows) = (row.0 ≡ false) × AllFalse rows

-- where a line was taken, each of the tests is false
pub passed : {S K : Type 0} (rows : List (Bool × K)) (m after : S) → unless_bad (first_kind rows) m ≡ Ok after
    → AllFalse rows × (m ≡ after)
unfolding AllFalse
passed [] m after e = (tt, cc)
passed {K = K} (row ∷ rows) m after e = by row.0 refl e (λ e. passed rows m after e)
  where
    by : (b : Bool) → row.0 ≡ b → unless_bad (if b then Some row.1 else first_kind rows) m ≡ Ok after
        → (unless_bad (first_kind rows) m ≡ Ok after → AllFalse rows × (m ≡ after)) → ((row.0 ≡ false) × AllFalse rows) × (m ≡ after)
    by true is e more = cc
    by false is e more = let rest = more e in ((is, rest.0), rest.1)

-- a reading by itself, and what the step goes on to
abbrev pub then_by : {B S K : Type 0} → (B → Result S K) → Result B K → Result S K
then_by more (Ok b) = more b
then_by more (Err k) = Err k

pub judged : {B S K : Type 0} (form number name : K) (more : B → Result S K) (b : B) (place numbers names : Bool)
    (later : List (Bool × K)) (after : S)
    → place ≡ false → unless_bad (first_kind later) after ≡ more b
    → unless_bad (first_kind ((place, form) ∷ (not numbers, number) ∷ (not names, name) ∷ later)) after
    ≡ then_by more (if numbers then (if names then Ok b else Err name) else Err number)
judged form number name more b true numbers names later after p e = absurd (true≢false p)
judged form number name more b false true true later after p e = e
judged form number name more b false true false later after p e = refl
judged form number name more b false false names later after p e = refl

-- ---- a line and those behind it

-- a piece that others follow is a line
one_line : {S A K : Type 0} (rules : Rules S A K) (s : S) (piece : List ℕ) (later : List (List ℕ)) (rest : List ℕ)
    → lines_from rules s (piece ∷ (later ++ rest ∷ []))
    ≡ go_on rules s (rules.step s piece) (λ after. lines_from rules after (later ++ rest ∷ []))
one_line rules s piece [] rest = refl
one_line rules s piece (next ∷ later) rest = refl

pub taken : {S A K : Type 0} (rules : Rules S A K) (s after : S) (piece : List ℕ) (later : List (List ℕ)) (rest : List ℕ)
    → rules.step s piece ≡ Ok after
    → lines_from rules s (piece ∷ (later ++ rest ∷ [])) ≡ lines_from rules after (later ++ rest ∷ [])
taken rules s after piece later rest is =
    one_line rules s piece later rest ∙ ap (λ r. go_on rules s r (λ after. lines_from rules after (later ++ rest ∷ []))) is

pub line_taken : {S A K : Type 0} (rules : Rules S A K) (s after : S) (lines : List (Bor (List ℕ))) (i : ℕ) (d : Bor (List ℕ))
    (rest : List ℕ) (whole : Result A (BadLine K)) → i < length lines
    → rules.step s (get_or lines i d).now ≡ Ok after → lines_from rules s (texts (drop i lines) ++ rest ∷ []) ≡ whole
    → lines_from rules after (texts (drop (i + 1) lines) ++ rest ∷ []) ≡ whole
line_taken rules s after lines i d rest whole h is on =
    sym (ap (λ pieces. lines_from rules s (pieces ++ rest ∷ [])) (next_word lines i d h)
    ∙ taken rules s after (get_or lines i d).now (texts (drop (i + 1) lines)) rest is) ∙ on

-- ---- the whole text

pub ok_is : {A E : Type 0} (a b : A) → (let whole : Result A E = Ok a in whole) ≡ Ok b → a ≡ b
ok_is a b e = cc

-- words, line by line, that spell x and give the pieces behind the lines before
pub record Found {A : Type 0} (Spells : A → List (List (List ℕ)) → Type 0) (before : List (List (List ℕ))) (pieces : List (List ℕ))
    (x : A) : Type 0 where
  pub words : List (List (List ℕ))
  pub spelled : Spells x words
  pub lines : flat_map words_line before ++ join_with_byte 10 pieces ≡ flat_map words_line words

lines_more : (before : List (List (List ℕ))) (words : List (List ℕ))
    → flat_map words_line (before ++ words ∷ []) ≡ flat_map words_line before ++ words_line words
lines_more [] words = append-nil (words_line words)
lines_more (line ∷ before) words =
    ap (λ l. words_line line ++ l) (lines_more before words)
    ∙ sym (append_assoc (words_line line) (flat_map words_line before) (words_line words))

line_of_bytes : (bytes rest : List ℕ) → words_line (split_on 32 bytes) ++ rest ≡ bytes ++ 10 ∷ rest
line_of_bytes bytes rest = append_assoc (join_with_byte 32 (split_on 32 bytes)) (10 ∷ []) rest
    ∙ ap (λ l. l ++ 10 ∷ rest) (join-split_on 32 bytes)

with_line : {A : Type 0} (Spells : A → List (List (List ℕ)) → Type 0) (before : List (List (List ℕ))) (piece next : List ℕ)
    (pieces : List (List ℕ)) (x : A)
    → Found Spells (before ++ split_on 32 piece ∷ []) (next ∷ pieces) x → Found Spells before (piece ∷ (next ∷ pieces)) x
with_line Spells before piece next pieces x found = record {
  words = found.words;
  spelled = found.spelled;
  lines =
      let rest = join_with_byte 10 (next ∷ pieces) in
      ap (λ l. flat_map words_line before ++ l) (sym (line_of_bytes piece rest))
      ∙ sym (append_assoc (flat_map words_line before) (words_line (split_on 32 piece)) rest)
      ∙ ap (λ l. l ++ rest) (sym (lines_more before (split_on 32 piece)))
      ∙ found.lines;
}

-- where each step keeps what its words make of a state, and the end makes words that spell what is read of it, the text has these words
pub lines_found : {S A K : Type 0} (rules : Rules S A K) (Back : S → List (List (List ℕ)) → Type 0)
    (Spells : A → List (List (List ℕ)) → Type 0)
    → ((s after : S) (before : List (List (List ℕ))) (bytes : List ℕ) → Back s before → rules.step s bytes ≡ Ok after
    → Back after (before ++ split_on 32 bytes ∷ []))
    → ((s : S) (before : List (List (List ℕ))) (x : A) → Back s before → rules.ending s ≡ Ok x → Spells x before)
    → (s : S) (before : List (List (List ℕ))) (pieces : List (List ℕ)) (x : A) → Back s before → lines_from rules s pieces ≡ Ok x
    → Found Spells before pieces x
lines_found rules Back Spells steps ends s before [] x back e =
    record { words = before; spelled = ends s before x back e; lines = append-nil (flat_map words_line before) }
lines_found rules Back Spells steps ends s before ([] ∷ []) x back e =
    record { words = before; spelled = ends s before x back e; lines = append-nil (flat_map words_line before) }
lines_found rules Back Spells steps ends s before ((byte ∷ rest) ∷ []) x back e = cc
lines_found {S = S} {K = K} rules Back Spells steps ends s before (piece ∷ (next ∷ pieces)) x back e =
    by (rules.step s piece) refl e (λ after before back e. lines_found rules Back Spells steps ends after before (next ∷ pieces) x back e)
  where
    by : (r : Result S K) → rules.step s piece ≡ r → go_on rules s r (λ after. lines_from rules after (next ∷ pieces)) ≡ Ok x
        → ((after : S) (before : List (List (List ℕ))) → Back after before → lines_from rules after (next ∷ pieces) ≡ Ok x
        → Found Spells before (next ∷ pieces) x) → Found Spells before (piece ∷ (next ∷ pieces)) x
    by (Ok after) is e on =
        with_line Spells before piece next pieces x (on after (before ++ split_on 32 piece ∷ []) (steps s after before piece back is) e)
    by (Err k) is e on = cc
