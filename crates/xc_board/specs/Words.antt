-- The number in a tablet's word: 0 while it waits, a time and 1 while it is active, the greatest number once it is gone.
use Rattle.std.specs.Prelude.{ℕ, zero, suc, ◌+◌, ◌-◌, ◌==◌, if◌then◌else◌, List, [], ◌∷◌, map, min}
use Rattle.xc_board.specs.declared.tablet.WordState.{WordState}
use Rattle.xc_board.specs.declared.tablet.WordState.TheVariants.{Waiting, At, Gone}
use Rattle.xc_board.specs.declared.tablet.BoardTablet.{BoardTablet}

-- the word of a tablet that is gone, 2^64-1
abbrev pub gone : ℕ
gone = 18446744073709551615

abbrev pub word_of : WordState → ℕ
word_of Waiting = 0
word_of (At t) = t + 1
word_of Gone = gone

-- what a word stands for
abbrev pub state_of : ℕ → WordState
state_of zero = Waiting
state_of (suc t) = if suc t == gone then Gone else At t

abbrev pub words_of : List BoardTablet → List ℕ
words_of ts = map (λ t. word_of t.state) ts

-- the lesser of a bound and a word's time, where it has one; a word that is gone is past every bound
abbrev pub lesser : ℕ → ℕ → ℕ
lesser b x = if x == 0 then b else min b (x - 1)

-- the least time of the active words, or the bound where that is less
abbrev pub least : ℕ → List ℕ → ℕ
least b [] = b
least b (x ∷ xs) = least (lesser b x) xs
