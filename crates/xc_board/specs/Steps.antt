-- What each step on a word of a board tells the seat that makes it.
use Rattle.std.specs.Prelude.{◌≡◌, ℕ, ◌+◌, ◌≤◌, max, false, List, [], ◌∷◌, slice_index, slice_set}
use Rattle.atomic_table.specs.Table.{Step, Me}
use Rattle.xc_board.specs.declared.rule.SeatView.{SeatView}
use Rattle.xc_board.specs.Tree.{unbounded, IsBelowEnds}
use Rattle.xc_board.specs.Words.{lesser}
use Rattle.xc_board.specs.Rule.{AreWords}

-- the same view, with the word of the tablet i known as n
abbrev pub knows : SeatView → ℕ → ℕ → SeatView
knows v i n = record v { known = slice_set v.known i n }

-- the same view after the next word of a scan was found as n
abbrev pub passes : SeatView → ℕ → SeatView
passes v n = record v { known = slice_set v.known v.next n; next = v.next + 1; bound = lesser v.bound n }

-- the same view with no scan under way and the watermark n seen
abbrev pub renewed : SeatView → ℕ → SeatView
renewed v n = record v { next = 0; bound = unbounded; seen = n }

-- the same view with the watermark n seen
abbrev pub sees : SeatView → ℕ → SeatView
sees v n = record v { seen = n }

-- a view, and the slots that the seat holds, of which a board has none
abbrev pub Seated : Type 0
Seated = Me (Unit {0}) SeatView

-- raise, activate and retire: a word that was n became the greater of n and the step's number
abbrev pub Raised : Step (Unit {0}) → Seated → ℕ → Seated → Type 0
Raised s v n w = (w ≡ (knows v.0 s.word (max n s.first), v.1)) × (slice_index v.0.known s.word ≤ n)
    × AreWords v.0.tablets (slice_index w.0.known)

-- one word of a scan
abbrev pub Scanned : Step (Unit {0}) → Seated → ℕ → Seated → Type 0
Scanned s v n w = (w ≡ (passes v.0 n, v.1)) × (slice_index v.0.known v.0.next ≤ n) × AreWords v.0.tablets (slice_index w.0.known)

-- the watermark was n, and became the greater of n and the bound
abbrev pub Published : Step (Unit {0}) → Seated → ℕ → Seated → Type 0
Published s v n w = (w ≡ (renewed v.0 (max n s.first), v.1)) × (v.0.seen ≤ n) × IsBelowEnds v.0.tablets (max n s.first)

-- the watermark is n
abbrev pub Observed : Step (Unit {0}) → Seated → ℕ → Seated → Type 0
Observed s v n w = (w ≡ (sees v.0 n, v.1)) × (v.0.seen ≤ n) × IsBelowEnds v.0.tablets n

-- the greater of what two seats know, tablet by tablet
abbrev pub greater : List ℕ → List ℕ → List ℕ
greater [] ys = ys
greater (x ∷ xs) [] = x ∷ xs
greater (x ∷ xs) (y ∷ ys) = max x y ∷ greater xs ys

-- what two seats have seen and know, in one view
abbrev pub merged : SeatView → SeatView → SeatView
merged v w = record v { known = greater v.known w.known; seen = max v.seen w.seen }

-- the view that a join leaves
abbrev pub spent : SeatView
spent = record { live = false; tablets = []; known = []; next = 0; bound = 0; seen = 0 }
