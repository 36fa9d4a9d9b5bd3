-- What a list says of the dues of each 64 pages, so that a prune passes by those where nothing is due.
--     dues_of ps      what the pages are due for
--     Covers ds least      what is said of each 64 dues is at most each of them; 0 where nothing is said
--     NotAbove old new      of each 64 no more is said than before
--     Shrunk i ds es      the due i was replaced, or it is gone
--     Grew i n ds es      the due i became at most n, or two such stand in its place
use Rattle.std.specs.Prelude.{◌≡◌, ℕ, ◌+◌, ◌/◌, ◌<◌, ◌≤◌, ◌⊎◌, min, List, ◌∷◌, ◌++◌, length, take, drop, map, slice_index_or, slice_set}
use Rattle.xc_versions.specs.declared.page.Page.{Page}

abbrev pub dues_of : List Page → List ℕ
dues_of ps = map (λ (p : Page). p.due) ps

abbrev pub Covers : List ℕ → List ℕ → Type 0
Covers ds least = (k : ℕ) → k < length ds → slice_index_or least (k / 64) 0 ≤ slice_index_or ds k 0

abbrev pub NotAbove : List ℕ → List ℕ → Type 0
NotAbove old new = (k : ℕ) → slice_index_or new k 0 ≤ slice_index_or old k 0

abbrev pub Shrunk : ℕ → List ℕ → List ℕ → Type 0
Shrunk i ds es = (es ≡ slice_set ds i (slice_index_or es i 0)) ⊎ (es ≡ take i ds ++ drop (i + 1) ds)

abbrev pub Grew : ℕ → ℕ → List ℕ → List ℕ → Type 0
Grew i n ds es =
    (es ≡ slice_set ds i (min (slice_index_or ds i 0) n))
    ⊎ (es ≡ take i ds ++ (min (slice_index_or ds i 0) n ∷ min (slice_index_or ds i 0) n ∷ drop (i + 1) ds))
