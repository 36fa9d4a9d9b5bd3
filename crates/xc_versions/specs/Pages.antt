-- Pages of versions, whose keys and values lie in the bytes b.
--     slots_of p, first_of p, capacity_of p      what lies in a page's box, and for how many slots there is room
--     held b p, items_of b ps      the versions of a page, and of pages, one page after another
--     live_of b ps      the bytes of their operations
--     IsPage b p, IsEmptyPage p      1 to 64 versions, the first once more, and room for one more; no version, and room for 65
--     is_first_passed test p      the page's first version passes the test
--     Idle u xs rest      no version of xs is replaced at u by a later one of xs or of rest
--     IdleNext u xs rest      no version of xs is replaced at u by the next one
--     Dues b ps rest      a cutoff below a page's `due` takes nothing from the page, where rest stands behind the pages
--     load ps      how many versions the pages have above 32 each; 32 of no page
--     spare_of ps n      how many versions can be added for certain where there are n empty pages
use Rattle.std.specs.Prelude.{◌≡◌, ℕ, ◌+◌, ◌-◌, ◌*◌, ◌<◌, ◌≤◌, max, Bool, false, List, [], ◌∷◌, ◌++◌, length, map, flat_map, slice_index_or}
use Rattle.std.specs.VecDeque.{deque_capacity}
use Rattle.std.specs.List.{AllByRecursion}
use Rattle.xc_versions.specs.declared.stored.StoredVersion.{StoredVersion}
use Rattle.xc_versions.specs.declared.stored.Slot.{Slot}
use Rattle.xc_versions.specs.declared.page.Page.{Page}
use Rattle.xc_versions.specs.Slots.{seen, bytes_of}
use Rattle.xc_versions.specs.Heads.{IsSlot}
use Rattle.xc_versions.specs.Stored.{is_replaced, next_replaces, InOrder}

abbrev pub slots_of : Page → List Slot
slots_of p = p.body.value.items.items

abbrev pub first_of : Page → Slot
first_of p = p.body.value.first

abbrev pub capacity_of : Page → ℕ
capacity_of p = deque_capacity p.body.value.items

abbrev pub held : List ℕ → Page → List StoredVersion
held b p = map (seen b) (slots_of p)

abbrev pub items_of : List ℕ → List Page → List StoredVersion
items_of b ps = flat_map (held b) ps

abbrev pub live_of : List ℕ → List Page → List ℕ
live_of b ps = flat_map (λ p. bytes_of b (slots_of p)) ps

pub record IsPage (b : List ℕ) (p : Page) : Type 0 where
  pub some : 0 < length (slots_of p)
  pub few : length (slots_of p) ≤ 64
  pub room : 65 ≤ capacity_of p
  pub slots : AllByRecursion (IsSlot b) (slots_of p)
  pub first : first_of p ≡ slice_index_or (slots_of p) 0 (first_of p)

pub record IsEmptyPage (p : Page) : Type 0 where
  pub none : slots_of p ≡ []
  pub room : 65 ≤ capacity_of p

abbrev pub is_first_passed : (StoredVersion → Bool) → List StoredVersion → Bool
is_first_passed test [] = false
is_first_passed test (x ∷ xs) = test x

abbrev pub Idle : ℕ → List StoredVersion → List StoredVersion → Type 0
Idle u [] rest = Unit {0}
Idle u (x ∷ xs) rest = (is_replaced u x (xs ++ rest) ≡ false) × Idle u xs rest

-- the same, as each next version tells
abbrev pub IdleNext : ℕ → List StoredVersion → List StoredVersion → Type 0
IdleNext u [] rest = Unit {0}
IdleNext u (x ∷ xs) rest = (next_replaces u x (xs ++ rest) ≡ false) × IdleNext u xs rest

abbrev pub Dues : List ℕ → List Page → List StoredVersion → Type 0
Dues b [] rest = Unit {0}
Dues b (p ∷ ps) rest = ((u : ℕ) → u < p.due → Idle u (held b p) (items_of b ps ++ rest)) × Dues b ps rest

abbrev pub over : List Page → ℕ
over [] = 0
over (p ∷ ps) = (length (slots_of p) - 32) + over ps

abbrev pub load : List Page → ℕ
load [] = 32
load (p ∷ ps) = over (p ∷ ps)

abbrev pub spare_of : List Page → ℕ → ℕ
spare_of ps n = max n ((32 * n + 31) - load ps)

pub record IsPaged (b : List ℕ) (ps : List Page) (rest : List StoredVersion) : Type 0 where
  pub ordered : InOrder (items_of b ps)
  pub pages : AllByRecursion (IsPage b) ps
  pub dues : Dues b ps rest
