-- Pages of versions, whose keys and values lie in the bytes b, beside empty pages.
--     HasRoom pages pool      both can hold all pages and all empty pages
--     IsStored b pages pool least      and what is said of each 64 pages holds
--     Gains b v pages pages2 pool pool2      the version v was put at its place, and room for one less may be left
--     Loses b pages pages2 pool pool2 i left      the page i lost versions: of it and what stands behind it, `left` is there now
--     Walked b f old new i      f says what the pages from i on hold now, and those before it are as they were
use Rattle.std.specs.Prelude.{◌≡◌, ℕ, ◌+◌, ◌≤◌, List, [], length, take, drop, slice_index_or, vec_capacity, Vec}
use Rattle.std.specs.VecDeque.{deque_capacity}
use Rattle.std.specs.declared.collections.VecDeque.{VecDeque}
use Rattle.std.specs.List.{AllByRecursion}
use Rattle.std.specs.declared.alloc.Global.{Global}
use Rattle.xc_versions.specs.declared.stored.StoredVersion.{StoredVersion}
use Rattle.xc_versions.specs.declared.page.Page.{Page}
use Rattle.xc_versions.specs.Stored.{with_version}
use Rattle.xc_versions.specs.Pages.{held, items_of, spare_of, IsPaged, IsEmptyPage}
use Rattle.xc_versions.specs.Dues.{dues_of, Covers, Shrunk}

pub record HasRoom (pages : VecDeque Page Global) (pool : Vec Page Global) : Type 0 where
  pub pages_room : length pages.items + length pool.items ≤ deque_capacity pages
  pub pool_room : length pages.items + length pool.items ≤ vec_capacity pool

pub record IsStore (b : List ℕ) (pages : VecDeque Page Global) (pool : Vec Page Global) : Type 0 where
  pub paged : IsPaged b pages.items []
  pub empty : AllByRecursion IsEmptyPage pool.items
  pub room : HasRoom pages pool

pub record IsStored (b : List ℕ) (pages : VecDeque Page Global) (pool : Vec Page Global) (least : Vec ℕ Global)
    : Type 0 where
  pub store : IsStore b pages pool
  pub dues : Covers (dues_of pages.items) least.items

pub record Gains (b : List ℕ) (v : StoredVersion) (pages pages2 : VecDeque Page Global) (pool pool2 : Vec Page Global) : Type 0 where
  pub store : IsStore b pages2 pool2
  pub items : items_of b pages2.items ≡ with_version v (items_of b pages.items)
  pub spare : spare_of pages.items (length pool.items) ≤ spare_of pages2.items (length pool2.items) + 1

pub record Loses (b : List ℕ) (pages pages2 : VecDeque Page Global) (pool pool2 : Vec Page Global) (i : ℕ)
    (left : List StoredVersion → List StoredVersion → List StoredVersion) : Type 0 where
  pub store : IsStore b pages2 pool2
  pub front : take i pages2.items ≡ take i pages.items
  pub tail : (q : Page) → q ≡ slice_index_or pages.items i q
      → items_of b (drop i pages2.items) ≡ left (held b q) (items_of b (drop (i + 1) pages.items))
  pub spare : spare_of pages.items (length pool.items) ≤ spare_of pages2.items (length pool2.items)
  pub dues : Shrunk i (dues_of pages.items) (dues_of pages2.items)
  pub len : i ≤ length pages2.items

pub record Walked (b : List ℕ) (f : List StoredVersion → List StoredVersion) (old new : List Page) (i : ℕ) : Type 0 where
  pub within : i ≤ length old
  pub short : i ≤ length new
  pub front : take i new ≡ take i old
  pub tail : items_of b (drop i new) ≡ f (items_of b (drop i old))
