-- The page that a search among pages ends at.
use Rattle.std.specs.Prelude.{◌≡◌, ℕ, ◌+◌, Bool, true, false, List, take, drop, slice_index_or, ◌⊎◌}
use Rattle.std.specs.List.{AllByRecursion}
use Rattle.xc_versions.specs.declared.stored.StoredVersion.{StoredVersion}
use Rattle.xc_versions.specs.declared.page.Page.{Page}
use Rattle.xc_versions.specs.Pages.{held, items_of, is_first_passed}

-- Around the last page that begins with a version that passes, or the first page where none does: before it all pass, and behind it none.
pub record Around (b : List ℕ) (p : StoredVersion → Bool) (ps : List Page) (i : ℕ) : Type 0 where
  pub before : AllByRecursion (λ x. p x ≡ true) (items_of b (take i ps))
  pub behind : AllByRecursion (λ x. p x ≡ false) (items_of b (drop (i + 1) ps))
  pub first : (i ≡ 0) ⊎ ((q : Page) → q ≡ slice_index_or ps i q → is_first_passed p (held b q) ≡ true)
