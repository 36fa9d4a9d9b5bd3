-- Rows while versions are gone over in order.
--     row_of k w      the row that an operation leaves at k, as a list of one, or none
--     Below rows k      the rows' keys are less than k
--     Under rows k      the rows fall into those of lesser keys and at most one of k, behind them
--     ops_to t xs      the operations of the versions with commit at most t
--     MayPass t xs i      the version i may be passed when rows at t are put
use Rattle.std.specs.Prelude.{◌≡◌, ℕ, ◌+◌, drop, nat_le, bytes_eq, Bool, false, List, [], ◌∷◌, ◌++◌, Option, Some, None, map, filter}
use Rattle.std.specs.List.{AllByRecursion}
use Rattle.std.specs.declared.cmp.Ordering.TheVariants.{Less}
use Rattle.std.specs.Ordering.{nat_cmp}
use Rattle.std.specs.Cmp.Lexicographic.{slice_cmp}
use Rattle.xc_record.specs.declared.record.Op.{Op}
use Rattle.xc_record.specs.Path.{Written}
use Rattle.xc_record.specs.Rows.{rows_after}
use Rattle.xc_record.specs.Kept.{written_by}
use Rattle.xc_versions.specs.declared.stored.StoredVersion.{StoredVersion}
use Rattle.xc_versions.specs.Stored.{key_versions}

abbrev pub row_of : List ℕ → Written → List (List ℕ × List ℕ)
row_of k (Some value) = (k, value) ∷ []
row_of k None = []

-- the row is there, and of the key
abbrev pub is_row_of : List ℕ → Option (List ℕ × List ℕ) → Bool
is_row_of k None = false
is_row_of k (Some r) = bytes_eq r.0 k

abbrev pub Below : List (List ℕ × List ℕ) → List ℕ → Type 0
Below rows k = AllByRecursion (λ r. slice_cmp nat_cmp r.0 k ≡ Less) rows

pub record Under (rows : List (List ℕ × List ℕ)) (k : List ℕ) : Type 0 where
  pub lesser : List (List ℕ × List ℕ)
  pub at : Written
  pub is : rows ≡ lesser ++ row_of k at
  pub below : Below lesser k

abbrev pub ops_to : ℕ → List StoredVersion → List Op
ops_to t xs = map written_by (filter (λ v. nat_le v.commit t) (key_versions xs))

-- rows under the keys from the version i on become the same at t without that version
abbrev pub MayPass : ℕ → List StoredVersion → ℕ → Type 0
MayPass t xs i = (rows : List (List ℕ × List ℕ)) → AllByRecursion (λ x. Under rows x.key) (drop i xs)
    → rows_after (ops_to t (drop i xs)) rows ≡ rows_after (ops_to t (drop (i + 1) xs)) rows
