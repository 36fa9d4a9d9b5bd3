-- The slots of the transactions that commit.
--     slot_of commits n      the place of the transaction n among those that commit
--     field_of f commits n      what f says of the commit of the transaction n
--     time_of commits n      the commit time of the transaction n
--     without_of commits n      its subtransactions that were rolled back
--     undone_of commits n      the same, and none where it doesn't commit
--     Rises commits      the numbers of the transactions rise
use Rattle.std.specs.Prelude.{ℕ, ◌==◌, List, [], Option, Some, None, if◌then◌else◌, map}
use Rattle.std.specs.Option.{option_map_or}
use Rattle.std.specs.List.{position}
use Rattle.std.specs.List.Sorted.{IsStrictlyIncreasing}
use Rattle.xc_record.specs.Lists.{first_some}
use Rattle.xc_agree.specs.declared.commits.Commit.{Commit}

abbrev pub slot_of : List Commit → ℕ → Option ℕ
slot_of commits n = position (λ c. c.txn == n) commits

abbrev pub field_at : {X : Type 0} → (Commit → X) → ℕ → Commit → Option X
field_at f n c = if c.txn == n then Some (f c) else None

abbrev pub field_of : {X : Type 0} → (Commit → X) → List Commit → ℕ → Option X
field_of f commits n = first_some (field_at f n) commits

abbrev pub time_of : List Commit → ℕ → Option ℕ
time_of commits n = field_of (λ c. c.time) commits n

abbrev pub without_of : List Commit → ℕ → Option (List ℕ)
without_of commits n = field_of (λ c. c.without) commits n

abbrev pub undone_of : List Commit → ℕ → List ℕ
undone_of commits n = option_map_or (λ without. without) (without_of commits n) []

abbrev pub Rises : List Commit → Type 0
Rises commits = IsStrictlyIncreasing (map (λ c. c.txn) commits)
