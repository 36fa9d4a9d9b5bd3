-- What commits by some records.
--     first_commit n rs, first_without n rs      the commit time that the first apply of n names, and the subtransactions that it says were
--         rolled back
--     commit_by kind      the commit of an apply
--     applies_in rs      the commits of all applies among the records rs
--     tally rs      how many writes and transactions commit by the records rs
--     IsTally t rs      t has the commits of the records rs, and counts what commits
use Rattle.std.specs.Prelude.{◌≡◌, ℕ, ◌+◌, List, Option, Some, None, length}
use Rattle.std.specs.List.{filter_map}
use Rattle.xc_record.specs.declared.record.Kind.{Kind}
use Rattle.xc_record.specs.declared.record.Kind.TheVariants.{Apply}
use Rattle.xc_record.specs.declared.record.Record.{Record}
use Rattle.xc_record.specs.Lists.{first_some, distinct}
use Rattle.xc_record.specs.Commits.{applies, rolls_back, applied_txn, write_ops}
use Rattle.xc_agree.specs.declared.commits.Commit.{Commit}
use Rattle.xc_agree.specs.declared.tally.Tally.{Tally}
use Rattle.xc_agree.specs.Slots.{time_of, without_of}

abbrev pub first_commit : ℕ → List Record → Option ℕ
first_commit n rs = first_some (λ r. applies n r.kind) rs

abbrev pub first_without : ℕ → List Record → Option (List ℕ)
first_without n rs = first_some (λ r. rolls_back n r.kind) rs

abbrev pub commit_by : Kind → Option Commit
commit_by (Apply txn commit without) = Some (record { txn = txn; time = commit; without = without })
commit_by _ = None

abbrev pub applies_in : List Record → List Commit
applies_in rs = filter_map (λ r. commit_by r.kind) rs

abbrev pub writes : List Record → ℕ
writes rs = length (filter_map (λ r. write_ops r.kind) rs)

abbrev pub applied_in : List Record → List ℕ
applied_in rs = filter_map (λ r. applied_txn r.kind) rs

abbrev pub tally : List Record → ℕ
tally rs = writes rs + length (distinct (applied_in rs))

pub record IsTally (t : Tally) (rs : List Record) : Type 0 where
  pub times : (n : ℕ) → time_of t.commits n ≡ first_commit n rs
  pub undone : (n : ℕ) → without_of t.commits n ≡ first_without n rs
  pub count : t.count ≡ tally rs
