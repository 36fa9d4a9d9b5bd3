-- How the list of commits is kept.
--     commit_of ops p      the commit whose operations lie at the place p among those of all commits
--     AreCommits ps ops count      the operations at each of the places are there, and count is how many there are
use Rattle.std.specs.Prelude.{◌≡◌, ℕ, ◌+◌, Bool, true, List, length, take, drop, nat_le}
use Rattle.std.specs.List.{list_all}
use Rattle.xc_record.specs.declared.record.Op.{Op}
use Rattle.xc_source.specs.declared.commit.Commit.{Commit}
use Rattle.xc_source.specs.declared.commits.Place.{Place}

abbrev pub commit_of : List Op → Place → Commit
commit_of ops p = record { time = p.time; txn = p.txn; ops = take p.count (drop p.first ops) }

abbrev pub lies_in : List Op → Place → Bool
lies_in ops p = nat_le (p.first + p.count) (length ops)

pub record AreCommits (places : List Place) (ops : List Op) (count : ℕ) : Type 0 where
  pub within : list_all (lies_in ops) places ≡ true
  pub counted : count ≡ length ops
