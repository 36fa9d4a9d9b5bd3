-- What the definitions say of small logs.
use Rattle.std.proofs.Common.{◌≡◌, ℕ, [], ◌∷◌, Some, None, refl, length, true, false, map}
use Rattle.std.specs.Prelude.{codes, Bool}
use Rattle.xc_record.specs.declared.record.AgreeKind.TheVariants.{CommitDiffers, Straggler}
use Rattle.xc_record.specs.Hash.{hash_of}
use Rattle.xc_record.specs.Accepted.{accepted_tablets, accepted}
use Rattle.xc_record.specs.Path.{path_to, events, waiting, versions}
use Rattle.xc_record.specs.Rows.{rows, row}
use Rattle.xc_record.specs.SafeTime.{safe_time}
use Rattle.xc_record.specs.Agreement.{disagreement}
use Rattle.xc_record.specs.Valid.{is_valid}
use Rattle.xc_record.proofs.WorkedLogs.{computed, a, b, c, z, two_tablets, with_split, with_late_apply, with_equal_commits}

hashes : map hash_of (codes "aaa" ∷ codes "bbb" ∷ codes "mmm" ∷ codes "ttt" ∷ codes "zzz" ∷ []) ≡ 30785 ∷ 31778 ∷ 42701 ∷ 49652 ∷ 55610 ∷ []
unfolding computed
hashes = refl

-- a transaction over two tablets
two-agrees : disagreement (two_tablets 14 15) ≡ None
unfolding computed
two-agrees = refl

two-safe : safe_time (two_tablets 14 15) (3 ∷ 2 ∷ []) ≡ 14
unfolding computed
two-safe = refl

two-safe-later : safe_time (two_tablets 14 15) (3 ∷ 4 ∷ []) ≡ 22
unfolding computed
two-safe-later = refl

two-rows : rows (two_tablets 14 15) 14 ≡ []
unfolding computed
two-rows = refl

two-rows-later : rows (two_tablets 14 15) 22 ≡ (a, codes "1") ∷ (z, codes "2") ∷ []
unfolding computed
two-rows-later = refl

-- its applies with two commits, and a safe record at its commit while an operation of it waits
two-differs : disagreement (two_tablets 14 16) ≡ Some (record { txn = 7; tablet = 1; kind = CommitDiffers })
unfolding computed
two-differs = refl

two-straggler : disagreement (two_tablets 15 15) ≡ Some (record { txn = 7; tablet = 1; kind = Straggler })
unfolding computed
two-straggler = refl

-- an operation that waits through a split
split-safe-0 : safe_time (with_split 14) (4 ∷ 0 ∷ 0 ∷ []) ≡ 12
unfolding computed
split-safe-0 = refl

split-safe-1 : safe_time (with_split 14) (4 ∷ 1 ∷ 0 ∷ []) ≡ 12
unfolding computed
split-safe-1 = refl

split-safe-2 : safe_time (with_split 14) (4 ∷ 1 ∷ 2 ∷ []) ≡ 17
unfolding computed
split-safe-2 = refl

split-row : row (with_split 14) 17 z ≡ Some (codes "9")
unfolding computed
split-row = refl

split-waits : waiting (events z (path_to (with_split 14) (4 ∷ 0 ∷ 0 ∷ []) z)) ≡ record { txn = 5; sub = 0; value = Some (codes "9") } ∷ []
unfolding computed
split-waits = refl

split-versions : versions (events z (path_to (with_split 14) (4 ∷ 0 ∷ 2 ∷ []) z)) ≡ record
    { commit = 16; txn = 5; value = Some (codes "9") } ∷ []
unfolding computed
split-versions = refl

-- a split that is not accepted: its children are not reached
split-unreached : map {B = Bool × ℕ × ℕ} (λ b. (b.reached, length b.records, b.end.floor)) (accepted_tablets (with_split 13)) ≡
    (true, 3, 12) ∷ (false, 0, 12) ∷ (false, 0, 12) ∷ []
unfolding computed
split-unreached = refl

-- an apply with a commit at the floor
late-accepted : length (accepted (with_late_apply 12) 0) ≡ 3
unfolding computed
late-accepted = refl

late-rows : rows (with_late_apply 12) 12 ≡ (a, codes "1") ∷ []
unfolding computed
late-rows = refl

late-rows-13 : rows (with_late_apply 13) 21 ≡ (a, codes "1") ∷ (b, codes "2") ∷ []
unfolding computed
late-rows-13 = refl

-- two transactions with one commit, in the order of their numbers
equal-rows-14 : rows with_equal_commits 14 ≡ (c, codes "z") ∷ []
unfolding computed
equal-rows-14 = refl

equal-rows-15 : rows with_equal_commits 15 ≡ (a, codes "t3") ∷ (b, codes "y") ∷ []
unfolding computed
equal-rows-15 = refl

equal-safe : safe_time with_equal_commits (6 ∷ []) ≡ 15
unfolding computed
equal-safe = refl

pub valid-two : is_valid (two_tablets 14 15) ≡ true
unfolding computed
valid-two = refl

valid-split : is_valid (with_split 14) ≡ true
unfolding computed
valid-split = refl

valid-equal : is_valid with_equal_commits ≡ true
unfolding computed
valid-equal = refl
