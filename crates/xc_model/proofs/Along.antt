-- What proofs on the events of a key speak of: logs, the accepted tablets along its path, and agreement there.
use Rattle.xc_model.proofs.Common.{◌≡◌, ℕ, ◌<◌, Bool, true, false, List, [], ◌∷◌, ◌++◌, Option, Some, None, if◌then◌else◌, has, Event, Put}
use Rattle.xc_model.proofs.Common.{Hold, Apply, Abort, Written, Version, Fate, Waits, versions, waiting, Kept, kept_from, Kind, Logs}
use Rattle.xc_model.proofs.Common.{AcceptedTablet, ◌≤◌, take, length, flat_map, option_map_or, ◌⊎◌, Record, holds, commit_of, undone}
use Rattle.xc_model.proofs.Common.{Progress, safe_value, place, is_closed_in, IsGrown, straggles_at, Each}
pub use Rattle.xc_record.proofs.PathLaws.{path_of}

-- what the events of a path leave at a cutoff u
abbrev pub shown : ℕ → List Event → Kept
shown u es = record { versions = kept_from u (versions es); held = waiting es }

-- the commit of an operation of the subtransaction: none where it was rolled back
abbrev pub commits_at : Logs → ℕ → ℕ → Option ℕ
commits_at logs n sub = if has sub (undone logs n) then None else commit_of logs n

abbrev pub version_at : Option ℕ → ℕ → Written → List Version
version_at None n v = []
version_at (Some c) n v = record { commit = c; txn = n; value = v } ∷ []

-- an operation commits at its transaction's commit, wherever that is decided
abbrev pub committed : Logs → List Event → List Version
committed logs [] = []
committed logs (Put time v ∷ es) = record { commit = time; txn = 0; value = v } ∷ committed logs es
committed logs (Hold n sub time v ∷ es) = version_at (commits_at logs n sub) n v ++ committed logs es
committed logs (_ ∷ es) = committed logs es

abbrev pub IsAfter : ℕ → Option ℕ → Type 0
IsAfter t None = Unit {0}
IsAfter t (Some c) = t < c

-- Agreement as inductions on events use it (FromCases): an intent stands below its transaction's commit, an apply has its transaction's
-- outcome, and what is aborted has no commit.
abbrev pub AgreesAt : Logs → Event → Type 0
AgreesAt logs (Hold n sub time v) = IsAfter time (commit_of logs n)
AgreesAt logs (Apply n c without) = (commit_of logs n ≡ Some c) × (undone logs n ≡ without)
AgreesAt logs (Abort n) = commit_of logs n ≡ None
AgreesAt logs _ = Unit {0}

-- whatever this event adds commits after t
abbrev pub ComesAfter : Logs → ℕ → Event → Type 0
ComesAfter logs t (Put time v) = t < time
ComesAfter logs t (Hold n sub time v) = IsAfter t (commit_of logs n)
ComesAfter logs t _ = Unit {0}

-- transaction numbers begin at 1
abbrev pub IsNumbered : Event → Type 0
IsNumbered (Hold n sub time v) = 0 < n
IsNumbered _ = Unit {0}

abbrev pub still : Fate → Bool
still Waits = true
still _ = false

-- ---- The accepted tablets along the path of a key, parents first. Threads, Stops and LegalChain are what inductions carry from a tablet
-- to its child; that they hold of the tablets with a hash is in Tree.

abbrev pub own : ℕ → AcceptedTablet → Bool
own h b = holds b.header h

abbrev pub records_along : List AcceptedTablet → List Record
records_along xs = flat_map (λ b. b.records) xs

abbrev pub applied_in : List ℕ → AcceptedTablet → List Record
applied_in ps b = take (place ps b) b.records

abbrev pub applied_along : List ℕ → List AcceptedTablet → List Record
applied_along ps xs = flat_map (applied_in ps) xs

abbrev pub floor_by : ℕ → Kind → ℕ
floor_by f k = option_map_or (λ value. value) (safe_value k) f

-- a root begins as if after a split at floor 0 and time 0
abbrev pub origin : Progress
origin = record { floor = 0; last = 0; split = true }

abbrev pub begun : Progress → Progress
begun o = record { floor = o.floor; last = o.last; split = false }

-- b begins where o ends
pub record Continues (o : Progress) (b : AcceptedTablet) : Type 0 where
  pub grown : IsGrown b
  pub start : b.start ≡ begun o

-- each tablet begins where the one before ends
abbrev pub Threads : Progress → List AcceptedTablet → Type 0
Threads o [] = Unit {0}
Threads o (b ∷ bs) = Continues o b × Threads b.end bs

-- the last one has no split
abbrev pub Stops : Progress → List AcceptedTablet → Type 0
Stops o [] = o.split ≡ false
Stops o (b ∷ bs) = Stops b.end bs

-- legal places: each within its tablet, and 0 below a tablet that isn't closed
abbrev pub LegalChain : List ℕ → List AcceptedTablet → Type 0
LegalChain ps [] = Unit {0}
LegalChain ps (b ∷ bs) = (place ps b ≤ length b.records) × ((is_closed_in ps b ≡ true) ⊎ Each (λ d. place ps d ≡ 0) bs) × LegalChain ps bs

-- no straggler of any transaction with a commit, which goes record by record
abbrev pub NoStragglers : Logs → List ℕ → List Record → List Record → Type 0
NoStragglers logs k seen rs = (n c : ℕ) → commit_of logs n ≡ Some c → straggles_at n c k seen rs ≡ false
