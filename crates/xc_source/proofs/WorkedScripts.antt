-- The worked source scripts, computed to the logs that they make.
use Rattle.std.specs.Prelude.{◌≡◌, ℕ, List, [], ◌∷◌, Some, None, Err, codes, refl}
use Rattle.xc_record.specs.declared.record.Header.{Header}
use Rattle.xc_record.specs.declared.record.Kind.{Kind}
use Rattle.xc_record.specs.declared.record.Kind.TheVariants.{Write, Intent, Apply, Safe, Split}
use Rattle.xc_record.specs.declared.record.Op.{Op}
use Rattle.xc_record.specs.declared.record.Record.{Record}
use Rattle.xc_record.specs.declared.record.Tablet.{Tablet}
use Rattle.xc_record.specs.Hash.{hash_of}
use Rattle.xc_source.specs.declared.command.SourceCommand.{SourceCommand}
use Rattle.xc_source.specs.declared.command.SourceCommand.TheVariants as command
use Rattle.xc_source.specs.declared.commit.Commit.{Commit}
use Rattle.xc_source.specs.declared.fail.SourceFail.TheVariants as fail
use Rattle.xc_source.specs.Machine.{Machine, start}
use Rattle.xc_source.specs.Waiting.{tablets_of, holder, commits_on, pending}
use Rattle.xc_source.specs.Commands.{step, run, made_from}

abbrev pub at : ℕ → Kind → Record
at time kind = record { time = time; kind = kind }

abbrev pub sets : List ℕ → List ℕ → Op
sets key value = record { key = key; value = Some value }

abbrev pub root : ℕ → ℕ → ℕ → Header
root id lo hi = record { id = id; lo = lo; hi = hi; parent = None }

abbrev pub child : ℕ → ℕ → ℕ → ℕ → Header
child id lo hi parent = record { id = id; lo = lo; hi = hi; parent = Some parent }

abbrev pub log_of : Header → List Record → Tablet
log_of header records = record { header = header; records = records }

abbrev pub two_roots : List Header
two_roots = root 0 0 32767 ∷ root 1 32768 65535 ∷ []

-- a put and a transaction over both tablets, which commits
abbrev pub first_part : List SourceCommand
first_part =
    command.Put (sets (codes "aaa") (codes "1")) ∷ command.Begin ∷ command.Write 1 (sets (codes "aaa") (codes "2"))
    ∷ command.Write 1 (sets (codes "zzz") (codes "3")) ∷ command.Commit 1 ∷ []

abbrev pub last_part : List SourceCommand
last_part = command.Apply 1 0 ∷ command.Split 1 50000 ∷ command.Safe 0 ∷ command.Finish ∷ []

abbrev pub intent_z : Kind
intent_z = Intent 0 1 (sets (codes "zzz") (codes "3") ∷ [])

abbrev pub both_commits : List Commit
both_commits =
    record { time = 101; txn = 0; ops = sets (codes "aaa") (codes "1") ∷ [] }
    ∷ record { time = 104; txn = 1; ops = sets (codes "aaa") (codes "2") ∷ sets (codes "zzz") (codes "3") ∷ [] } ∷ []

abbrev pub machine_after : List SourceCommand → List SourceCommand → Machine
machine_after first second = run second (run first (start two_roots 100))

-- the script with a safe record before the apply
abbrev pub with_early_safe : Machine
with_early_safe = machine_after first_part (command.Safe 0 ∷ last_part)

early_safe_tablets : with_early_safe.tablets ≡
    log_of (root 0 0 32767)
    (at 101 (Write (sets (codes "aaa") (codes "1") ∷ [])) ∷ at 102 (Intent 0 1 (sets (codes "aaa") (codes "2") ∷ []))
    ∷ at 105 (Safe 103) ∷ at 106 (Apply 1 104 []) ∷ at 108 (Safe 108) ∷ at 110 (Safe 110) ∷ [])
    ∷ log_of (root 1 32768 65535) (at 103 intent_z ∷ at 107 (Split 50000 2 3) ∷ [])
    ∷ log_of (child 2 32768 49999 1) (at 111 (Safe 111) ∷ [])
    ∷ log_of (child 3 50000 65535 1) (at 109 (Apply 1 104 []) ∷ at 112 (Safe 112) ∷ []) ∷ []
unfolding step hash_of tablets_of holder commits_on pending
early_safe_tablets = refl

early_safe_commits : with_early_safe.commits ≡ both_commits
unfolding step hash_of tablets_of holder commits_on pending
early_safe_commits = refl

-- the script without it
without_early_safe : (machine_after first_part last_part).tablets ≡
    log_of (root 0 0 32767)
    (at 101 (Write (sets (codes "aaa") (codes "1") ∷ [])) ∷ at 102 (Intent 0 1 (sets (codes "aaa") (codes "2") ∷ []))
    ∷ at 105 (Apply 1 104 []) ∷ at 107 (Safe 107) ∷ at 109 (Safe 109) ∷ [])
    ∷ log_of (root 1 32768 65535) (at 103 intent_z ∷ at 106 (Split 50000 2 3) ∷ [])
    ∷ log_of (child 2 32768 49999 1) (at 110 (Safe 110) ∷ [])
    ∷ log_of (child 3 50000 65535 1) (at 108 (Apply 1 104 []) ∷ at 111 (Safe 111) ∷ []) ∷ []
unfolding step hash_of tablets_of holder commits_on pending
without_early_safe = refl

-- savepoints: what was rolled back is named by the apply
abbrev pub with_savepoint : List SourceCommand
with_savepoint =
    command.Begin ∷ command.Write 1 (sets (codes "aaa") (codes "1")) ∷ command.Savepoint 1
    ∷ command.Write 1 (sets (codes "a b") (codes "2")) ∷ command.Rollback 1 1 ∷ command.Write 1 (sets (codes "ccc") (codes "3"))
    ∷ command.Commit 1 ∷ command.Finish ∷ []

savepoint_tablets : (run with_savepoint (start (root 0 0 65535 ∷ []) 0)).tablets ≡
    log_of (root 0 0 65535)
    (at 1 (Intent 0 1 (sets (codes "aaa") (codes "1") ∷ [])) ∷ at 2 (Intent 1 1 (sets (codes "a b") (codes "2") ∷ []))
    ∷ at 3 (Intent 2 1 (sets (codes "ccc") (codes "3") ∷ [])) ∷ at 5 (Apply 1 4 (1 ∷ [])) ∷ at 6 (Safe 6) ∷ []) ∷ []
unfolding step hash_of tablets_of holder commits_on pending
savepoint_tablets = refl

-- the refused variants: the number of the refused command, from 1, and why
back_is_refused : made_from 1 (command.Tick 102 ∷ []) (machine_after first_part (command.Apply 1 0 ∷ command.Split 1 50000 ∷ [])) ≡ Err
    (1, fail.Back 106)
unfolding step hash_of tablets_of holder commits_on pending
back_is_refused = refl

second_apply_is_refused : made_from 1 (command.Apply 1 0 ∷ command.Apply 1 0 ∷ []) (machine_after first_part []) ≡ Err (2, fail.NotThere 0)
unfolding step hash_of tablets_of holder commits_on pending
second_apply_is_refused = refl
