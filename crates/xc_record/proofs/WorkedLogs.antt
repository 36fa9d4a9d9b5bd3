-- Small logs, and the name that opens every definition on logs.
use Rattle.xc_record.specs.Hash.{hash_of}
use Rattle.xc_record.specs.Order.{break_of}
use Rattle.xc_record.specs.Accepted.{accepted_tablets, halt}
use Rattle.xc_record.specs.Step.{poll_answer, open_step, step}
use Rattle.xc_record.specs.Path.{path, path_to, holders}
use Rattle.xc_record.specs.Commits.{commit_of, undone, applied, intents, provisional_ops, txn_ops, write_commits, txn_commits, commits}
use Rattle.xc_record.specs.Rows.{ops_to, rows, row}
use Rattle.xc_record.specs.SafeTime.{safe_time, last_safe, is_closed}
use Rattle.xc_record.specs.Valid.{is_valid}
use Rattle.xc_record.specs.Headers.{headers_fit, are_headers}
use Rattle.xc_record.specs.Bounds.{are_bounds}
use Rattle.xc_record.specs.Agreement.{straggler, kind_at, disagreement_on, disagreement}
use Rattle.std.specs.Prelude.{ℕ, List, [], ◌∷◌, Some, None, codes}
use Rattle.xc_record.specs.declared.record.Kind.{Kind}
use Rattle.xc_record.specs.declared.record.Kind.TheVariants.{Write, Intent, Apply, Safe, Split}
use Rattle.xc_record.specs.declared.record.Op.{Op}
use Rattle.xc_record.specs.declared.record.Record.{Record}
use Rattle.xc_record.specs.declared.record.Tablet.{Tablet}
use Rattle.xc_record.specs.declared.record.Logs.{Logs}

abbrev pub at : ℕ → Kind → Record
at time kind = record { time = time; kind = kind }

abbrev pub sets : List ℕ → List ℕ → Op
sets key value = record { key = key; value = Some value }

abbrev pub removes : List ℕ → Op
removes key = record { key = key; value = None }

abbrev pub root : ℕ → ℕ → ℕ → List Record → Tablet
root id lo hi records = record { header = record { id = id; lo = lo; hi = hi; parent = None }; records = records }

abbrev pub child : ℕ → ℕ → ℕ → ℕ → List Record → Tablet
child id lo hi parent records = record { header = record { id = id; lo = lo; hi = hi; parent = Some parent }; records = records }

abbrev pub a : List ℕ
a = codes "aaa"

abbrev pub b : List ℕ
b = codes "bbb"

abbrev pub c : List ℕ
c = codes "ccc"

abbrev pub z : List ℕ
z = codes "zzz"

-- two tablets, and a transaction with an operation on each
abbrev pub two_tablets : ℕ → ℕ → Logs
two_tablets safe commit = record {
  tablets =
      root 0 0 32767 (at 10 (Intent 0 7 (sets a (codes "1") ∷ [])) ∷ at 20 (Apply 7 15 []) ∷ at 22 (Safe 22) ∷ [])
      ∷ root 1 32768 65535
      (at 11 (Intent 0 7 (sets z (codes "2") ∷ [])) ∷ at 21 (Safe safe) ∷ at 25 (Apply 7 commit []) ∷ at 30 (Safe 28) ∷ [])
      ∷ [];
}

-- a split, at which an operation waits
abbrev pub with_split : ℕ → Logs
with_split split_time = record {
  tablets =
      root 0 0 65535
      (at 10 (Write (sets a (codes "1") ∷ [])) ∷ at 12 (Intent 0 5 (sets z (codes "9") ∷ [])) ∷ at 13 (Safe 12) ∷ at split_time
      (Split 32768 1 2) ∷ [])
      ∷ child 1 0 32767 0 (at 20 (Safe 20) ∷ [])
      ∷ child 2 32768 65535 0 (at 18 (Apply 5 16 []) ∷ at 19 (Safe 17) ∷ [])
      ∷ [];
}

-- a transaction over both children of a split tablet: it removes a key, and one of its subtransactions was rolled back
abbrev pub with_both_children : Logs
with_both_children = record {
  tablets =
      root 0 0 65535
      (at 10 (Write (sets a (codes "1") ∷ sets z (codes "2") ∷ [])) ∷ at 11 (Intent 1 5 (sets a (codes "8") ∷ [])) ∷ at 12
      (Intent 0 5 (sets a (codes "3") ∷ removes z ∷ []))
      ∷ at 13 (Safe 12) ∷ at 14 (Split 32768 1 2) ∷ [])
      ∷ child 1 0 32767 0 (at 18 (Apply 5 16 (1 ∷ [])) ∷ at 20 (Safe 19) ∷ [])
      ∷ child 2 32768 65535 0 (at 21 (Apply 5 16 (1 ∷ [])) ∷ at 23 (Safe 22) ∷ [])
      ∷ [];
}

-- an apply with this commit after a safe record of value 12
abbrev pub with_late_apply : ℕ → Logs
with_late_apply commit = record {
  tablets =
      root 0 0 65535
      (at 10 (Write (sets a (codes "1") ∷ [])) ∷ at 11 (Intent 0 5 (sets b (codes "2") ∷ [])) ∷ at 13 (Safe 12) ∷ at 20
      (Apply 5 commit []) ∷ at 21 (Safe 21) ∷ [])
      ∷ [];
}

-- two transactions with one commit time
abbrev pub with_equal_commits : Logs
with_equal_commits = record {
  tablets =
      root 0 0 65535 (at 5 (Write (sets c (codes "z") ∷ [])) ∷ at 10 (Intent 0 3 (sets a (codes "t3") ∷ []))
      ∷ at 11 (Intent 0 2 (sets a (codes "t2") ∷ sets b (codes "x") ∷ sets b (codes "y") ∷ removes c ∷ []))
      ∷ at 20 (Apply 3 15 []) ∷ at 21 (Apply 2 15 []) ∷ at 22 (Safe 15) ∷ [])
      ∷ [];
}

-- 'unfolding computed' opens each of these
unfoldable pub computed : ℕ
unfolding halt poll_answer open_step step hash_of break_of accepted_tablets path path_to holders commit_of undone applied intents
    provisional_ops txn_ops write_commits txn_commits commits ops_to rows row safe_time last_safe is_closed straggler kind_at
    disagreement_on disagreement is_valid headers_fit are_headers are_bounds
computed = 0
