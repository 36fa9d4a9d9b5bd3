-- The agreement of tablets on the transactions with an accepted apply.
--     kind_at logs n commit b      how the logs disagree on the transaction n, which commits at `commit`, at the tablet b: the first of the
--         five cases
--     disagreement logs      the case of the least transaction, then of the least tablet
--     Agrees logs      no case stands anywhere: the same five cases as a relation, the stragglers over every key
--     Stands logs n commit b kind      the case of this kind stands, at whatever key: said without looking for the first one
--     rank kind      the kinds in the order in which the first of them is told
--     IsCase logs d      d is a case that stands
--     IsFirstCase logs d      d is the one of the least transaction, then of the least tablet, then of the first kind
use Rattle.std.specs.Prelude.{◌≡◌, ℕ, ◌≤◌, Bool, true, false, List, [], ◌∷◌, ◌++◌, Option, Some, None, if◌then◌else◌, ◌&&◌, ◌==◌, not}
use Rattle.std.specs.Prelude.{bytes_eq, filter, flat_map, nat_le, nat_lt, is_some}
use Rattle.std.specs.List.{AllByRecursion, list_any}
use Rattle.std.specs.Option.{option_map_or, option_map}
use Rattle.xc_record.specs.declared.record.AgreeKind.{AgreeKind}
use Rattle.xc_record.specs.declared.record.AgreeKind.TheVariants.{CommitDiffers, RollbackDiffers, LateIntent, Aborted, Straggler}
use Rattle.xc_record.specs.declared.record.Kind.{Kind}
use Rattle.xc_record.specs.declared.record.Kind.TheVariants.{Abort}
use Rattle.xc_record.specs.declared.record.Record.{Record}
use Rattle.xc_record.specs.declared.record.Logs.{Logs}
use Rattle.xc_record.specs.Hash.{hash_of, holds}
use Rattle.xc_record.specs.Order.{safe_value}
use Rattle.xc_record.specs.Accepted.{AcceptedTablet, accepted_tablets, accepted_tablet}
use Rattle.xc_record.specs.Path.{events, waiting}
use Rattle.xc_record.specs.Commits.{applies, rolls_back, commit_of, undone, applied, intent_ops, provisional_ops}
use Rattle.xc_record.specs.Lists.{first_some}

pub record Disagreement : Type 0 where
  pub txn : ℕ
  pub tablet : ℕ
  pub kind : AgreeKind

-- an accepted apply of n with another commit
abbrev pub commit_differs : ℕ → ℕ → AcceptedTablet → Bool
commit_differs n commit b = list_any (λ r. option_map_or (λ c. not (c == commit)) (applies n r.kind) false) b.records

-- an accepted apply of n that names other subtransactions as rolled back
abbrev pub rollback_differs : ℕ → List ℕ → AcceptedTablet → Bool
rollback_differs n undone b = list_any (λ r. option_map_or (λ without. not (bytes_eq without undone)) (rolls_back n r.kind) false) b.records

-- an accepted intent of n at or above the commit
abbrev pub late_intent : ℕ → ℕ → AcceptedTablet → Bool
late_intent n commit b = list_any (λ r. is_some (intent_ops n r.kind) && nat_le commit r.time) b.records

abbrev pub aborts : ℕ → Kind → Bool
aborts n (Abort txn) = txn == n
aborts n _ = false

abbrev pub aborted : ℕ → AcceptedTablet → Bool
aborted n b = list_any (λ r. aborts n r.kind) b.records

-- the records of the key's path above the tablet b
abbrev pub path_above : List AcceptedTablet → AcceptedTablet → List ℕ → List Record
path_above all b k = flat_map (λ a. a.records) (filter (λ a. holds a.header (hash_of k) && nat_lt a.header.id b.header.id) all)

-- whether, after the records before, n waits at the key at a safe record of value at or above the commit
abbrev pub straggles_at : ℕ → ℕ → List ℕ → List Record → List Record → Bool
straggles_at n commit k before [] = false
straggles_at n commit k before (r ∷ rs) =
    if option_map_or (λ value. nat_le commit value) (safe_value r.kind) false && list_any (λ w. w.txn == n) (waiting (events k before))
    then true
    else straggles_at n commit k (before ++ r ∷ []) rs

-- The keys of the transaction's own operations, rolled back or not, are enough: at no other key does one of them wait.
unfoldable pub straggler : Logs → ℕ → ℕ → AcceptedTablet → Bool
straggler logs n commit b =
    list_any (λ op. holds b.header (hash_of op.key) && straggles_at n commit op.key (path_above (accepted_tablets logs) b op.key) b.records)
    (provisional_ops logs n)

-- the kind of the first row whose test is true
abbrev pub first_kind : List (Bool × AgreeKind) → Option AgreeKind
first_kind [] = None
first_kind (row ∷ rows) = if row.0 then Some row.1 else first_kind rows

unfoldable pub kind_at : Logs → ℕ → ℕ → AcceptedTablet → Option AgreeKind
kind_at logs n commit b =
    first_kind
    ((commit_differs n commit b, CommitDiffers) ∷ (rollback_differs n (undone logs n) b, RollbackDiffers)
    ∷ (late_intent n commit b, LateIntent) ∷ (aborted n b, Aborted) ∷ (straggler logs n commit b, Straggler) ∷ [])

unfoldable pub disagreement_on : Logs → ℕ → ℕ → Option Disagreement
disagreement_on logs n commit =
    first_some (λ b. option_map (λ kind. record { txn = n; tablet = b.header.id; kind = kind }) (kind_at logs n commit b))
    (accepted_tablets logs)

unfoldable pub disagreement : Logs → Option Disagreement
disagreement logs = first_some (λ n. option_map_or (disagreement_on logs n) (commit_of logs n) None) (applied logs)

-- none of the five cases stands, of the transaction n, which commits at `commit`, at the tablet b
pub record HasNoCase (logs : Logs) (n commit : ℕ) (b : AcceptedTablet) : Type 0 where
  pub same_commit : commit_differs n commit b ≡ false
  pub same_rollback : rollback_differs n (undone logs n) b ≡ false
  pub early_intents : late_intent n commit b ≡ false
  pub no_abort : aborted n b ≡ false
  pub no_straggler : (k : List ℕ) → holds b.header (hash_of k) ≡ true
      → straggles_at n commit k (path_above (accepted_tablets logs) b k) b.records ≡ false

pub record Agrees (logs : Logs) : Type 0 where
  pub no_case : (n commit : ℕ) → commit_of logs n ≡ Some commit → AllByRecursion (HasNoCase logs n commit) (accepted_tablets logs)

-- an operation of the transaction is a straggler at the key
pub record StragglesAt (logs : Logs) (n commit : ℕ) (b : AcceptedTablet) (k : List ℕ) : Type 0 where
  pub within : holds b.header (hash_of k) ≡ true
  pub straggles : straggles_at n commit k (path_above (accepted_tablets logs) b k) b.records ≡ true

abbrev pub Stands : Logs → ℕ → ℕ → AcceptedTablet → AgreeKind → Type 0
Stands logs n commit b CommitDiffers = commit_differs n commit b ≡ true
Stands logs n commit b RollbackDiffers = rollback_differs n (undone logs n) b ≡ true
Stands logs n commit b LateIntent = late_intent n commit b ≡ true
Stands logs n commit b Aborted = aborted n b ≡ true
Stands logs n commit b Straggler = (k : List ℕ) × StragglesAt logs n commit b k

abbrev pub rank : AgreeKind → ℕ
rank CommitDiffers = 0
rank RollbackDiffers = 1
rank LateIntent = 2
rank Aborted = 3
rank Straggler = 4

pub record IsCase (logs : Logs) (d : Disagreement) : Type 0 where
  pub commit : ℕ
  pub at : AcceptedTablet
  pub commits : commit_of logs d.txn ≡ Some commit
  pub there : accepted_tablet logs d.tablet ≡ Some at
  pub stands : Stands logs d.txn commit at d.kind

pub record IsFirstCase (logs : Logs) (d : Disagreement) : Type 0 where
  pub stands : IsCase logs d
  pub least_transaction : (e : Disagreement) → IsCase logs e → d.txn ≤ e.txn
  pub least_tablet : (e : Disagreement) → IsCase logs e → e.txn ≡ d.txn → d.tablet ≤ e.tablet
  pub first_kind : (e : Disagreement) → IsCase logs e → e.txn ≡ d.txn → e.tablet ≡ d.tablet → rank d.kind ≤ rank e.kind
