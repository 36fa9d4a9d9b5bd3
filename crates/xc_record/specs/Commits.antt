-- The commits of the logs.
--     Commit      a write or a transaction: its commit time, its number (0: a write), its tablet (0: a transaction), its operations
--     commit_of logs n      the commit of the transaction: that of its first accepted apply on the least tablet that has one
--     undone logs n      its subtransactions that were rolled back, as that apply names them
--     provisional_ops logs n      the operations of all its intents, rolled back or not
--     txn_ops logs n      its operations: those of the intents that were not rolled back
--     applied logs      the transactions with an accepted apply, rising
--     commits logs      all commits, by commit time, number and tablet
use Rattle.std.specs.Prelude.{ℕ, List, [], ◌∷◌, ◌++◌, Option, Some, None, if◌then◌else◌, ◌==◌, not, filter, flat_map}
use Rattle.std.specs.List.{filter_map}
use Rattle.std.specs.Option.{option_map_or}
use Rattle.std.specs.declared.cmp.Ordering.{Ordering}
use Rattle.std.specs.Ordering.{nat_cmp, ordering_then}
use Rattle.xc_record.specs.declared.record.Kind.{Kind}
use Rattle.xc_record.specs.declared.record.Kind.TheVariants.{Write, Intent, Apply}
use Rattle.xc_record.specs.declared.record.Op.{Op}
use Rattle.xc_record.specs.declared.record.Record.{Record}
use Rattle.xc_record.specs.declared.record.Logs.{Logs}
use Rattle.xc_record.specs.Accepted.{accepted_tablets}
use Rattle.xc_record.specs.Lists.{sort_by, first_some, has, distinct}

pub record Commit : Type 0 where
  pub time : ℕ
  pub txn : ℕ
  pub tablet : ℕ
  pub ops : List Op

abbrev pub commit_cmp : Commit → Commit → Ordering
commit_cmp x y = ordering_then (nat_cmp x.time y.time) (ordering_then (nat_cmp x.txn y.txn) (nat_cmp x.tablet y.tablet))

-- the commit that an apply of the transaction names
abbrev pub applies : ℕ → Kind → Option ℕ
applies n (Apply txn commit without) = if txn == n then Some commit else None
applies n _ = None

-- the subtransactions that an apply of the transaction names as rolled back
abbrev pub rolls_back : ℕ → Kind → Option (List ℕ)
rolls_back n (Apply txn commit without) = if txn == n then Some without else None
rolls_back n _ = None

unfoldable pub commit_of : Logs → ℕ → Option ℕ
commit_of logs n = first_some (λ b. first_some (λ r. applies n r.kind) b.records) (accepted_tablets logs)

unfoldable pub undone : Logs → ℕ → List ℕ
undone logs n =
    option_map_or (λ without. without) (first_some (λ b. first_some (λ r. rolls_back n r.kind) b.records) (accepted_tablets logs)) []

abbrev pub applied_txn : Kind → Option ℕ
applied_txn (Apply txn commit without) = Some txn
applied_txn _ = None

unfoldable pub applied : Logs → List ℕ
applied logs = distinct (flat_map (λ b. filter_map (λ r. applied_txn r.kind) b.records) (accepted_tablets logs))

-- an intent: its log time, its tablet, its subtransaction, its operations
pub record Provisional : Type 0 where
  pub time : ℕ
  pub tablet : ℕ
  pub sub : ℕ
  pub ops : List Op

abbrev pub provisional_cmp : Provisional → Provisional → Ordering
provisional_cmp x y = ordering_then (nat_cmp x.time y.time) (nat_cmp x.tablet y.tablet)

abbrev pub intent_ops : ℕ → Kind → Option (List Op)
intent_ops n (Intent sub txn ops) = if txn == n then Some ops else None
intent_ops n _ = None

abbrev pub sub_of : Kind → ℕ
sub_of (Intent sub txn ops) = sub
sub_of _ = 0

-- the intents of the transaction, of one tablet
abbrev pub intents_in : ℕ → ℕ → List Record → List Provisional
intents_in n tablet [] = []
intents_in n tablet (r ∷ rs) =
    option_map_or (λ ops. record { time = r.time; tablet = tablet; sub = sub_of r.kind; ops = ops } ∷ []) (intent_ops n r.kind) []
    ++ intents_in n tablet rs

-- the intents of the transaction, by log time and tablet
unfoldable pub intents : Logs → ℕ → List Provisional
intents logs n = sort_by provisional_cmp (flat_map (λ b. intents_in n b.header.id b.records) (accepted_tablets logs))

unfoldable pub provisional_ops : Logs → ℕ → List Op
provisional_ops logs n = flat_map (λ i. i.ops) (intents logs n)

unfoldable pub txn_ops : Logs → ℕ → List Op
txn_ops logs n = flat_map (λ i. i.ops) (filter (λ i. not (has i.sub (undone logs n))) (intents logs n))

abbrev pub write_ops : Kind → Option (List Op)
write_ops (Write ops) = Some ops
write_ops _ = None

abbrev pub writes_in : ℕ → List Record → List Commit
writes_in tablet [] = []
writes_in tablet (r ∷ rs) =
    option_map_or (λ ops. record { time = r.time; txn = 0; tablet = tablet; ops = ops } ∷ []) (write_ops r.kind) [] ++ writes_in tablet rs

unfoldable pub write_commits : Logs → List Commit
write_commits logs = flat_map (λ b. writes_in b.header.id b.records) (accepted_tablets logs)

unfoldable pub txn_commits : Logs → List Commit
txn_commits logs =
    flat_map (λ n. option_map_or (λ c. record { time = c; txn = n; tablet = 0; ops = txn_ops logs n } ∷ []) (commit_of logs n) [])
    (applied logs)

unfoldable pub commits : Logs → List Commit
commits logs = sort_by commit_cmp (write_commits logs ++ txn_commits logs)
