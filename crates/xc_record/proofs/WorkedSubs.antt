-- What the definitions say of small logs with subtransactions that were rolled back.
use Rattle.std.proofs.Common.{◌≡◌, ℕ, List, [], ◌∷◌, Some, None, true, refl}
use Rattle.std.specs.Prelude.{codes}
use Rattle.xc_record.specs.declared.record.AgreeKind.TheVariants.{RollbackDiffers, Straggler}
use Rattle.xc_record.specs.declared.record.Kind.TheVariants.{Intent, Apply, Safe}
use Rattle.xc_record.specs.declared.record.Logs.{Logs}
use Rattle.xc_record.specs.Accepted.{accepted}
use Rattle.xc_record.specs.Agreement.{disagreement}
use Rattle.xc_record.specs.Kept.{steps}
use Rattle.xc_record.specs.Path.{events, versions, waiting}
use Rattle.xc_record.specs.Rows.{rows}
use Rattle.xc_record.specs.Valid.{is_valid}
use Rattle.xc_record.proofs.WorkedLogs.{computed, at, sets, root, a, b, c, z}

-- four subtransactions of one transaction, of which the third was rolled back, and the fourth was not
abbrev with_rollback : Logs
with_rollback = record {
  tablets =
      root 0 0 65535
      (at 10 (Intent 0 5 (sets a (codes "0") ∷ [])) ∷ at 11 (Intent 1 5 (sets b (codes "1") ∷ [])) ∷ at 12
      (Intent 2 5 (sets a (codes "2") ∷ sets c (codes "2") ∷ []))
      ∷ at 13 (Intent 3 5 (sets z (codes "3") ∷ [])) ∷ at 20 (Apply 5 15 (2 ∷ [])) ∷ at 22 (Safe 21) ∷ [])
      ∷ [];
}

rollback-valid : is_valid with_rollback ≡ true
unfolding computed
rollback-valid = refl

rollback-agrees : disagreement with_rollback ≡ None
unfolding computed
rollback-agrees = refl

-- only what was rolled back is left out
rollback-rows : rows with_rollback 15 ≡ (a, codes "0") ∷ (b, codes "1") ∷ (z, codes "3") ∷ []
unfolding computed
rollback-rows = refl

rollback-versions : versions (events a (accepted with_rollback 0)) ≡ record { commit = 15; txn = 5; value = Some (codes "0") } ∷ []
unfolding computed
rollback-versions = refl

rollback-none : versions (events c (accepted with_rollback 0)) ≡ []
unfolding computed
rollback-none = refl

rollback-later : versions (events z (accepted with_rollback 0)) ≡ record { commit = 15; txn = 5; value = Some (codes "3") } ∷ []
unfolding computed
rollback-later = refl

-- nor does anything of it wait
rollback-waits : waiting (events c (accepted with_rollback 0)) ≡ []
unfolding computed
rollback-waits = refl

-- and event by event it is the same
rollback-steps : steps (events a (accepted with_rollback 0)) (record { versions = []; held = [] }) ≡ record
    { versions = record { commit = 15; txn = 5; value = Some (codes "0") } ∷ []; held = [] }
unfolding computed
rollback-steps = refl

rollback-later_steps : steps (events z (accepted with_rollback 0)) (record { versions = []; held = [] }) ≡ record
    { versions = record { commit = 15; txn = 5; value = Some (codes "3") } ∷ []; held = [] }
unfolding computed
rollback-later_steps = refl

-- two tablets; what waits on the second was rolled back, as the applies of the two tablets name it
abbrev two_rollbacks : ℕ → List ℕ → Logs
two_rollbacks safe without = record {
  tablets =
      root 0 0 32767 (at 10 (Intent 0 7 (sets a (codes "1") ∷ [])) ∷ at 20 (Apply 7 15 (1 ∷ [])) ∷ at 22 (Safe 22) ∷ [])
      ∷ root 1 32768 65535
      (at 11 (Intent 1 7 (sets z (codes "2") ∷ [])) ∷ at 21 (Safe safe) ∷ at 25 (Apply 7 15 without) ∷ at 30 (Safe 28) ∷ [])
      ∷ [];
}

two-agree : disagreement (two_rollbacks 14 (1 ∷ [])) ≡ None
unfolding computed
two-agree = refl

-- an operation that was rolled back bounds safe values as any other does
two-straggler : disagreement (two_rollbacks 15 (1 ∷ [])) ≡ Some (record { txn = 7; tablet = 1; kind = Straggler })
unfolding computed
two-straggler = refl

two-differ : disagreement (two_rollbacks 14 []) ≡ Some (record { txn = 7; tablet = 1; kind = RollbackDiffers })
unfolding computed
two-differ = refl
