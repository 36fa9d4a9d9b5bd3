-- What pruning and restoring make of the tablets of a target, and which times can be read.
--     IsPruned u safe old new olds news r      r is the answer of pruning at u, and what it leaves
--     StillStands logs safe old new x y      y stands for the logs from the cutoff new on, where x did from old on and covers safe
--     IsReadable cutoff safe u r      r says whether u can be read
--     IsRestored logs u t x y      y is x restored to t for the logs, where x stood for them and covers t
--     ShowsSame t v x y      y shows at v what x shows, where v is not later than t
use Rattle.std.specs.Prelude.{◌≡◌, ℕ, ◌<◌, ◌≤◌, max, List, Result, Ok, Err}
use Rattle.std.specs.List.{AllZip}
use Rattle.xc_record.specs.declared.record.Logs.{Logs}
use Rattle.xc_record.specs.Kept.{read}
use Rattle.xc_model.specs.Stands.{TargetTablet, StandsFor, KeepsFrom, RestoredTo, covers, kept_at, rows_shown}
use Rattle.xc_retain.specs.declared.retention.Ahead.{Ahead}
use Rattle.xc_retain.specs.declared.retention.NotReadable.{NotReadable}
use Rattle.xc_retain.specs.declared.retention.NotReadable.TheVariants as why

abbrev pub IsPruned : ℕ → ℕ → ℕ → ℕ → List TargetTablet → List TargetTablet → Result ℕ Ahead → Type 0
IsPruned u safe old new olds news (Ok cutoff) =
    (u ≤ safe) × ((cutoff ≡ max old u) × ((new ≡ max old u) × AllZip (KeepsFrom (max old u)) olds news))
IsPruned u safe old new olds news (Err e) = (safe < u) × ((e.safe ≡ safe) × ((new ≡ old) × (news ≡ olds)))

abbrev pub StillStands : Logs → ℕ → ℕ → ℕ → TargetTablet → TargetTablet → Type 0
StillStands logs safe old new x y = StandsFor logs old x → safe ≤ covers logs x → StandsFor logs new y

abbrev pub IsReadable : ℕ → ℕ → ℕ → Result (Unit {0}) NotReadable → Type 0
IsReadable cutoff safe u (Ok _) = (cutoff ≤ u) × (u ≤ safe)
IsReadable cutoff safe u (Err (why.Ahead named)) = (named ≡ safe) × (safe < u)
IsReadable cutoff safe u (Err (why.Pruned named)) = (named ≡ cutoff) × ((u ≤ safe) × (u < cutoff))

abbrev pub IsRestored : Logs → ℕ → ℕ → TargetTablet → TargetTablet → Type 0
IsRestored logs u t x y = StandsFor logs u x → u ≤ t → t ≤ covers logs x → RestoredTo logs u t x y

abbrev pub ShowsSame : ℕ → ℕ → TargetTablet → TargetTablet → Type 0
ShowsSame t v x y = v ≤ t → ((k : List ℕ) → read v (kept_at y k) ≡ read v (kept_at x k)) × (rows_shown v y ≡ rows_shown v x)
