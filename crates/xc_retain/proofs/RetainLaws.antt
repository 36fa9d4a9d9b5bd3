-- What pruning and restoring keep of each tablet.
use Rattle.std.proofs.Common.{◌≡◌, ℕ, ◌≤◌, max, sym, subst, arith}
use Rattle.xc_record.specs.declared.record.Logs.{Logs}
use Rattle.xc_model.specs.Stands.{TargetTablet, StandsFor, KeepsFrom, restore, covers}
use Rattle.xc_model.proofs.KeepLaws.{cutoffs-keep}
use Rattle.xc_model.proofs.Restores.{restores-keep}
use Rattle.xc_retain.specs.Retention.{StillStands, IsRestored, ShowsSame}

-- the cutoff is at most the safe time
pub pruned-stands : (logs : Logs) (safe old u : ℕ) (x y : TargetTablet) → u ≤ safe → KeepsFrom (max old u) x y
    → StillStands logs safe old (max old u) x y
pruned-stands logs safe old u x y low k s c =
    let covered : old ≤ covers logs x = s.covered in
    let top : max old (max old u) ≡ max old u = omega arith in
    subst (λ (w : ℕ). StandsFor logs w y) top (cutoffs-keep logs x y old (max old u) s (omega arith) k)

pub is-restored : (logs : Logs) (u t : ℕ) (x y : TargetTablet) → y ≡ restore t x → IsRestored logs u t x y
is-restored logs u t x y e s a c = record { stood = s; after_cutoff = a; covered = c; is = e }

pub shows-same : (t v : ℕ) (x y : TargetTablet) → y ≡ restore t x → ShowsSame t v x y
shows-same t v x y e low = subst (ShowsSame t v x) (sym e) (λ l. restores-keep x t v l) low
