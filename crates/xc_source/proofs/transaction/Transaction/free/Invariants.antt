use Rattle.std.proofs.Common.{◌≡◌, ℕ, List, None, take, if◌then◌else◌, bytes_eq, ◌&&◌}
use Rattle.std.specs.BTreeMap.{get}
use Rattle.std.specs.Cmp.Lexicographic.{slice_cmp}
use Rattle.std.specs.Ordering.{nat_cmp}
use Rattle.std.specs.List.{list_any}
use Rattle.xc_source.proofs.transaction.Transaction.free.Given as goal

abbrev pub invariant-loop-write : goal.invariant-loop-write
invariant-loop-write l =
    (key : List ℕ) → get (slice_cmp nat_cmp) l.holders key
    ≡ (if list_any (λ w. w.waits && bytes_eq key w.op.key) (take l.write-index l.self.writes) then None
    else get (slice_cmp nat_cmp) l.initial.holders key)
