use Rattle.std.proofs.Common.{◌-◌}
use Rattle.std.specs.Ordering.{is_gt}
use Rattle.xc_versions.specs.Stored.{stored_cmp}
use Rattle.xc_versions.specs.Slots.{seen}
use Rattle.xc_versions.specs.Pages.{held, is_first_passed}
use Rattle.xc_versions.proofs.SplitLaws.{Narrows}
use Rattle.xc_versions.proofs.page.pages_before.Given as goal

abbrev pub invariant-loop-low : goal.invariant-loop-low
invariant-loop-low l = Narrows (λ p. is_first_passed (λ x. is_gt (stored_cmp (seen l.bytes l.slot) x)) (held l.bytes p)) l.low l.high
    l.pages.items

abbrev pub decreases-loop-low : goal.decreases-loop-low
decreases-loop-low l = l.high - l.low
