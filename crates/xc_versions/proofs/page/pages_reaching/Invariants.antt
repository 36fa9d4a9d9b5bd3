use Rattle.std.proofs.Common.{◌-◌}
use Rattle.xc_versions.specs.Stored.{reaches}
use Rattle.xc_versions.specs.Pages.{held, is_first_passed}
use Rattle.xc_versions.proofs.SplitLaws.{Narrows}
use Rattle.xc_versions.proofs.page.pages_reaching.Given as goal

abbrev pub invariant-loop-low : goal.invariant-loop-low
invariant-loop-low l = Narrows (λ p. is_first_passed (reaches l.key l.t) (held l.bytes p)) l.low l.high l.pages.items

abbrev pub decreases-loop-low : goal.decreases-loop-low
decreases-loop-low l = l.high - l.low
