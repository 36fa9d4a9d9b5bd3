use Rattle.std.proofs.Common.{◌*◌, ℕ, ◌<◌, ◌≤◌, get_or}
use Rattle.xc_versions.specs.Dues.{dues_of}
use Rattle.xc_versions.proofs.least.raise.Given as goal

abbrev pub invariant-loop-i : goal.invariant-loop-i
invariant-loop-i l = (k : ℕ) → l.group * 64 ≤ k → k < l.i → l.due ≤ get_or (dues_of l.pages.items) k 0
