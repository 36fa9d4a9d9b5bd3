use Rattle.std.proofs.Common.{◌≡◌, ℕ, ◌-◌, ◌/◌, ◌%◌, ◌<◌, ◌≤◌, length, get_or}
use Rattle.xc_versions.specs.Dues.{dues_of, NotAbove}
use Rattle.xc_versions.proofs.least.lower_from.Given as goal

abbrev pub invariant-loop-i : goal.invariant-loop-i
invariant-loop-i l = record {
  from : l.first ≤ l.i;
  step : l.i % 64 ≡ l.first % 64;
  lower : NotAbove l.initial.least.items l.least.items;
  here : (k : ℕ) → l.first ≤ k → k < l.i → k < length l.pages.items → k % 64 ≡ l.first % 64
      → get_or l.least.items (k / 64) 0 ≤ get_or (dues_of l.pages.items) k 0;
}

abbrev pub decreases-loop-i : goal.decreases-loop-i
decreases-loop-i l = length l.pages.items - l.i
