use Rattle.std.proofs.Common.{◌≡◌, drop}
use Rattle.xc_target.specs.Target.{shown_at}
use Rattle.xc_target.proofs.looks.shown.Given as goal

abbrev pub invariant-loop-tablet : goal.invariant-loop-tablet
invariant-loop-tablet l = shown_at l.t l.key (drop l.tablet-index l.tablets) ≡ shown_at l.t l.key l.tablets
