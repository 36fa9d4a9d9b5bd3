use Rattle.std.proofs.Common.{◌≡◌, length}
use Rattle.xc_floor.proofs.SafeAt.{Known}
use Rattle.xc_floor.proofs.safe_at.safe_of.Given as goal

abbrev pub invariant-loop-i : goal.invariant-loop-i
invariant-loop-i l = record {
  known : Known l.logs l.places l.orders l.i;
  long : length l.orders ≡ 64;
}
