use Rattle.std.proofs.Common.{◌≤◌, length, vec_capacity}
use Rattle.xc_intents.proofs.Carries.{Carrying}
use Rattle.xc_intents.proofs.slots.carry.Given as goal

abbrev pub invariant-loop-i : goal.invariant-loop-i
invariant-loop-i l = record {
  carrying : Carrying l.bytes l.initial.slots (length l.initial.to.items) l.to.items l.slots l.i;
  capacity : vec_capacity l.initial.to ≤ vec_capacity l.to;
}
