use Rattle.std.proofs.Common.{◌≡◌, ◌-◌, ◌<◌, length}
use Rattle.std.specs.Option.{option_map_or}
use Rattle.xc_intents.specs.Slots.{Moves, chain_at, next_of}
use Rattle.xc_intents.proofs.slots.seek.Given as goal

abbrev pub invariant-loop-cur : goal.invariant-loop-cur
invariant-loop-cur l = record {
  moves : Moves l.initial.slots l.initial.chains l.slots l.chains l.e;
  here : next_of l.slots (chain_at l.chains l.e) ≡ l.cur;
  chain : l.e < length l.chains;
}

abbrev pub decreases-loop-cur : goal.decreases-loop-cur
decreases-loop-cur l = option_map_or (λ i. length l.slots - i) l.cur 0
