use Rattle.std.proofs.Common.{◌≡◌, ℕ, ◌<◌, length, map}
use Rattle.xc_intents.specs.Slots.{Linked, HasChain, at, bare}
use Rattle.xc_intents.proofs.slots.link_all.Given as goal

abbrev pub invariant-loop-i : goal.invariant-loop-i
invariant-loop-i l = record {
  linked : Linked l.slots l.chains l.i;
  same : map bare l.slots ≡ map bare l.initial.slots;
  chains : length l.chains ≡ length l.initial.chains;
  has : (k : ℕ) → k < length l.slots → HasChain l.chains (at l.slots k).txn;
}
