use Rattle.std.proofs.Common.{◌<◌, length, sym, subst, ap, ◌∙◌, arith}
use Rattle.xc_intents.specs.declared.slots.Slot.{Slot}
use Rattle.xc_intents.specs.Slots.{HasChain, at}
use Rattle.xc_intents.proofs.Chains.{length-bare}
use Rattle.xc_intents.proofs.Walks.{at-bare}
use Rattle.xc_intents.proofs.slots.link_all.Goals as goal

pub loop-i-preserved : goal.loop-i-preserved
loop-i-preserved c = record {
  linked = c.link_again.ensures.linked;
  same = c.link_again.ensures.same ∙ c.loop-i.invariant.same;
  chains = c.link_again.ensures.chains ∙ c.loop-i.invariant.chains;
  has = λ k low.
      let long = length-bare c.loop-i.slots c.link_again.new.slots c.link_again.ensures.same in
      let b : k < length c.loop-i.slots = omega arith in
      let txn = ap (λ (s : Slot). s.txn) (at-bare c.loop-i.slots c.link_again.new.slots k c.link_again.ensures.same b) in
      subst (HasChain c.link_again.new.chains) (sym txn) (c.link_again.ensures.kept (at c.loop-i.slots k).txn (c.loop-i.invariant.has k b));
}
