use Rattle.std.proofs.Common.{◌∙◌, length, get_or, sym, ap, subst}
use Rattle.xc_intents.specs.declared.slots.Chain.{Chain}
use Rattle.xc_intents.specs.Slots.{chain_at, at, in_walk, WalkTo}
use Rattle.xc_intents.proofs.Chains.{chain-read, slot-read, passed-below, walk-reaches}
use Rattle.xc_intents.proofs.slots.seek.Goals as goal

pub next_of-cur-requires : goal.next_of-cur-requires
next_of-cur-requires c p is =
    let cs = c.args.chains.now in
    let read = ap (λ (d : Chain). d.passed) (chain-read cs c.args.e c.index-chains-e.result c.requires.chain) in
    passed-below c.args.slots.now cs (length c.args.slots.now) c.args.e p c.requires.chain c.requires.linked (sym read ∙ is)

pub returns-then-in_walk-clause-found : goal.returns-then-in_walk-clause-found
returns-then-in_walk-clause-found c =
    let xs = c.loop-cur.slots in
    let cs = c.loop-cur.chains in
    let inv = c.loop-cur.invariant in
    let chain = chain_at cs c.args.e in
    let i = c.in-Some.i in
    let reached = subst (WalkTo xs (length xs) chain) (inv.here ∙ c.in-Some.is)
    (walk-reaches xs cs (length xs) c.args.e inv.chain inv.moves.linked) in
    record {
      below = reached.below;
      found = ap (λ (d : Chain). in_walk d (at xs i)) (sym (chain-read cs c.args.e c.index-chains-e-in-Some.result inv.chain))
          ∙ ap (in_walk (get_or cs c.args.e c.index-chains-e-in-Some.result)) (sym (slot-read xs i c.index-slots-i.result reached.below))
          ∙ sym c.in_walk.ensures ∙ c.if-in_walk.true;
      none = reached.none;
    }

pub returns-clause-found : goal.returns-clause-found
returns-clause-found c =
    let xs = c.loop-cur.slots in
    let cs = c.loop-cur.chains in
    let inv = c.loop-cur.invariant in
    subst (WalkTo xs (length xs) (chain_at cs c.args.e)) (inv.here ∙ c.in_default.is)
    (walk-reaches xs cs (length xs) c.args.e inv.chain inv.moves.linked)
