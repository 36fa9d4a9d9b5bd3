use Rattle.std.proofs.Common.{◌<◌, ◌+◌, map, set, sym, subst, ap, ◌∙◌, refl, arith}
use Rattle.xc_intents.specs.declared.slots.Chain.{Chain}
use Rattle.xc_intents.specs.Slots.{chain_at, Linked, slots_and, chain_and, bare, HasChain}
use Rattle.xc_intents.proofs.Chains.{chain-read, has-set}
use Rattle.xc_intents.proofs.Links.{Linked-and, bare-and, last-below}
use Rattle.xc_intents.proofs.slots.link.Goals as goal

pub put_behind-requires-clause-last : goal.put_behind-requires-clause-last
put_behind-requires-clause-last c = λ l is.
    let cs = c.args.chains.now in
    let e = c.args.e in
    let low : l < c.args.i = last-below c.args.slots.now cs c.args.i e l c.requires.chain c.requires.linked
    (sym (ap (λ (d : Chain). d.last) (chain-read cs e _ c.requires.chain)) ∙ is) in
    let slot : c.args.i < _ = c.requires.slot in
    omega arith

pub returns-clause-linked : goal.returns-clause-linked
returns-clause-linked c =
    let xs = c.args.slots.now in
    let cs = c.args.chains.now in
    let e = c.args.e in
    let n = c.args.i in
    let read = chain-read cs e _ c.requires.chain in
    subst (λ z. Linked z (set cs e c.put_behind.new.chain) (n + 1))
    (sym (c.put_behind.ensures.slots ∙ ap (λ (d : Chain). slots_and xs d.last n) read))
    (subst (λ d. Linked (slots_and xs (chain_at cs e).last n) (set cs e d) (n + 1))
    (sym (c.put_behind.ensures.chain ∙ ap (λ (d : Chain). chain_and d n) read))
    (Linked-and xs cs n e c.requires.slot c.requires.chain c.requires.txn c.requires.end c.requires.linked))

pub returns-clause-same : goal.returns-clause-same
returns-clause-same c =
    let xs = c.args.slots.now in
    let cs = c.args.chains.now in
    let read = chain-read cs c.args.e _ c.requires.chain in
    ap (map bare) (c.put_behind.ensures.slots ∙ ap (λ (d : Chain). slots_and xs d.last c.args.i) read)
    ∙ bare-and xs cs c.args.i c.args.e c.requires.slot c.requires.chain c.requires.linked

pub returns-clause-has : goal.returns-clause-has
returns-clause-has c = λ t h.
    let cs = c.args.chains.now in
    let e = c.args.e in
    let read = chain-read cs e _ c.requires.chain in
    subst (λ d. HasChain (set cs e d) t) (sym (c.put_behind.ensures.chain ∙ ap (λ (d : Chain). chain_and d c.args.i) read))
    (has-set cs e (chain_and (chain_at cs e) c.args.i) t c.requires.chain refl h)
