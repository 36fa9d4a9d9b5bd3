use Rattle.std.proofs.Common.{ℕ, Option, Some, set, ap, sym, subst, ◌∙◌}
use Rattle.xc_intents.specs.declared.slots.Chain.{Chain}
use Rattle.xc_intents.specs.Slots.{chain_at, Moves, chain_to, slots_to}
use Rattle.xc_intents.proofs.Chains.{chain-read, moves-passes, moves-skips}
use Rattle.xc_intents.proofs.slots.pass.Goals as goal

pub returns-in-Some-clause-moves : goal.returns-in-Some-clause-moves
returns-in-Some-clause-moves c =
    let xs = c.args.slots.now in
    let cs = c.args.chains.now in
    let e = c.args.e in
    let chain = chain_at cs e in
    let to : Option ℕ = Some c.in-Some.next in
    let read = chain-read cs e _ c.requires.chain in
    let moved = moves-skips xs cs e c.args.i c.in-Some.next c.requires.chain c.requires.here c.in-Some.ensures.0 c.in-Some.ensures.1
    c.requires.linked in
    let slots = c.relink.ensures.slots ∙ ap (λ (d : Chain). slots_to xs d.passed c.to.result) read
    ∙ ap (slots_to xs chain.passed) c.to.ensures in
    let chains = c.relink.ensures.chain ∙ ap (λ (d : Chain). chain_to d c.to.result) read ∙ ap (chain_to chain) c.to.ensures in
    subst (λ z. Moves xs cs z (set cs e c.relink.new.chain) e) (sym slots)
    (subst (λ d. Moves xs cs (slots_to xs chain.passed to) (set cs e d) e) (sym chains) moved)

abbrev passes : Chain → Option ℕ → Chain
passes c o = record c { passed = o }

pub returns-in-None-clause-moves : goal.returns-in-None-clause-moves
returns-in-None-clause-moves c =
    let xs = c.args.slots.now in
    let cs = c.args.chains.now in
    let e = c.args.e in
    let read = chain-read cs e _ c.requires.chain in
    let passed = ap (λ (d : Chain). passes d c.to-in-None.result) read ∙ ap (passes (chain_at cs e)) c.to-in-None.ensures in
    subst (λ d. Moves xs cs xs (set cs e d) e) (sym passed)
    (moves-passes xs cs e c.args.i c.requires.chain c.requires.here c.requires.out c.requires.linked)
