use Rattle.std.proofs.Common.{subst, sym, arith, refl, ◌∙◌}
use Rattle.std.proofs.lemmas.Bool.{true≢false}
use Rattle.xc_agree.specs.declared.held.Held.{Held}
use Rattle.xc_agree.specs.Seen.{unseen, waits_from}
use Rattle.xc_agree.specs.Held.{IsLeft, InSlots, seen_at_end}
use Rattle.std.specs.declared.vec.Vec.{Vec}
use Rattle.std.specs.declared.alloc.Global.{Global}
use Rattle.xc_agree.proofs.WaitLaws.{left-at-end}
use Rattle.xc_agree.proofs.judge.judge.Goals as goal
use Rattle.xc_agree.proofs.judge.judge.Goals.{then-has_children+in_ok-left, else-has_children}

pub take_all-requires : goal.take_all-requires
take_all-requires c = omega (arith, c.in_ok-begin.ensures.place)

pub returns-clause-idle : goal.returns-clause-idle
returns-clause-idle c = λ idle slots.
    c.clear.ensures c.args.commits.now (seen_at_end c.args.commits.now c.args.header.now c.args.held.now c.args.records.now)
    (c.in_ok-take_all.ensures (λ n x. unseen (waits_from c.args.header.now c.args.held.now n))
    (c.in_ok-begin.ensures.begun c.args.commits.now idle slots))

pub returns-clause-found : goal.returns-clause-found
returns-clause-found c = λ idle slots.
    c.finish-found.ensures (seen_at_end c.args.commits.now c.args.header.now c.args.held.now c.args.records.now)
    (c.in_ok-take_all.ensures (λ n x. unseen (waits_from c.args.header.now c.args.held.now n))
    (c.in_ok-begin.ensures.begun c.args.commits.now idle slots))

pub returns-clause-left : goal.returns-clause-left
returns-clause-left c = λ idle slots has. elim c.if-has_children.branch [
  | then-has_children+in_ok-left w ↦ subst
      (λ (left : Vec Held Global). IsLeft left.items c.args.commits.now c.args.header.now c.args.held.now c.args.records.now)
      (sym w.left-is)
      (left-at-end c.take_all.new.self c.args.commits.now c.args.header.now c.args.held.now w.in_ok-left.left.items c.args.records.now
      (c.in_ok-take_all.ensures (λ n x. unseen (waits_from c.args.header.now c.args.held.now n))
      (c.in_ok-begin.ensures.begun c.args.commits.now idle slots)) (w.in_ok-left.ensures.held slots))
  | else-has_children w ↦ absurd (true≢false (sym has ∙ w.if-has_children.false))
]

pub returns-clause-slots : goal.returns-clause-slots
returns-clause-slots c = λ slots. elim c.if-has_children.branch [
  | then-has_children+in_ok-left w ↦ subst (λ (left : Vec Held Global). InSlots c.args.commits.now left.items) (sym w.left-is)
      (w.in_ok-left.ensures.slots slots)
  | else-has_children w ↦ subst (λ (left : Vec Held Global). InSlots c.args.commits.now left.items) (sym w.left-is)
      (rw w.new-left.ensures.items refl)
]
