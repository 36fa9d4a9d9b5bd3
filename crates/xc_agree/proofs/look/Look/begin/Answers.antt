use Rattle.std.proofs.Common.{◌≡◌, ◌+◌, take, subst, refl, sym, ◌∙◌}
use Rattle.std.proofs.lemmas.List.{take_all}
use Rattle.xc_agree.specs.declared.held.Held.{Held}
use Rattle.xc_agree.specs.declared.look.Look.{Look}
use Rattle.xc_agree.proofs.BeginLaws.{Beginning, idle-begin, begin-none, begin-more, begin-past, begun}
use Rattle.xc_agree.proofs.look.Look.begin.Goals as goal
use Rattle.xc_agree.proofs.look.Look.begin.Goals.{then-holds+in_ok-wait, else-holds}

pub loop-x-init : goal.loop-x-init
loop-x-init c = record { place = refl; begun = λ commits idle slots. begin-none _ commits c.args.header.now idle refl refl refl }

pub loop-x-preserved : goal.loop-x-preserved
loop-x-preserved c = record {
  place = elim c.if-holds.branch [
    | then-holds+in_ok-wait w ↦ subst (λ (look : Look). look.place ≡ 0) (sym w.self-is) (w.in_ok-wait.ensures.kept.place
        ∙ c.loop-x.invariant.place)
    | else-holds w ↦ subst (λ (look : Look). look.place ≡ 0) (sym w.self-is) c.loop-x.invariant.place
  ];
  begun = λ commits idle slots.
      let none : Held = record { txn = 0; slot = 0; hash = 0 } in
      let was = c.loop-x.invariant.begun commits idle slots in
      elim c.if-holds.branch [
        | then-holds+in_ok-wait w ↦ subst (λ look. Beginning look commits c.args.header.now (take (c.loop-x.x-index + 1) c.args.held.now))
            (sym w.self-is)
            (begin-more c.loop-x.self w.wait.new.self commits c.args.header.now c.args.held.now c.loop-x.x-index none slots
            c.loop-x-test.true was (sym c.holds.ensures ∙ w.if-holds.true)
            w.in_ok-wait.ensures.since w.in_ok-wait.ensures.kept w.in_ok-wait.ensures.found w.in_ok-wait.ensures.began
            (w.in_ok-wait.ensures.waiters commits))
        | else-holds w ↦ subst (λ look. Beginning look commits c.args.header.now (take (c.loop-x.x-index + 1) c.args.held.now))
            (sym w.self-is)
            (begin-past c.loop-x.self commits c.args.header.now c.args.held.now c.loop-x.x-index none c.loop-x-test.true was
            (sym c.holds.ensures ∙ w.if-holds.false))
      ];
}

pub returns-clause-begun : goal.returns-clause-begun
returns-clause-begun c = λ commits idle slots.
    begun c.loop-x.self commits c.args.header.now c.args.held.now c.loop-x.invariant.place slots
    (subst (Beginning c.loop-x.self commits c.args.header.now) (take_all c.loop-x.x-index c.args.held.now c.loop-x-test.false)
    (c.loop-x.invariant.begun commits (idle-begin c.args.self.now commits idle) slots))
