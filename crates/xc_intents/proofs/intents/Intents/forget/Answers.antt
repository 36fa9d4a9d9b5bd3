use Rattle.std.proofs.Common.{◌∙◌, ap, sym, length, filter, arith, rules}
use Rattle.std.specs.List.{find}
use Rattle.xc_intents.specs.HeldOps.{is_rest, is_part, is_sought, without_first, given}
use Rattle.xc_intents.proofs.IntentLaws.{find-by_some, find-by_none, length-without_first, filter_others-without_first, filter_others-none}
use Rattle.xc_intents.proofs.IntentLaws.{without_first-none}
use Rattle.xc_intents.proofs.intents.Intents.forget.Goals as goal

pub loop-smaller : goal.loop-smaller
loop-smaller c =
    let hs = c.loop.self.held in
    let part = is_sought c.loop.self.sought in
    let w = find-by_some part given c.take_next.new.self.taken hs c.take_next.ensures.taken
    (sym c.take_next.ensures.some ∙ c.loop-test.true) in
    omega (arith, length-without_first part hs w.0 w.1, ap length c.take_next.ensures.left)

pub loop-preserved : goal.loop-preserved
loop-preserved c = record {
  others = ap (filter (is_rest c.args.txn c.args.lo c.args.hi)) c.take_next.ensures.left
      ∙ ap (λ s. filter (is_rest c.args.txn c.args.lo c.args.hi) (without_first (is_sought s) c.loop.self.held)) c.loop.invariant.sought
      ∙ filter_others-without_first (is_part c.args.txn c.args.lo c.args.hi) c.loop.self.held ∙ c.loop.invariant.others;
  sought = c.take_next.ensures.sought ∙ c.loop.invariant.sought;
  room = omega (arith, c.take_next.ensures.room);
}

pub returns-clause-left : goal.returns-clause-left
returns-clause-left c =
    let hs = c.loop.self.held in
    let part = is_part c.args.txn c.args.lo c.args.hi in
    let none = ap (λ s. find (is_sought s) hs) (sym c.loop.invariant.sought)
    ∙ find-by_none (is_sought c.loop.self.sought) given c.take_next.new.self.taken hs c.take_next.ensures.taken
    (sym c.take_next.ensures.some ∙ c.loop-test.false) in
    c.take_next.ensures.left ∙ ap (λ s. without_first (is_sought s) hs) c.loop.invariant.sought
    ∙ without_first-none part hs none ∙ sym (filter_others-none part hs none) ∙ c.loop.invariant.others
    ∙ ap (filter (is_rest c.args.txn c.args.lo c.args.hi)) c.begin.ensures.same

pub returns-then-not-begin-clause-left : goal.returns-then-not-begin-clause-left
returns-then-not-begin-clause-left c =
    let hs = c.args.self.now.held in
    let part = is_part c.args.txn c.args.lo c.args.hi in
    let none = c.begin.ensures.none (search rules) in
    c.begin.ensures.same ∙ sym (filter_others-none part hs none)
