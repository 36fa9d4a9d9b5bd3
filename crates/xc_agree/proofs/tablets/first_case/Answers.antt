use Rattle.std.proofs.Common.{◌≡◌, ℕ, List, arith, refl, sym, subst, take}
use Rattle.std.proofs.lemmas.List.{take_all}
use Rattle.xc_agree.proofs.SplitLaws.{runs-count, run-here, run-within, sum-at}
use Rattle.xc_record.specs.Accepted.{accepted_tablets_after}
use Rattle.xc_logs.proofs.ValidFacts.{IsWellFormed, valid_parts}
use Rattle.std.specs.Prelude.{[], Option, Some, None, option_and_then}
use Rattle.xc_record.specs.Agreement.{Disagreement}
use Rattle.xc_agree.specs.Slots.{time_of}
use Rattle.xc_agree.specs.Cases.{AreLeft, Drops, IsFirst, cases_of, of_tablets}
use Rattle.xc_record.specs.declared.record.Tablet.{Tablet}
use Rattle.xc_agree.proofs.TabletLaws.{tablet-next, none-left, held-in}
use Rattle.xc_agree.proofs.tablets.first_case.Goals as goal

pub bounds-runs-i : goal.bounds-runs-i
bounds-runs-i c =
    let k = runs-count c.args.runs.now (accepted_tablets_after [] c.args.tablets.now) c.args.tablets.now c.requires.runs in omega arith

pub judge_tablet-requires-clause-within : goal.judge_tablet-requires-clause-within
judge_tablet-requires-clause-within c =
    run-within c.index-runs-i.result _ c.index-tablets-i.result
    (run-here c.args.runs.now c.args.tablets.now c.loop-i.i c.index-runs-i.result c.index-tablets-i.result c.requires.runs
    c.loop-i-test.true c.index-tablets-i.is c.index-runs-i.is)

pub judge_tablet-requires-clause-bound : goal.judge_tablet-requires-clause-bound
judge_tablet-requires-clause-bound c =
    let s : IsWellFormed (of_tablets c.args.tablets.now) = valid_parts (of_tablets c.args.tablets.now) c.requires.valid in
    let k = sum-at c.args.tablets.now c.loop-i.i c.index-tablets-i.result c.loop-i-test.true c.index-tablets-i.is in
    omega (arith, s.records)

pub loop-i-init : goal.loop-i-init
loop-i-init c = record {
  idle = c.in_ok-look.ensures c.args.commits.now c.len.ensures;
  left = subst (λ lefts. AreLeft lefts c.in_ok-lasts.lasts.items c.args.commits.now []) (sym c.in_ok-lefts.ensures.items)
      (none-left c.in_ok-lasts.lasts.items c.args.commits.now);
  first = λ n. none (time_of c.args.commits.now n);
}
  where
    none : (o : Option ℕ) → option_and_then {U = Disagreement} (λ c. None) o ≡ None
    none None = refl
    none (Some x) = refl

pub loop-i-preserved : goal.loop-i-preserved
loop-i-preserved c =
    let h = c.loop-i.invariant in
    let slots = held-in c.loop-i.lefts.items c.as_slice.result.now c.in_ok-lasts.lasts.items c.args.commits.now
    (accepted_tablets_after [] (take c.loop-i.i c.args.tablets.now)) c.index-tablets-i.result.header.parent c.as_slice.ensures.value
    h.left in
    let next = tablet-next c.args.tablets.now c.loop-i.i c.index-tablets-i.result c.index-runs-i.result c.in_ok-lasts.lasts.items
    c.args.commits.now c.loop-i.lefts.items c.as_slice.result.now c.drop_left.new.lefts.items
    c.in_ok-judged.judged.left c.in_ok-judged.judged.found c.loop-i.first c.first_of-first.result c.index.result.now
    c.as_slice.ensures.value (valid_parts (of_tablets c.args.tablets.now) c.requires.valid) c.requires.undone c.loop-i-test.true
    c.index-tablets-i.is
    (run-here c.args.runs.now c.args.tablets.now c.loop-i.i c.index-runs-i.result c.index-tablets-i.result c.requires.runs
    c.loop-i-test.true c.index-tablets-i.is c.index-runs-i.is)
    c.in_ok-lasts.ensures.count c.index.ensures c.in_ok-lasts.ensures.last h.left h.first (c.in_ok-judged.ensures.found h.idle)
    (c.in_ok-judged.ensures.left h.idle) c.in_ok-judged.ensures.slots c.first_of-first.ensures
    (subst (λ xs. Drops xs c.drop_left.new.lefts.items c.in_ok-lasts.lasts.items c.index-tablets-i.result.header.parent c.loop-i.i)
    c.in_ok-push.ensures.items
    (subst (λ lasts. Drops c.push.new.self.items c.drop_left.new.lefts.items lasts c.index-tablets-i.result.header.parent c.loop-i.i)
    c.as_slice-in-loop-i.ensures.value c.drop_left.ensures)) in
    record { idle = c.in_ok-judged.ensures.idle h.idle slots; left = next.0; first = next.1 }

pub returns : goal.returns
returns c = subst
    (λ (ts : List Tablet). IsFirst c.loop-i.first
    (cases_of (of_tablets c.args.tablets.now) c.args.commits.now (accepted_tablets_after [] ts))) (take_all c.loop-i.i
    c.args.tablets.now c.loop-i-test.false) c.loop-i.invariant.first
