use Rattle.std.proofs.Common.{◌≡◌, ◌∙◌, ℕ, ◌+◌, ◌-◌, ◌<◌, ◌≤◌, List, length, drop, ap, sym, arith}
use Rattle.std.proofs.lemmas.List.{drop-drop, drop-set-lt}
use Rattle.xc_tablet.specs.Batch.{CanTake}
use Rattle.xc_poller.specs.Polled.{Took}
use Rattle.xc_tablet.proofs.Zips.{zip_more, all-here}
use Rattle.xc_poller.proofs.delivery.deliver_first.Goals as goal

pub deliver-requires-clause-next : goal.deliver-requires-clause-next
deliver-requires-clause-next c =
    let low : c.loop-i.i < length c.args.tablets.now = omega (arith, c.loop-i-test.true, c.requires.within) in
    (all-here (CanTake c.args.id c.args.from c.args.records.now) c.loop-i.i c.args.tablets.now c.loop-i.tablets c.index-tablets-i.result low
    c.loop-i.invariant.rest c.requires.can).next

pub deliver-requires-clause-not_closed : goal.deliver-requires-clause-not_closed
deliver-requires-clause-not_closed c =
    let low : c.loop-i.i < length c.args.tablets.now = omega (arith, c.loop-i-test.true, c.requires.within) in
    (all-here (CanTake c.args.id c.args.from c.args.records.now) c.loop-i.i c.args.tablets.now c.loop-i.tablets c.index-tablets-i.result low
    c.loop-i.invariant.rest c.requires.can).closed

pub deliver-requires-clause-started : goal.deliver-requires-clause-started
deliver-requires-clause-started c =
    let low : c.loop-i.i < length c.args.tablets.now = omega (arith, c.loop-i-test.true, c.requires.within) in
    (all-here (CanTake c.args.id c.args.from c.args.records.now) c.loop-i.i c.args.tablets.now c.loop-i.tablets c.index-tablets-i.result low
    c.loop-i.invariant.rest c.requires.can).started

pub deliver-requires-clause-keep : goal.deliver-requires-clause-keep
deliver-requires-clause-keep c =
    let low : c.loop-i.i < length c.args.tablets.now = omega (arith, c.loop-i-test.true, c.requires.within) in
    (all-here (CanTake c.args.id c.args.from c.args.records.now) c.loop-i.i c.args.tablets.now c.loop-i.tablets c.index-tablets-i.result low
    c.loop-i.invariant.rest c.requires.can).keep

-- what agrees from j on agrees from further on
agree-further : {A : Type 0} (j k : ℕ) (xs ys : List A) → j ≤ k → drop j ys ≡ drop j xs → drop k ys ≡ drop k xs
agree-further j k xs ys low e =
    let to : j + (k - j) ≡ k = omega arith in
    ap (λ n. drop n ys) (sym to) ∙ sym (drop-drop (k - j) j ys) ∙ ap (drop (k - j)) e ∙ drop-drop (k - j) j xs ∙ ap (λ n. drop n xs) to

pub returns-in_err-deliver-clause-others : goal.returns-in_err-deliver-clause-others
returns-in_err-deliver-clause-others c =
    let i = c.loop-i.i in
    let olds = c.args.tablets.now in
    let here = agree-further i (i + 1) olds c.loop-i.tablets (omega arith) c.loop-i.invariant.rest in
    agree-further (i + 1) c.args.count olds _ (omega (arith, c.loop-i-test.true))
    (drop-set-lt (i + 1) c.loop-i.tablets i c.deliver.new.self (omega arith) ∙ here)

pub loop-i-preserved : goal.loop-i-preserved
loop-i-preserved c =
    let low : c.loop-i.i < length c.args.tablets.now = omega (arith, c.loop-i-test.true, c.requires.within) in
    let took : Took c.args.id c.args.from c.args.records.now c.index-tablets-i.result c.deliver.new.self =
    record {
      taken = rw (← c.index-tablets-i.is) at c.in_ok-deliver.ensures.taken;
      moved = rw (← c.index-tablets-i.is) at
          c.in_ok-deliver.ensures.moved;
    } in
    let p = zip_more (Took c.args.id c.args.from c.args.records.now) c.loop-i.i c.args.tablets.now c.loop-i.tablets c.index-tablets-i.result
    c.deliver.new.self low c.loop-i.invariant.first c.loop-i.invariant.rest c.index-tablets-i.is took in
    record { first = p.0; rest = p.1 }
