use Rattle.std.proofs.Common.{subst, sym, ◌∙◌}
use Rattle.std.proofs.lemmas.List.{take_all}
use Rattle.xc_agree.specs.Cases.{AreLast}
use Rattle.xc_agree.proofs.ChildLaws.{none-last, last-more}
use Rattle.xc_agree.proofs.tablets.last_children.Goals as goal

pub loop-i-init : goal.loop-i-init
loop-i-init c = record { count = sym c.in_ok-lasts.lasts.ok.0 ∙ c.in_ok-lasts.ensures.len; last = none-last c.in_ok-lasts.lasts.items }

pub loop-i-preserved : goal.loop-i-preserved
loop-i-preserved c = record {
  count = c.note_child.ensures.count ∙ c.loop-i.invariant.count;
  last = last-more c.loop-i.lasts.items c.note_child.new.lasts.items c.args.tablets.now c.loop-i.i c.index-tablets-i.result
      c.loop-i-test.true c.index-tablets-i.is c.loop-i.invariant.last c.note_child.ensures.last;
}

pub returns-clause-count : goal.returns-clause-count
returns-clause-count c = c.loop-i.invariant.count

pub returns-clause-last : goal.returns-clause-last
returns-clause-last c =
    subst (AreLast c.loop-i.lasts.items) (take_all c.loop-i.i c.args.tablets.now c.loop-i-test.false) c.loop-i.invariant.last
