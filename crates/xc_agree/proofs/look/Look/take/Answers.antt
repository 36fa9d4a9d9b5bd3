use Rattle.std.proofs.Common.{refl, ap, sym, ◌∙◌}
use Rattle.xc_record.specs.declared.record.Kind.TheVariants.{Apply, Safe}
use Rattle.xc_agree.proofs.LookLaws.{takes-same}
use Rattle.xc_agree.proofs.look.Look.take.Goals as goal

pub returns-in_ok-take_intent-in-Intent-clause-taken :
    goal.returns-in_ok-take_intent-in-Intent-clause-taken
returns-in_ok-take_intent-in-Intent-clause-taken c =
    takes-same _ _ _ _ _ _ _ c.get.ensures.value (sym c.in-Intent.is)
    (c.in_ok-take_intent-in-Intent.ensures.taken c.in-Intent.sub c.in-Intent.ops)

pub returns-in-Apply-clause-taken : goal.returns-in-Apply-clause-taken
returns-in-Apply-clause-taken c =
    takes-same _ _ _ _ _ _ _ refl (ap (λ commit. Apply c.in-Apply.txn commit c.in-Apply.without) c.get-in-Apply.ensures.value
    ∙ sym c.in-Apply.is) (c.take_apply.ensures.taken c.args.r.now.time)

pub returns-in-Abort-clause-taken : goal.returns-in-Abort-clause-taken
returns-in-Abort-clause-taken c = takes-same _ _ _ _ _ _ _ refl (sym c.in-Abort.is) (c.take_abort.ensures.taken c.args.r.now.time)

pub returns-in-Safe-clause-taken : goal.returns-in-Safe-clause-taken
returns-in-Safe-clause-taken c =
    takes-same _ _ _ _ _ _ _ refl (ap Safe c.get-in-Safe.ensures.value
    ∙ sym c.in-Safe.is) (c.take_safe.ensures.taken c.args.commits.now c.args.r.now.time)
