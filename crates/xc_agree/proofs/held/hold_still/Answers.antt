use Rattle.std.proofs.Common.{get_or, refl, ap, ◌∙◌, subst}
use Rattle.std.specs.Prelude.{◌&&◌, ◌||◌, ◌==◌}
use Rattle.std.proofs.lemmas.List.{take_all}
use Rattle.xc_agree.specs.declared.held.Held.{Held}
use Rattle.xc_agree.specs.Held.{is_held, StaysHeld}
use Rattle.xc_agree.proofs.HeldLaws.{still-more}
use Rattle.xc_agree.proofs.held.hold_still.Goals as goal

pub loop-x-init : goal.loop-x-init
loop-x-init c = λ commits slots. record { waits = λ n h. rw c.new-still.ensures.items refl; slots = rw c.new-still.ensures.items refl }

pub loop-x-preserved : goal.loop-x-preserved
loop-x-preserved c = λ commits slots.
    let none : Held = record { txn = 0; slot = 0; hash = 0 } in
    let x : Held = get_or c.args.held.now c.loop-x.x-index none in
    still-more commits c.args.look.now c.args.header.now c.args.held.now c.loop-x.still.items c.keep.new.held.items c.loop-x.x-index none
    slots c.loop-x-test.true (c.loop-x.invariant commits slots)
    (λ n h. c.in_ok-keep.ensures.held n h
    ∙ ap (λ b. is_held c.loop-x.still.items n h || (b && (x.txn == n && x.hash == h))) c.stays.ensures) (c.in_ok-keep.ensures.slots
    commits)

pub returns : goal.returns
returns c = λ commits slots. subst (StaysHeld c.loop-x.still.items commits c.args.look.now c.args.header.now)
    (take_all c.loop-x.x-index c.args.held.now c.loop-x-test.false) (c.loop-x.invariant commits slots)
