use Rattle.std.proofs.Common.{ap, sym, ◌∙◌}
use Rattle.std.specs.Prelude.{◌&&◌, ◌||◌, ◌==◌}
use Rattle.xc_record.specs.Hash.{hash_of}
use Rattle.xc_agree.specs.declared.held.Held.{Held}
use Rattle.xc_agree.specs.Held.{is_held, writes_at}
use Rattle.xc_agree.proofs.HeldLaws.{ops-next, ops-done, slots-more}
use Rattle.xc_agree.proofs.held.hold_ops.Goals as goal

pub loop-op-init : goal.loop-op-init
loop-op-init c = record {
  held = λ n h. ap (λ ops. is_held c.args.held.now.items n h || (c.args.waiter.txn == n && writes_at h ops))
      (c.into_iter-op-iterator.ensures.into_iter_gives ∙ c.iter-op-items.ensures.all);
  slots = λ commits at h. h;
}

pub loop-op-preserved : goal.loop-op-preserved
loop-op-preserved c =
    let x : Held = record { txn = c.args.waiter.txn; slot = c.args.waiter.slot; hash = c.hash_bytes.result } in
    record {
      held = ops-next c.args.held.now.items c.loop-op.held.items c.push.new.self.items x c.in-Some.op c.args.ops.now c.loop-op.op-iterator
          c.next.new.self c.in-Some.ensures.steps (c.hash_bytes.ensures ∙ ap hash_of c.key_bytes.ensures.bytes)
          c.in_ok-push.ensures.items c.loop-op.invariant.held;
      slots = λ commits at h. slots-more commits c.loop-op.held.items c.push.new.self.items x c.in_ok-push.ensures.items at
          (c.loop-op.invariant.slots commits at h);
    }

pub returns-clause-held : goal.returns-clause-held
returns-clause-held c =
    λ n h. sym (ops-done n h (is_held c.loop-op.held.items n h) (c.args.waiter.txn == n) c.loop-op.op-iterator c.in-None.ensures.steps.0)
    ∙ c.loop-op.invariant.held n h

pub returns-clause-slots : goal.returns-clause-slots
returns-clause-slots c = λ commits at h. c.loop-op.invariant.slots commits at h
