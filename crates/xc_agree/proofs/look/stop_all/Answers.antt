use Rattle.std.proofs.Common.{◌≡◌, ℕ, List, subst, None, ◌∙◌}
use Rattle.std.specs.Prelude.{if◌then◌else◌}
use Rattle.std.proofs.lemmas.List.{take_all}
use Rattle.xc_agree.specs.declared.look.Waiter.{Waiter}
use Rattle.xc_agree.specs.Seen.{waits_at, is_slot_of}
use Rattle.xc_agree.proofs.BeginLaws.{stop-more}
use Rattle.xc_agree.proofs.look.stop_all.Goals as goal

pub loop-waiter-preserved : goal.loop-waiter-preserved
loop-waiter-preserved c = record {
  since = stop-more c.args.waiting.now.items c.loop-waiter.waiting.items c.stop.new.waiting.items c.args.waiters.now
      c.loop-waiter.waiter-index (record { txn = 0; slot = 0 }) c.loop-waiter-test.true c.loop-waiter.invariant.since c.stop.ensures.since;
  len = c.stop.ensures.len ∙ c.loop-waiter.invariant.len;
}

pub returns-clause-since : goal.returns-clause-since
returns-clause-since c =
    subst (λ (ws : List Waiter). (i : ℕ) → waits_at c.loop-waiter.waiting.items i ≡
    (if is_slot_of i ws then None else waits_at c.args.waiting.now.items i))
    (take_all c.loop-waiter.waiter-index c.args.waiters.now c.loop-waiter-test.false) c.loop-waiter.invariant.since
