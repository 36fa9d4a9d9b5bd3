use Rattle.std.proofs.Common.{◌≡◌, ℕ, List, None, subst}
use Rattle.std.specs.Prelude.{if◌then◌else◌}
use Rattle.xc_agree.specs.declared.look.Waiter.{Waiter}
use Rattle.xc_agree.specs.Seen.{waits_at, is_slot_of}
use Rattle.xc_agree.proofs.BeginLaws.{cleared}
use Rattle.xc_agree.proofs.look.Look.clear.Goals as goal

pub returns : goal.returns
returns c = λ commits seen h.
    cleared c.args.self.now (record c.args.self.now { waiting = c.stop_all.new.waiting; began = c.clear.new.self }) commits seen h
    c.stop_all.ensures.len
    (subst (λ (ws : List Waiter). (i : ℕ) → waits_at c.stop_all.new.waiting.items i ≡
    (if is_slot_of i ws then None else waits_at c.args.self.now.waiting.items i)) c.as_slice.ensures.value c.stop_all.ensures.since)
    c.clear.ensures.items
