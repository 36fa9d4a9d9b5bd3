use Rattle.std.proofs.Common.{ap, sym, ◌∙◌}
use Rattle.std.specs.Prelude.{option_map}
use Rattle.xc_agree.proofs.CommitLaws.{no-slot, field-at-slot}
use Rattle.xc_agree.proofs.look.Look.find.Goals as goal

pub returns-in_err-slot-clause-time : goal.returns-in_err-slot-clause-time
returns-in_err-slot-clause-time c =
    ap (option_map (λ p. p.1.now.time)) c.from_residual.ensures
    ∙ sym (no-slot (λ commit. commit.time) c.args.commits.now c.args.txn (sym c.slot.ensures ∙ c.in_err-slot.was))

pub returns-clause-time : goal.returns-clause-time
returns-clause-time c =
    sym (field-at-slot (λ commit. commit.time) c.args.commits.now c.args.txn c.in_ok-slot.slot c.at.result.now (sym c.slot.ensures
    ∙ c.in_ok-slot.was) c.at.ensures)

pub returns-in_err-slot-clause-undone : goal.returns-in_err-slot-clause-undone
returns-in_err-slot-clause-undone c =
    ap (option_map (λ p. p.1.now.without)) c.from_residual.ensures
    ∙ sym (no-slot (λ commit. commit.without) c.args.commits.now c.args.txn (sym c.slot.ensures ∙ c.in_err-slot.was))

pub returns-clause-undone : goal.returns-clause-undone
returns-clause-undone c =
    sym (field-at-slot (λ commit. commit.without) c.args.commits.now c.args.txn c.in_ok-slot.slot c.at.result.now (sym c.slot.ensures
    ∙ c.in_ok-slot.was) c.at.ensures)
