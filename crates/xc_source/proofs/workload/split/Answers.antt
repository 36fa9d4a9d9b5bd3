use Rattle.std.proofs.Common.{ap, ◌∙◌}
use Rattle.xc_record.specs.declared.record.Logs.{Logs}
use Rattle.xc_source.proofs.WorkloadLaws.{due_split}
use Rattle.xc_source.proofs.workload.split.Goals as goal

pub returns : goal.returns
returns c =
    due_split c.args.step c.in-Some.id c.middle.result c.in-Some.header c.as_slice-tablets.result.now c.args.u.now c.split.new.self _
    c.if-step-ne0.false (c.as_slice-tablets.ensures ∙ ap (λ (l : Logs). l.tablets) c.logs.ensures) c.if-tablets-ge-ENOUGH_TABLETS.false
    c.in-Some.ensures c.middle.ensures c.in_ok-split.ensures
