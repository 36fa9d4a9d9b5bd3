use Rattle.xc_tool.proofs.Workloads.{generated-is-valid, generated-agrees}
use Rattle.xc_tool.proofs.generate.summary_text.Goals as goal

pub summary_of-requires : goal.summary_of-requires
summary_of-requires c =
    rw c.in_ok-universe.ensures
    record { valid = generated-is-valid c.args.number c.args.size; agree = generated-agrees c.args.number c.args.size }
