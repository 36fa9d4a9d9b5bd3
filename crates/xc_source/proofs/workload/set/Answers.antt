use Rattle.xc_source.proofs.WorkloadLaws.{set_run}
use Rattle.xc_source.proofs.workload.set.Goals as goal

pub returns : goal.returns
returns c =
    set_run c.args.key c.args.value c.key_of-key.result c.value_of-value.result c.args.u.now c.put.new.self _ c.key_of-key.ensures
    c.value_of-value.ensures c.in_ok-put.ensures
