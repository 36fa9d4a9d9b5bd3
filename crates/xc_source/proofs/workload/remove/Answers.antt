use Rattle.xc_source.proofs.WorkloadLaws.{remove_run}
use Rattle.xc_source.proofs.workload.remove.Goals as goal

pub returns : goal.returns
returns c = remove_run c.args.key c.key_of-key.result c.args.u.now c.put.new.self _ c.key_of-key.ensures c.in_ok-put.ensures
