use Rattle.xc_source.proofs.WorkloadLaws.{abort_run}
use Rattle.xc_source.proofs.workload.abort.Goals as goal

pub returns : goal.returns
returns c =
    abort_run c.args.key c.args.value c.key_of-key.result c.value_of-value.result c.args.u.now c.begin.new.self c.write.new.self
    c.abort.new.self c.in_ok-txn.txn _ c.key_of-key.ensures c.value_of-value.ensures c.in_ok-txn.ensures c.in_ok-write.ensures
    c.in_ok-abort.ensures
