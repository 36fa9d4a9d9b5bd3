use Rattle.xc_source.proofs.WorkloadLaws.{commit_run}
use Rattle.xc_source.proofs.workload.commit.Goals as goal

pub returns : goal.returns
returns c =
    commit_run c.args.one c.args.two c.args.value c.key_of-first.result c.key_of-second.result c.value_of-value.result c.args.u.now
    c.begin.new.self c.write.new.self c.write-2.new.self c.commit.new.self c.in_ok-txn.txn _ _ _ c.key_of-first.ensures
    c.key_of-second.ensures c.value_of-value.ensures c.in_ok-txn.ensures c.in_ok-write.ensures c.in_ok-write-2.ensures
    c.in_ok-commit.ensures
