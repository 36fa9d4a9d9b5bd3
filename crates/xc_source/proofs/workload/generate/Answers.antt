use Rattle.xc_source.proofs.WorkloadLaws.{four_are_roots}
use Rattle.xc_source.proofs.workload.generate.Goals as goal

pub new-requires-clause-roots : goal.new-requires-clause-roots
new-requires-clause-roots c =
    four_are_roots c.root.result c.root-2.result c.root-3.result c.root-4.result c.root.ensures c.root-2.ensures c.root-3.ensures
    c.root-4.ensures
