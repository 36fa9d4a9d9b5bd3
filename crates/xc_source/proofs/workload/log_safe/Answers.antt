use Rattle.std.proofs.Common.{arith}
use Rattle.std.proofs.lemmas.Grind.{common_steps}
use Rattle.xc_source.proofs.WorkloadLaws.{safe_position}
use Rattle.xc_source.proofs.workload.log_safe.Goals as goal

pub returns : goal.returns
returns c =
    safe_position c.args.position c.len-2.result c.index-id.result.now c.in_ok-open.open.items c.args.u.now c.safe.new.self _
    c.in_ok-open.ensures (grind (arith, common_steps)) (grind (arith, common_steps)) c.index-id.ensures c.in_ok-safe.ensures
