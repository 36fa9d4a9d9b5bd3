use Rattle.std.proofs.Common.{length, ap, arith}
use Rattle.xc_logs.proofs.ValidFacts.{valid_parts}
use Rattle.xc_logs.proofs.log_set.LogSet.count.Goals as goal

pub overflow_cast-result : goal.overflow_cast-result
overflow_cast-result c =
    let few = (valid_parts _ c.tablets.ensures.valid).few in
    omega (arith, ap length c.tablets.ensures.tablets)
