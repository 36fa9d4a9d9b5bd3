use Rattle.std.proofs.Common.{arith}
use Rattle.xc_base.proofs.NameLemmas.{below-bytes}
use Rattle.xc_base.proofs.name.are_bytes.Goals as goal

pub returns : goal.returns
returns c = below-bytes c.args.bytes.now (λ i. let f = c.type_inv.bytes i in omega arith)
