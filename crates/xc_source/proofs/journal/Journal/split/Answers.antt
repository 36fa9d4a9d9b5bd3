use Rattle.std.proofs.Common.{arith}
use Rattle.std.proofs.lemmas.Grind.{common_steps}
use Rattle.xc_source.proofs.TabletLaws.{records_in-split, length-split}
use Rattle.xc_source.proofs.journal.Journal.split.Goals as goal

pub invariant_of-self-2 : goal.invariant_of-self-2
invariant_of-self-2 c = record {
  all = grind (arith, common_steps, records_in-split);
  most = grind (arith, common_steps);
  few = grind (arith, common_steps, length-split);
}
