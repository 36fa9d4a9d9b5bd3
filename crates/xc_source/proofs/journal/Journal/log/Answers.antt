use Rattle.std.proofs.Common.{arith}
use Rattle.std.proofs.lemmas.Grind.{common_steps}
use Rattle.xc_source.proofs.TabletLaws.{records_in-with_record, length-with_record}
use Rattle.xc_source.proofs.journal.Journal.log.Goals as goal

pub invariant_of-self-then-id-as_slice : goal.invariant_of-self-then-id-as_slice
invariant_of-self-then-id-as_slice c = record {
  all = grind (arith, common_steps, records_in-with_record);
  most = grind (arith, common_steps);
  few = grind (arith, common_steps, length-with_record);
}
