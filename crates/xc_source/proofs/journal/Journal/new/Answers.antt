use Rattle.std.proofs.Common.{sym, ◌∙◌, ap, arith}
use Rattle.std.proofs.lemmas.Grind.{common_steps}
use Rattle.xc_source.specs.Machine.{records_in}
use Rattle.xc_source.proofs.TabletLaws.{records_in-new}
use Rattle.xc_source.proofs.journal.Journal.new.Goals as goal

pub invariant_of-result : goal.invariant_of-result
invariant_of-result c = record {
  all = sym (ap records_in c.in_ok-tablets.ensures ∙ records_in-new c.args.roots.now);
  most = omega arith;
  few = grind (arith, common_steps);
}
