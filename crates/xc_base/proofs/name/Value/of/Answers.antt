use Rattle.xc_base.proofs.NameLemmas.{value_in}
use Rattle.xc_base.proofs.name.Value.of.Goals as goal

pub invariant_of-result : goal.invariant_of-result
invariant_of-result c = value_in c.args.bytes.now c.copy_from_slice.new.self c.copy_from_slice.ensures.after c.requires
