use Rattle.xc_record.proofs.PackedLaws.{at-cut}
use Rattle.xc_record.proofs.packed.op_bytes.Goals as goal

pub returns : goal.returns
returns c = at-cut c.args.bytes.now _ c.requires c.after_op.ensures
