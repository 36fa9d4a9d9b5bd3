use Rattle.xc_record.specs.Inline.{bytes_of}
use Rattle.xc_record.proofs.PackedLaws.{packed_after, decode_after}
use Rattle.xc_record.proofs.ops.Ops.push_at.Goals as goal

pub invariant_of-self : goal.invariant_of-self
invariant_of-self c =
    packed_after _ _ c.copy_op.result (bytes_of c.copy_op.new.bytes) c.self.invariant c.copy_op.ensures.well c.copy_op.ensures.items

pub returns : goal.returns
returns c = rw (← c.self.view_is)
    (decode_after _ _ c.copy_op.result (bytes_of c.copy_op.new.bytes) c.self.invariant c.copy_op.ensures.well c.copy_op.ensures.items)
