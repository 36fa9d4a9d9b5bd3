use Rattle.xc_record.specs.Inline.{bytes_of}
use Rattle.xc_record.proofs.PackedLaws.{packed_after, decode_after}
use Rattle.xc_record.proofs.ops.Ops.push_bytes.Goals as goal

pub invariant_of-self : goal.invariant_of-self
invariant_of-self c =
    packed_after _ _ c.push_parts.result (bytes_of c.push_parts.new.bytes) c.self.invariant c.push_parts.ensures.well c.push_parts.ensures.items

pub returns : goal.returns
returns c = rw (← c.self.view_is)
    (decode_after _ _ c.push_parts.result (bytes_of c.push_parts.new.bytes) c.self.invariant c.push_parts.ensures.well
    c.push_parts.ensures.items)
