use Rattle.std.proofs.Common.{List, ℕ, subst, sym}
use Rattle.xc_record.specs.Packed.{IsPacked}
use Rattle.xc_record.specs.Inline.{bytes_of}
use Rattle.xc_record.proofs.PackedLaws.{packed_appended, decode_appended}
use Rattle.xc_record.proofs.ops.Ops.append.Goals as goal

pub invariant_of-self : goal.invariant_of-self
invariant_of-self c =
    let P : List ℕ → Type 0 = λ b. IsPacked b in
    packed_appended _ c.as_slice.result.now c.extend.result (bytes_of c.extend.new.bytes) c.self.invariant
    (subst P (sym c.as_slice.ensures.bytes) c.ops.invariant) c.extend.ensures

pub returns : goal.returns
returns c =
    let P : List ℕ → Type 0 = λ b. IsPacked b in
    rw (← c.self.view_is, ← c.ops.view_is, ← c.as_slice.ensures.bytes)
    (decode_appended _ c.as_slice.result.now c.extend.result (bytes_of c.extend.new.bytes) c.self.invariant
    (subst P (sym c.as_slice.ensures.bytes) c.ops.invariant) c.extend.ensures)
