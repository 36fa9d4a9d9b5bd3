use Rattle.std.proofs.Common.{ap, arith, length}
use Rattle.xc_change.specs.Reader.{ReaderState}
use Rattle.xc_record.specs.declared.record.Records.{Records}
use Rattle.xc_change.proofs.ReaderLaws.{new-within}
use Rattle.xc_change.proofs.reader.Reader.take.Goals as goal

pub overflow_add-good : goal.overflow_add-good
overflow_add-good c =
    let found = c.check-walk.ensures.accepted in
    let few = new-within c.args.self.now c.as_slice.result.now in
    let same = ap (λ (rs : Records). length rs) c.as_slice.ensures in
    let small = c.requires.small in
    let size = c.requires.few in
    let is = ap (λ (r : ReaderState). r.checked) c.self.view_is in
    omega (arith, found, few, same, small, size, is)
