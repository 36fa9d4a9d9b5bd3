use Rattle.std.proofs.Common.{ap, arith}
use Rattle.xc_record.proofs.OrderLaws.{accepted-length}
use Rattle.std.proofs.lemmas.List.{length-drop, length-take}
use Rattle.xc_change.specs.Reader.{ReaderState}
use Rattle.xc_change.proofs.reader.Reader.check.Goals as goal

pub overflow_add-self : goal.overflow_add-self
overflow_add-self c =
    let found = c.walk_records-walk.ensures.accepted in
    let small = c.requires.small in
    let size = c.requires.few in
    let is = ap (λ (r : ReaderState). r.checked) c.self.view_is in
    grind (arith, found, small, size, is, accepted-length, length-take, length-drop)
