use Rattle.xc_arena.specs.Arena.{key_at}
use Rattle.xc_versions.proofs.HeadLaws.{key-bytes, slot-bytes}
use Rattle.xc_versions.proofs.stored.Slot.order_to.Goals as goal

pub returns-in-Some : goal.returns-in-Some
returns-in-Some c =
    let b = c.args.bytes.now in
    let mine = c.args.self.now in
    c.in-Some.ensures (key_at b mine.at) c.args.key.now (slot-bytes b mine c.requires.slot)
    (key-bytes c.args.key.now c.bytes-key.ensures.key) c.requires.slot.head c.requires.head
