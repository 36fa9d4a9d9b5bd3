use Rattle.xc_arena.specs.Arena.{key_at}
use Rattle.xc_versions.proofs.HeadLaws.{slot-bytes}
use Rattle.xc_versions.proofs.stored.Slot.key_order.Goals as goal

pub returns-in-Some : goal.returns-in-Some
returns-in-Some c =
    let b = c.args.bytes.now in
    let mine = c.args.self.now in
    let other = c.args.other.now in
    c.in-Some.ensures (key_at b mine.at) (key_at b other.at) (slot-bytes b mine c.requires.slot) (slot-bytes b other c.requires.other)
    c.requires.slot.head c.requires.other.head
