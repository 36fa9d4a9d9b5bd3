use Rattle.std.proofs.Common.{◌≡◌, length, take}
use Rattle.xc_versions.specs.Slots.{bytes_of}
use Rattle.xc_versions.proofs.compact.page_bytes.Given as goal

abbrev pub invariant-loop-i : goal.invariant-loop-i
invariant-loop-i l = l.live ≡ length (bytes_of l.bytes (take l.i l.items.items))
