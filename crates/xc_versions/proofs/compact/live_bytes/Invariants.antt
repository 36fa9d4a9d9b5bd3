use Rattle.std.proofs.Common.{◌≡◌, length, take}
use Rattle.xc_versions.specs.Pages.{live_of}
use Rattle.xc_versions.proofs.compact.live_bytes.Given as goal

abbrev pub invariant-loop-i : goal.invariant-loop-i
invariant-loop-i l = l.live ≡ length (live_of l.bytes (take l.i l.pages.items))
