-- the digest so far and the bytes that are left give the whole digest
use Rattle.std.proofs.Common.{◌≡◌, drop}
use Rattle.xc_tool.specs.Generated.{digest, digest_from}
use Rattle.xc_tool.proofs.generate.digest.Given as goal

abbrev pub invariant-loop-byte : goal.invariant-loop-byte
invariant-loop-byte l = record { on : digest_from l.digest (drop l.byte-index l.bytes) ≡ digest l.bytes }
