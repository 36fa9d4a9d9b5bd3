-- The bytes so far are digits, so all are where the rest are.
use Rattle.std.proofs.Common.{◌≡◌, drop}
use Rattle.std.specs.Str.{all_ascii_digits}
use Rattle.xc_base.proofs.number.all_digits.Given as goal

abbrev pub invariant-loop-byte : goal.invariant-loop-byte
invariant-loop-byte l = all_ascii_digits (drop l.byte-index l.word) ≡ all_ascii_digits l.word
