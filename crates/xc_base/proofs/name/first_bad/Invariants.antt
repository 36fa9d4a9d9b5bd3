use Rattle.std.proofs.Common.{◌≡◌, ◌+◌, drop, not}
use Rattle.std.specs.List.{position_or_len}
use Rattle.xc_base.specs.Names.{in_alphabet}
use Rattle.xc_base.proofs.name.first_bad.Given as goal

abbrev pub invariant-loop-i : goal.invariant-loop-i
invariant-loop-i l =
    l.i + position_or_len (λ byte. not (in_alphabet byte)) (drop l.i l.bytes) ≡ position_or_len (λ byte. not (in_alphabet byte)) l.bytes
