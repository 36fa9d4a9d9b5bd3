use Rattle.std.proofs.Common.{◌≡◌, ◌+◌, ◌*◌, ◌-◌, ◌≤◌, ◌++◌, take, length, vec_len, vec_capacity}
use Rattle.xc_base.specs.Escapes.{escaped}
use Rattle.xc_base.proofs.word.put_all_escaped.Given as goal

abbrev pub invariant-loop-byte : goal.invariant-loop-byte
invariant-loop-byte l =
    (l.items.items ≡ l.fn.items.items ++ escaped (take l.byte-index l.bytes)) ×
    (vec_len l.items + 3 * (length l.bytes - l.byte-index) ≤ vec_capacity l.items)
