use Rattle.std.proofs.Common.{◌≡◌, ◌+◌, ◌*◌, ◌^◌, ◌<◌, true, get_or, sym, ◌∙◌, arith}
use Rattle.std.specs.Char.{is_ascii_digit}
use Rattle.xc_base.proofs.WordLaws.{takes_byte, digit_at_most, one_more_digit, nineteen_digits}
use Rattle.xc_base.proofs.number.short_value.Goals as goal

-- the value with the next digit behind it
next_small : (c : goal.After-from) → 10 * c.loop-byte.value + c.from.result < 10 ^ (c.loop-byte.byte-index + 1)
next_small c =
    let digit : is_ascii_digit (get_or c.args.word.now c.loop-byte.byte-index 0) ≡ true =
    sym c.is_ascii_digit.ensures.value ∙ c.if-not-is_ascii_digit.false in
    let most = digit_at_most (get_or c.args.word.now c.loop-byte.byte-index 0) digit in
    one_more_digit c.loop-byte.value c.from.result c.loop-byte.byte-index c.loop-byte.invariant.small (omega (arith, most))

pub overflow_mul-value : goal.overflow_mul-value
overflow_mul-value c =
    let small = one_more_digit c.loop-byte.value 0 c.loop-byte.byte-index c.loop-byte.invariant.small (omega arith) in
    let fits : 10 * c.loop-byte.value + 0 < 2 ^ 64 = nineteen_digits _ _ small (omega arith) in
    omega arith

pub overflow_add-value : goal.overflow_add-value
overflow_add-value c =
    let fits : 10 * c.loop-byte.value + c.from.result < 2 ^ 64 = nineteen_digits _ _ (next_small c) (omega arith) in
    omega arith

pub loop-byte-preserved : goal.loop-byte-preserved
loop-byte-preserved c =
    let digit : is_ascii_digit (get_or c.args.word.now c.loop-byte.byte-index 0) ≡ true =
    sym c.is_ascii_digit.ensures.value ∙ c.if-not-is_ascii_digit.false in
    let taken = takes_byte c.loop-byte.value c.args.word.now c.loop-byte.byte-index c.loop-byte-test.true digit in
    record {
      rest = cc (taken.value, c.loop-byte.invariant.rest, c.from.ensures);
      digits = sym taken.rest
          ∙ c.loop-byte.invariant.digits;
      small = next_small c;
    }
