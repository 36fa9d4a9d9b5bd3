use Rattle.std.proofs.Common.{◌≡◌, ◌+◌, ◌*◌, ◌^◌, ◌<◌, true, get_or, sym, ◌∙◌, arith}
use Rattle.std.specs.Char.{is_ascii_digit}
use Rattle.xc_base.proofs.WordLaws.{one_more_digit, nineteen_digits}
use Rattle.xc_text.proofs.NumberLaws.{IsLeading, one_digit_more}
use Rattle.xc_text.proofs.cut.leading_digits.Goals as goal

next : (c : goal.After-from) → IsLeading (10 * c.loop-len.value + c.from.result) (c.loop-len.len + 1) c.args.bytes.now
next c =
    let digit : is_ascii_digit (get_or c.args.bytes.now c.loop-len.len 0) ≡ true =
    sym c.is_ascii_digit.ensures.value ∙ c.if-is_ascii_digit.true in
    one_digit_more c.loop-len.value c.loop-len.len c.from.result c.args.bytes.now c.loop-len.invariant.0 c.loop-len-test.true digit
    c.from.ensures

pub overflow_mul-value : goal.overflow_mul-value
overflow_mul-value c =
    let leading = c.loop-len.invariant.0 in
    let small = one_more_digit c.loop-len.value 0 c.loop-len.len leading.small (omega arith) in
    let fits : 10 * c.loop-len.value + 0 < 2 ^ 64 = nineteen_digits _ _ small (omega arith) in
    omega arith

pub overflow_add-value : goal.overflow_add-value
overflow_add-value c =
    let more = next c in
    let fits : 10 * c.loop-len.value + c.from.result < 2 ^ 64 = nineteen_digits _ _ more.small (omega arith) in
    omega arith

pub loop-len-preserved : goal.loop-len-preserved
loop-len-preserved c = (next c, omega arith)
