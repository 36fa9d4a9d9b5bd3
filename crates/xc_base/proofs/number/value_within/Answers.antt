use Rattle.std.proofs.Common.{◌≡◌, ◌<◌, ◌+◌, ◌*◌, drop, arith}
use Rattle.std.proofs.lemmas.Bool.Decides.{nat_tests}
use Rattle.std.specs.Str.Parse.{digits_value, digits_value_after}
use Rattle.xc_base.proofs.WordLaws.{takes_digit, digits_value_after-le}
use Rattle.xc_base.proofs.number.value_within.Goals as goal
use Rattle.xc_base.proofs.number.value_within.Goals.{then-max-digit-via-then-max-digit, then-max-digit-via-else-max-digit+then-max-digit-2}

pub returns-then-max-digit : goal.returns-then-max-digit
returns-then-max-digit c =
    let taken = takes_digit c.loop-byte.value c.args.digits.now c.loop-byte.byte-index c.loop-byte-test.true c.loop-byte.invariant.digits in
    let grows = digits_value_after-le (10 * c.loop-byte.value + c.from-digit.result) (drop (c.loop-byte.byte-index + 1) c.args.digits.now)
    in
    let same : digits_value_after 10 (10 * c.loop-byte.value + c.from-digit.result) (drop (c.loop-byte.byte-index + 1) c.args.digits.now) ≡
    digits_value 10 c.args.digits.now =
    cc (taken.value, c.loop-byte.invariant.rest, c.from-digit.ensures) in
    let above : c.args.max < digits_value 10 c.args.digits.now =
    elim c.then-max-digit.branch
    [ then-max-digit-via-then-max-digit w ↦ omega arith | then-max-digit-via-else-max-digit+then-max-digit-2 w ↦ omega arith ] in
    grind (arith, nat_tests)

pub loop-byte-preserved : goal.loop-byte-preserved
loop-byte-preserved c =
    let taken = takes_digit c.loop-byte.value c.args.digits.now c.loop-byte.byte-index c.loop-byte-test.true c.loop-byte.invariant.digits in
    record { rest = cc (taken.value, c.loop-byte.invariant.rest, c.from-digit.ensures); digits = taken.rest; within = omega arith }
