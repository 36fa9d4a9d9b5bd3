use Rattle.std.proofs.Common.{◌<◌, length, arith}
use Rattle.xc_text.proofs.NumberLaws.{quick_end, quick_more}
use Rattle.xc_text.proofs.cut.short_number.Goals as goal

pub returns-then-len-bytes : goal.returns-then-len-bytes
returns-then-len-bytes c =
    let leading = c.leading_digits-value.ensures in
    let plain = c.is_plain.ensures c.if-not-is_plain.false in
    quick_end c.args.bytes.now c.leading_digits-value.result.1 c.leading_digits-value.result.0 leading.digits leading.spells leading.fits
    plain.0 plain.1 c.if-len-bytes.true

pub returns : goal.returns
returns c =
    let leading = c.leading_digits-value.ensures in
    let plain = c.is_plain.ensures c.if-not-is_plain.false in
    let within = leading.within in
    let other = c.if-len-bytes.false in
    let inside : c.leading_digits-value.result.1 < length c.args.bytes.now = omega (arith, within, other) in
    quick_more c.args.bytes.now c.leading_digits-value.result.1 c.leading_digits-value.result.0 leading.digits leading.spells leading.fits
    plain.0 plain.1 inside c.if-bytes-len-ne32.false
