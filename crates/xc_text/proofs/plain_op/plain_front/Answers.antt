use Rattle.std.proofs.Common.{refl, sym, ◌∙◌}
use Rattle.xc_text.proofs.PlainFronts.{front_more}
use Rattle.xc_text.proofs.plain_op.plain_front.Goals as goal

pub loop-i-preserved : goal.loop-i-preserved
loop-i-preserved c =
    rw c.hash_with-hash.ensures
    (front_more c.loop-i.i c.loop-i.hash _ c.args.bytes.now c.loop-i.invariant c.loop-i-test.true refl
    (sym c.in_alphabet.ensures ∙ c.if-not-in_alphabet.false))
