use Rattle.std.proofs.Common.{◌≡◌, true, sym, ◌∙◌, subst, arith, get_or, rules}
use Rattle.std.proofs.lemmas.Bool.{eq-eqb, ne_eqb}
use Rattle.xc_base.specs.Escapes.{begins_byte}
use Rattle.xc_base.proofs.EscapeLaws.{Counts, rest_is, count_inside, count_byte, count_escape}
use Rattle.xc_base.proofs.word.count.Goals as goal
use Rattle.xc_base.proofs.word.count.Goals.{then-byte-eq37, else-byte-eq37}

pub loop-at-preserved-then-digits-gt0 : goal.loop-at-preserved-then-digits-gt0
loop-at-preserved-then-digits-gt0 c =
    count_inside c.args.word.now c.loop-at.at c.loop-at.digits c.loop-at.len c.loop-at-test.true
    (subst (λ xs. begins_byte xs ≡ true) (rest_is c.args.word.now c.loop-at.at) (sym c.begins_byte.ensures ∙ c.if-not-begins_byte.false))
    c.if-digits-gt0.true c.loop-at.invariant

pub loop-at-preserved : goal.loop-at-preserved
loop-at-preserved c =
    let none : c.loop-at.digits ≡ 0 = omega (arith, c.if-digits-gt0.false) in
    let right = subst (λ xs. begins_byte xs ≡ true) (rest_is c.args.word.now c.loop-at.at) (sym c.begins_byte.ensures
    ∙ c.if-not-begins_byte.false) in
    let here = subst (λ d. Counts c.args.word.now c.loop-at.at d c.loop-at.len) none c.loop-at.invariant in
    elim c.if-byte-eq37.branch [
      | then-byte-eq37 w ↦ rw w.digits-is
          (count_escape c.args.word.now c.loop-at.at c.loop-at.len c.loop-at-test.true right
          (eq-eqb (get_or c.args.word.now c.loop-at.at 0) 37 (search rules)) here)
      | else-byte-eq37 w ↦ rw w.digits-is
          (rw none (count_byte c.args.word.now c.loop-at.at c.loop-at.len c.loop-at-test.true right
          (ne_eqb (get_or c.args.word.now c.loop-at.at 0) 37 (search rules)) here))
    ]
