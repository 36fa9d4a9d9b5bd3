use Rattle.std.proofs.Common.{sym, subst, ◌∙◌, arith}
use Rattle.std.proofs.lemmas.Result.{err_from_is_err_and}
use Rattle.xc_text.proofs.SubsRead.{Risen, at_left, risen_form, risen_misplaced, risen_more, inserted, risen_all, risen_empty}
use Rattle.xc_text.proofs.without.read_subs.Goals as goal
use Rattle.xc_text.proofs.without.read_subs.Goals.{then-sub-last-via-then-sub-last, then-sub-last-via-else-sub-last+then-sub}

pub returns-in_err-sub : goal.returns-in_err-sub
returns-in_err-sub c =
    let p = err_from_is_err_and c.from_residual.result c.from_residual.ensures.1 in
    rw (p.1, p.2, c.in_err-sub.ensures.0)
    (risen_form c.words.subs c.words.last _ _ _ (at_left _ _ _ _ _ c.words.invariant c.in-Some.ensures) c.in_err-sub.ensures.1)

pub returns-then-sub-last : goal.returns-then-sub-last
returns-then-sub-last c =
    rw c.misplaced.ensures
    (risen_misplaced c.words.subs c.words.last c.in_ok-sub.sub _ _ _ (at_left _ _ _ _ _ c.words.invariant c.in-Some.ensures)
    c.in_ok-sub.ensures
    (λ above low. elim c.then-sub-last.branch [
      | then-sub-last-via-then-sub-last w ↦ let x = w.if-sub-last.true in omega arith
      | then-sub-last-via-else-sub-last+then-sub w ↦ let x = w.if-sub.true in omega arith
    ]))

pub words-preserved : goal.words-preserved
words-preserved c =
    let before = at_left _ _ _ _ _ c.words.invariant c.in-Some.ensures in
    subst (λ ns. Risen ns c.in_ok-sub.sub c.next.new.self c.args.words) (sym (c.insert.ensures
    ∙ inserted c.words.subs c.words.last c.in_ok-sub.sub _ _ before c.if-sub-last.false))
    (risen_more c.words.subs c.words.last c.in_ok-sub.sub _ _ _ before c.in_ok-sub.ensures c.if-sub-last.false c.if-sub.false)

pub returns-then-last-eq0 : goal.returns-then-last-eq0
returns-then-last-eq0 c =
    risen_empty c.words.subs c.words.last _ (at_left _ _ _ _ _ c.words.invariant c.in_default.ensures.0)
    (let x = c.if-last-eq0.true in omega arith)

pub returns : goal.returns
returns c = risen_all c.words.subs c.words.last _ (at_left _ _ _ _ _ c.words.invariant c.in_default.ensures.0)
    (let x = c.if-last-eq0.false in omega arith)
