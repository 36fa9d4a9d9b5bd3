use Rattle.std.proofs.Common.{◌≡◌, ◌∙◌, true, ap, sym, subst}
use Rattle.std.proofs.lemmas.List.{take_all}
use Rattle.xc_record.specs.Headers.{are_headers}
use Rattle.xc_record.specs.Valid.{headers_of}
use Rattle.xc_logs.proofs.ValidFacts.{valid_parts}
use Rattle.xc_logs.proofs.log_set.LogSet.headers.Goals as goal

pub returns-clause-fit : goal.returns-clause-fit
returns-clause-fit c =
    let items = c.tablets-tablet-items.result.now in
    let all = take_all c.loop-tablet.tablet-index items c.loop-tablet-test.false ∙ c.tablets-tablet-items.ensures.tablets in
    let copied = c.loop-tablet.invariant ∙ ap headers_of all in
    subst (λ hs. are_headers hs ≡ true) (sym copied) (valid_parts _ c.tablets-tablet-items.ensures.valid).headers
