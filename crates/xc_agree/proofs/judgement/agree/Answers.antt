use Rattle.std.proofs.Common.{refl}
use Rattle.xc_agree.proofs.AuditLaws.{fails, audits, undone-here}
use Rattle.xc_agree.proofs.judgement.agree.Goals as goal

pub first_case-requires-clause-undone : goal.first_case-requires-clause-undone
first_case-requires-clause-undone c = undone-here c.tablets-tablets.result.now c.in_ok-tally.tally c.in_ok-tally.ensures

pub returns-in-Some-clause-fail : goal.returns-in-Some-clause-fail
returns-in-Some-clause-fail c =
    fails c.tablets-tablets.result.now c.args.logs.now c.in_ok-tally.tally c.in_ok-first.first c.in-Some.case
    c.tablets-tablets.ensures.tablets c.in_ok-tally.ensures c.in_ok-first.ensures c.in-Some.is

pub returns-clause-audit : goal.returns-clause-audit
returns-clause-audit c =
    audits c.tablets-tablets.result.now c.args.logs.now c.in_ok-runs.runs.items c.as_slice-3.result.now c.in_ok-tally.tally
    c.in_ok-first.first _ c.tablets-tablets.ensures.tablets c.as_slice-3.ensures.value c.in_ok-runs.ensures c.in_ok-tally.ensures
    c.in_ok-first.ensures c.in_default.is c.in_ok-ends_of.ensures refl
