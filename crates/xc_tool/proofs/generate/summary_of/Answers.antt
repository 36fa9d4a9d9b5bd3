use Rattle.std.proofs.Common.{◌∙◌, ap, length}
use Rattle.xc_tool.proofs.Generated.{summary-is}
use Rattle.xc_tool.proofs.generate.summary_of.Goals as goal

pub returns : goal.returns
returns c =
    summary-is c.args.universe c.new-logs.result c.in_ok-target.target c.record_count-records.result c.len-commits.result
    c.safe.result c.in_ok-rows_digest.field-0 c.as_slice-rows.result.now (c.new-logs.ensures ∙ c.into_logs.ensures) c.requires.valid
    c.requires.agree c.record_count-records.ensures (c.len-commits.ensures ∙ ap length c.committed.ensures) c.in_ok-target.ensures
    c.safe.ensures
    (λ logs m is st agree. c.as_slice-rows.ensures ∙ c.in_ok-rows.ensures logs m is st agree) c.in_ok-rows_digest.ensures
