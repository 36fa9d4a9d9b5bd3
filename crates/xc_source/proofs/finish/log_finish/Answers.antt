use Rattle.std.proofs.Common.{◌≡◌, ◌∙◌, ap, rules}
use Rattle.xc_source.specs.Universe.{unlogged_all}
use Rattle.xc_source.specs.Finish.{applies_in}
use Rattle.xc_source.proofs.FinishLaws.{unlogged-applies}
use Rattle.xc_source.proofs.finish.log_finish.Goals as goal

pub returns-then-is_err-clause-err : goal.returns-then-is_err-clause-err
returns-then-is_err-clause-err c =
    let j = c.args.journal.now in
    let same : c.log_safes.new.self ≡ c.log_applies.new.journal = search rules in
    let back : c.unlog_all.new.self ≡ unlogged_all c.in_ok-places.places.items c.log_safes.new.self = search rules in
    back ∙ ap (unlogged_all c.in_ok-places.places.items) (same ∙ c.in_ok-log_applies.ensures.ok)
    ∙ ap (λ ids. unlogged_all ids (applies_in c.args.txns.now c.args.pairs.now j)) c.in_ok-places.ensures
    ∙ unlogged-applies c.args.txns.now c.args.pairs.now j c.requires.committed
