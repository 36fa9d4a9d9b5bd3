use Rattle.std.proofs.Common.{◌≡◌, ◌∙◌, ap, rules, take}
use Rattle.xc_source.specs.Universe.{unlogged_all}
use Rattle.xc_source.proofs.FinishLaws.{unlogged-safes}
use Rattle.xc_source.proofs.journal.Journal.log_safes.Goals as goal

pub returns-then-is_err-clause-err : goal.returns-then-is_err-clause-err
returns-then-is_err-clause-err c =
    let ids = take c.loop-i.i c.args.ids.now in
    let same : c.log_safe.new.self ≡ c.loop-i.self = search rules in
    let back : c.unlog_all.new.self ≡ unlogged_all ids c.log_safe.new.self = search rules in
    back ∙ ap (unlogged_all ids) (same ∙ c.loop-i.invariant.logged) ∙ unlogged-safes ids c.args.self.now
