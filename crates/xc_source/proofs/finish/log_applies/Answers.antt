use Rattle.std.proofs.Common.{◌≡◌, ◌∙◌, ap, rules, take, true, arith, get_or}
use Rattle.std.proofs.lemmas.List.Sums.{AllPass-from_list_all}
use Rattle.xc_source.specs.Holders.{numbered, committed_at}
use Rattle.xc_source.specs.Machine.{commit_of}
use Rattle.std.specs.Prelude.{is_some}
use Rattle.xc_source.specs.Universe.{unlogged_all}
use Rattle.xc_source.specs.Finish.{applies_in}
use Rattle.xc_source.proofs.NumberedLaws.{test-within}
use Rattle.xc_source.proofs.FinishLaws.{unlogged-first}
use Rattle.xc_source.proofs.finish.log_applies.Goals as goal

pub at-requires-clause-begun : goal.at-requires-clause-begun
at-requires-clause-begun c =
    let p = get_or c.args.pairs.now c.loop-i.i (0, 0) in
    let there : committed_at (numbered c.args.txns.now p.0) ≡ true =
    AllPass-from_list_all (λ p. committed_at (numbered c.args.txns.now p.0)) c.args.pairs.now c.requires.committed c.loop-i.i (0, 0)
    c.loop-i-test.true in
    let w = test-within (λ t. is_some (commit_of t.stage)) c.args.txns.now p.0 there in
    omega (arith, w.0, w.1)

pub returns-then-is_err-clause-err : goal.returns-then-is_err-clause-err
returns-then-is_err-clause-err c =
    let ids = take c.loop-i.i c.args.places.now in
    let same : c.log_apply.new.journal ≡ c.loop-i.journal = search rules in
    let back : c.unlog_all.new.self ≡ unlogged_all ids c.log_apply.new.journal = search rules in
    back ∙ ap (unlogged_all ids) (same ∙ c.loop-i.invariant.logged)
    ∙ ap (λ ns. unlogged_all (take c.loop-i.i ns) (applies_in c.args.txns.now (take c.loop-i.i c.args.pairs.now) c.args.journal.now))
    c.requires.places
    ∙ unlogged-first c.args.txns.now c.args.pairs.now c.loop-i.i c.args.journal.now c.requires.committed
