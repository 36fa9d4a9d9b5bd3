use Rattle.std.proofs.Common.{◌≡◌, ◌∙◌, List, Some, ap, sym, subst, length}
use Rattle.std.proofs.lemmas.Option.{same_Some}
use Rattle.xc_record.specs.declared.record.Header.{Header}
use Rattle.xc_record.specs.declared.record.Logs.{Logs}
use Rattle.xc_record.specs.Valid.{headers_of}
use Rattle.xc_logs.specs.Feed.{IsFeed, counts_of}
use Rattle.xc_target.specs.Target.{TargetState, FitsFeed}
use Rattle.xc_tool.proofs.CommandRuns.{targets-long}
use Rattle.xc_tool.proofs.replay.run_session.Goals as goal

pub run_commands-requires-clause-allowed : goal.run_commands-requires-clause-allowed
run_commands-requires-clause-allowed g c =
    let targets : length c.in-Ok-new.target.tablets ≡ length c.args.script.now.bounds =
    ap (λ (t : TargetState). length t.tablets) c.in-Ok-new.ensures.new ∙ targets-long c.deref.result.now c.as_slice.result.now
    ∙ ap length c.as_slice.ensures in
    rw (c.count.ensures, targets, c.as_slice-commands.ensures) c.requires.allowed.commands

pub run_commands-requires-clause-fits : goal.run_commands-requires-clause-fits
run_commands-requires-clause-fits g c =
    let told = c.new-feed.result.logs.now in
    let same : told ≡ c.args.logs.now = same_Some told c.args.logs.now c.new-feed.ensures in
    let headers : c.deref.result.now ≡ headers_of told.tablets =
    c.deref.ensures.value ∙ c.in-Ok.ensures.headers ∙ ap (λ (l : Logs). headers_of l.tablets) (sym same) in
    let shape : IsFeed (headers_of told.tablets) (counts_of told) (Some told) = c.new-feed.result.shape in
    subst (λ (h : List Header). FitsFeed h (counts_of told) c.in-Ok-new.target) headers
    (c.in-Ok-new.ensures.fits (counts_of told) (Some told)
    (subst (λ (h : List Header). IsFeed h (counts_of told) (Some told)) (sym headers) shape))
