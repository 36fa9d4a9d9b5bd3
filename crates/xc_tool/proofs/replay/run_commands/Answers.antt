use Rattle.std.proofs.Common.{refl, ◌∙◌, [], sym}
use Rattle.std.proofs.KnownBytes.{Appends-nil, Appends-trans}
use Rattle.std.proofs.lemmas.Option.{IfSome_then}
use Rattle.xc_logs.proofs.FeedFacts.{same-feed, same-on}
use Rattle.xc_tool.proofs.CommandRuns.{goes-first, on-next, if-some, same-sources, stopped-memory, stopped-writing}
use Rattle.xc_tool.proofs.replay.run_commands.Goals as goal

pub loop-command-init : goal.loop-command-init
loop-command-init g c =
    record {
      went = [];
      out = Appends-nil _;
      kept = record { fits = c.requires.fits; targets = refl };
      feed = same-feed _;
      sources = c.requires.sources;
      goes = if-some (g.F.Feed.logs c.args.feed.now) (λ logs st agree. goes-first logs _ _ st);
      quiet = refl;
      tells = refl;
    }

pub loop-command-preserved : goal.loop-command-preserved
loop-command-preserved g c =
    let kept = c.loop-command.invariant in
    let goes = on-next _ _ kept.went _ _ _ _ _ kept.feed.same_logs c.loop-command-test.true c.command-item.is c.as_slice.ensures
    kept.goes c.in-Ok.ensures.step in
    record {
      went = _;
      out = Appends-trans _ _ _ _ _ kept.out c.in-Ok-write_all.ensures.ok;
      kept = record { fits = c.answer.ensures.kept.fits; targets = c.answer.ensures.kept.targets ∙ kept.kept.targets };
      feed = same-on _ _ _ kept.feed c.answer.ensures.feed;
      sources = kept.sources
          ∙ sym (same-sources _ _ _ _ c.loop-command.target c.answer.new.target kept.kept.fits c.answer.ensures.kept.fits
          c.answer.ensures.feed.same_headers);
      goes = goes;
      quiet = c.write_all.ensures.quiet (λ e. cc) ∙ kept.quiet;
      tells = c.write_all.ensures.told ∙ kept.tells;
    }

pub returns-in-Err-Failed : goal.returns-in-Err-Failed
returns-in-Err-Failed g c =
    let kept = c.loop-command.invariant in
    let goes = on-next _ _ kept.went _ _ _ _ _ kept.feed.same_logs c.loop-command-test.true c.command-item.is c.as_slice.ensures
    kept.goes c.in-Ok.ensures.step in
    let rose = c.write_all.ensures.failed (cc) in
    IfSome_then (g.F.Feed.logs c.args.feed.now) goes
    (λ logs f st agree. stopped-writing _ _ logs _ _ kept.went _ _ _ _ (f st agree) kept.out c.in-Err-Failed.ensures.err
    (rw (← kept.quiet) rose) (c.write_all.ensures.told ∙ kept.tells))

pub returns-in-Err-NoMemory-write_all : goal.returns-in-Err-NoMemory-write_all
returns-in-Err-NoMemory-write_all g c =
    let kept = c.loop-command.invariant in
    let goes = on-next _ _ kept.went _ _ _ _ _ kept.feed.same_logs c.loop-command-test.true c.command-item.is c.as_slice.ensures
    kept.goes c.in-Ok.ensures.step in
    IfSome_then (g.F.Feed.logs c.args.feed.now) goes
    (λ logs f st agree. stopped-memory _ _ logs _ _ kept.went _ _ _ _ (f st agree) kept.out c.in-Err-NoMemory-write_all.ensures.err
    (c.write_all.ensures.quiet (λ e. cc) ∙ kept.quiet) (c.write_all.ensures.told ∙ kept.tells))
