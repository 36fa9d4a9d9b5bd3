use Rattle.std.proofs.Common.{◌≡◌, List, ◌<◌, length, sym, ap, ◌∙◌, subst, arith}
use Rattle.std.proofs.lemmas.List.{length-map}
use Rattle.xc_record.specs.declared.record.Record.{Record}
use Rattle.xc_record.specs.declared.record.Tablet.{Tablet}
use Rattle.xc_record.specs.Accepted.{records}
use Rattle.xc_record.specs.Valid.{headers_of}
use Rattle.xc_logs.specs.Feed.{fetched, counts_of, KeepHeader}
use Rattle.xc_logs.proofs.FeedFacts.{kept_at}
use Rattle.xc_logs.proofs.memory_feed.MemoryFeedFeed.fetch.Goals as goal

pub returns-clause-keep : goal.returns-clause-keep
returns-clause-keep c =
    let logs = c.args.self.now.logs.now in
    let within : c.args.id < length logs.tablets = omega (arith, c.requires.tablet, length-map logs.tablets (λ (t : Tablet). t.header)) in
    let given : c.in_ok-given.given ≡ fetched (records logs c.args.id) c.args.from c.args.max =
    c.in_ok-given.ensures ∙ c.part.ensures ∙ ap (λ (rs : List Record). fetched rs c.args.from c.args.max) c.records.ensures in
    subst (KeepHeader (headers_of logs.tablets) (counts_of logs) c.args.id c.args.from) (sym given)
    (kept_at logs c.args.id c.args.from c.args.max c.tablets-tablets.ensures.valid within c.requires.from_first)
