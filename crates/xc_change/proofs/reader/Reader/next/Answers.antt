use Rattle.std.proofs.Common.{subst}
use Rattle.std.proofs.lemmas.Option.{IfSome_then}
use Rattle.xc_change.specs.Reader.{ReaderState, FitsFeed, ReadsLogs}
use Rattle.xc_change.specs.Taken.{looked}
use Rattle.xc_change.proofs.ReaderLaws.{Gave, Told, fits-looked, next-is, reads-on, next-of}
use Rattle.xc_change.proofs.reader.Reader.next.Given.{Over}
use Rattle.xc_change.proofs.reader.Reader.next.Goals as goal
use Rattle.xc_change.proofs.reader.Reader.next.Goals.{In_ok-records}

gave : (g : Over) (c : In_ok-records g)
    → Gave (g.F.Feed.headers c.args.feed.now) (g.F.Feed.counts c.args.feed.now) c.args.max c.args.self.now c.in_ok-records.records
gave g c =
    let hs = g.F.Feed.headers c.args.feed.now in
    let cs = g.F.Feed.counts c.args.feed.now in
    subst (λ (r : ReaderState). FitsFeed hs cs r → Gave hs cs c.args.max r c.in_ok-records.records) c.self.view_is
    (λ fits. record {
      fits = fits;
      order = c.self.invariant;
      count = c.in_ok-records.ensures.count;
      keep = c.in_ok-records.ensures.keep;
      some = c.requires.some;
    }) c.requires.fits

pub returns-clause-fits : goal.returns-clause-fits
returns-clause-fits g c =
    rw (c.fetch.ensures.feed.same_headers, c.fetch.ensures.feed.same_counts, c.take.ensures.looked)
    (fits-looked _ _ _ _ _ (gave g (goal.at.returns-clause-fits g c).In_ok-records))

pub returns-clause-next : goal.returns-clause-next
returns-clause-next g c =
    rw c.take.ensures.looked
    (next-is _ _ _ _ _ c.take.result (gave g (goal.at.returns-clause-next g c).In_ok-records) c.take.ensures.taken)

pub returns-clause-logs : goal.returns-clause-logs
returns-clause-logs g c =
    let rs = c.in_ok-records.records in
    rw c.take.ensures.looked (IfSome_then (g.F.Feed.logs c.args.feed.now) c.in_ok-records.ensures.told (λ logs given b.
    subst (λ (r : ReaderState). ReadsLogs logs r b → ReadsLogs logs (looked r rs) b) c.self.view_is
    (λ reads. reads-on logs c.args.max _ rs b (record { reads = reads; order = c.self.invariant; some = c.requires.some; given = given }))))

pub returns-clause-next_of : goal.returns-clause-next_of
returns-clause-next_of g c =
    let rs = c.in_ok-records.records in
    IfSome_then (g.F.Feed.logs c.args.feed.now) c.in_ok-records.ensures.told (λ logs given b reads.
    let told : Told logs c.args.max c.args.self.now rs b =
    subst (λ (r : ReaderState). ReadsLogs logs r b → Told logs c.args.max r rs b) c.self.view_is
    (λ reads. record { reads = reads; order = c.self.invariant; some = c.requires.some; given = given }) reads in
    next-of logs c.args.max _ rs b told c.take.result c.take.ensures.taken)
